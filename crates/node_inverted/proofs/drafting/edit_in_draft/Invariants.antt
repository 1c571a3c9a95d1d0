use Rattle.std.proofs.Common.{ℕ, ◌≤◌}
use Rattle.page_face.specs.FreeList.{PageMap}
use Rattle.paged_map.specs.Drafts.{IsLeafDraft}
use Rattle.node_rows.specs.Rows.{Bytes}
use Rattle.node_inverted.specs.Drafts.{EditsUntil, IsDrafting, edits_in}
use Rattle.node_inverted.proofs.drafting.edit_in_draft.Given as goal

-- the changes passed are done
abbrev pub invariant-loop-number : goal.invariant-loop-number
invariant-loop-number l = record {
  sound : (count : ℕ) → IsLeafDraft count l.fn.draft.leaf → IsLeafDraft count l.draft.leaf;
  edited : (count : ℕ) (pages : PageMap) (root : ℕ) (b : Bytes) → IsLeafDraft count l.fn.draft.leaf → IsDrafting pages root b l.fn.draft → EditsUntil pages root l.node l.edits b l.left l.draft;
  fewer : edits_in l.left ≤ edits_in l.edits;
}

abbrev pub decreases-loop-number : goal.decreases-loop-number
decreases-loop-number l = edits_in l.left
