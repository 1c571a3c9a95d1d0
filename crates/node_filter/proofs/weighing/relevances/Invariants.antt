use Rattle.std.proofs.Common.{◌≡◌, ℕ, ◌<◌, ◌≤◌, ◌*◌, slice_index, take, Ok}
use Rattle.btree_nodes.specs.Tree.{IsMap}
use Rattle.rtree_nodes.specs.Stock.{rows_form}
use Rattle.node_rows.specs.Rows.{bytes_in}
use Rattle.node_filter.specs.Masks.{has_slot}
use Rattle.node_filter.specs.Numbers.{byte_of}
use Rattle.node_filter.specs.Filters.{holds_by, relevance_by}
use Rattle.node_filter.specs.Rows.{LooksAtRows}
use Rattle.node_filter.proofs.weighing.relevances.Given as goal

-- the words so far are weighed
abbrev pub invariant-loop-word : goal.invariant-loop-word
invariant-loop-word g l =
    let p = g.P.Pages in
    record {
      slots : IsMap rows_form (p.pages l.fn.pages) l.tree.rows
          → (i : ℕ) → i < 32 → has_slot l.marks.slots i ≡ holds_by (byte_of l.ids (bytes_in (p.pages l.fn.pages) l.tree.rows l.node) i) (take l.word-index l.words);
      texts : IsMap rows_form (p.pages l.fn.pages) l.tree.rows
          → (i : ℕ) → i < 32 → slice_index l.marks.texts i ≡ relevance_by (byte_of l.ids (bytes_in (p.pages l.fn.pages) l.tree.rows l.node) i) (take l.word-index l.words);
      small : (i : ℕ) → slice_index l.marks.texts i ≤ 65025 * l.word-index;
      rows : LooksAtRows {X = ℕ} p l.tree.rows l.fn.pages l.pages (Ok 0);
    }
