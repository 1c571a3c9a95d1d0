-- A leaf whose rows are changed in memory before it is written.
use Rattle.std.proofs.Common.{◌≡◌, ℕ, ◌^◌, ◌<◌, ◌≤◌, List, ◌++◌, arith, sym, ap, ◌∙◌, subst}
use Rattle.page_face.specs.Causes.{IsUncounted}
use Rattle.page_face.specs.FreeList.{PageMap, with_page}
use Rattle.page_face.specs.Nodes.{count_of}
use Rattle.btree_nodes.specs.declared.form.Form.{Form}
use Rattle.btree_nodes.specs.Rows.{Row, IsWithin, IsEdit, lookup}
use Rattle.btree_nodes.specs.Nodes.{IsLeaf, rows_in}
use Rattle.btree_nodes.specs.Supply.{view, one_at, Moves}
use Rattle.btree_nodes.specs.Tree.{map_uses}
use Rattle.btree_nodes.proofs.Spans.{lookup-above, lookup-below, lookup-append_left, lookup-append_right}
use Rattle.btree_nodes.specs.Build.{image}
use Rattle.btree_nodes.proofs.Supplies.{moves-write, with-other}
use Rattle.btree_delete.proofs.Relinks.{made-count as image-counted}
use Rattle.btree_nodes.specs.Leaves.{IsLeafOf, HoldsInstead}
use Rattle.btree_nodes.specs.Steps.{low_of, high_of}
use Rattle.paged_map.specs.Drafts.{IsDrafted, IsLeafDraft}
use Rattle.paged_map.specs.Maps.{IsKept, HasBecome}
use Rattle.paged_map.specs.declared.draft.LeafDraft.{LeafDraft}
use Rattle.paged_map.proofs.Edits.{IsEdited}

-- a draft whose rows were edited is a leaf still
pub drafted-leaf : (count : ℕ) (edit : List Row → List Row) (old new : LeafDraft) → new.form ≡ old.form → new.page ≡ old.page → new.least ≡ old.least → new.bounds ≡ old.bounds → new.count ≡ count_of new.bytes
    → IsEdited old.form old.least (low_of old.form old.bounds) (high_of old.form old.bounds) edit old.bytes new.bytes → IsLeafDraft count old → IsLeafDraft count new
drafted-leaf count edit old new f p l b n e is = record {
  counted = subst (λ (x : ℕ). IsUncounted count x → ⊥) (sym p) is.counted;
  some = subst (λ (x : ℕ). 1 ≤ x) (sym l) is.some;
  leaf = rw (f, l) e.leaf;
  within = rw (f, b) e.made.within;
  is = n;
}

module _ (form : Form) (pages : PageMap) (root least page low high : ℕ) (bytes : List ℕ) (rows : List Row) (drafted : IsDrafted form pages root least page low high bytes rows) where
  leaf : IsLeafOf form pages root least page low high
  leaf = drafted.leaf

  own : List Row
  own = rows_in form bytes

  module _ (key : ℕ) (from : low ≤ key) (to : key < high) where
    -- the map's rows are edited as the leaf's are
    pub drafted-edit : (edit : List Row → List Row) (bytes' : List ℕ) → IsEdit key edit → rows_in form bytes' ≡ edit (rows_in form bytes) → IsDrafted form pages root least page low high bytes' (edit rows)
    unfolding leaf own
    drafted-edit edit bytes' is_edit made = record {
      leaf = drafted.leaf;
      is = ap edit drafted.is
          ∙ is_edit.right 0 low leaf.front (own ++ leaf.back) leaf.before from
          ∙ ap (λ (x : List Row). leaf.front ++ x) (is_edit.left high (256 ^ form.key) own leaf.back leaf.behind to)
          ∙ ap (λ (x : List Row). leaf.front ++ (x ++ leaf.back)) (sym made);
    }

    -- the row at the key is the leaf's
    pub drafted-lookup : lookup key rows ≡ lookup key (rows_in form bytes)
    unfolding leaf own
    drafted-lookup =
        ap (lookup key) drafted.is
        ∙ lookup-append_right key leaf.front (own ++ leaf.back) (lookup-above 0 low key leaf.front leaf.before from)
        ∙ lookup-append_left key own leaf.back (lookup-below high (256 ^ form.key) key leaf.back leaf.behind to)

  -- written in the place of its leaf it gives the map these rows
  pub drafted-becomes : (free : List ℕ) (count first : ℕ) (new : PageMap) (count' first' : ℕ) → IsLeaf form least bytes → IsWithin low high (rows_in form bytes) → IsKept form (view pages count first free) root
      → new ≡ with_page page bytes pages → count' ≡ count → first' ≡ first → HasBecome form (view pages count first free) new count' first' root root rows
  drafted-becomes free count first new count' first' sound within kept written e f =
      let l : IsLeafOf form pages root least page low high = drafted.leaf in
      let once : (n : ℕ) → map_uses form pages root n ≤ 1 = λ n. let o = kept.once n in omega arith in
      let h : HoldsInstead form pages (with_page page bytes pages) root (l.front ++ (rows_in form bytes ++ l.back)) = l.edit bytes sound within once in
      let used = l.used in
      let here = kept.once page in
      let moved : Moves (view pages count first free) (view (with_page page bytes pages) count first free) (one_at page) (one_at page) = moves-write pages bytes count first page free kept.supplied (omega arith) in
      rw (written, e, f) record {
        free = free;
        kept = record {
          map = h.map;
          supplied = moved.supplied;
          once = λ n. let u = h.uses n in let o = kept.once n in omega arith;
          away = let u = h.uses 0 in let a = kept.away in omega arith;
          some = kept.some;
        };
        has = h.has ∙ sym drafted.is;
        moves = record {
          supplied = moved.supplied;
          kept = λ n. let u = h.uses n in omega arith;
          others = λ n z k. with-other pages bytes page n (λ (at : n ≡ page). let u : map_uses form pages root n ≡ map_uses form pages root page = ap (map_uses form pages root) at in absurd (omega arith));
        };
      }

-- how many rows a leaf has that was made
pub made-count : (number n : ℕ) (cells : List ℕ) → n < 65536 → count_of (image number 1 0 n cells) ≡ n
made-count number n cells small = image-counted number 1 0 n cells (omega arith)
