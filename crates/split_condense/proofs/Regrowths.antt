-- What an entry that goes and one that comes make of a tree.
use Rattle.std.proofs.Common.{◌≡◌, ℕ, List, None, Some, Option, Result, arith, ap, subst}
use Rattle.std.specs.Prelude.{OnOk}
use Rattle.page_face.specs.FreeList.{PageMap}
use Rattle.spatial_base.specs.Key.{Name}
use Rattle.row_codec.specs.declared.stored.Stored.{Stored}
use Rattle.rtree_nodes.specs.Slots.{Item, got}
use Rattle.rtree_nodes.specs.Stock.{View, view}
use Rattle.rtree_nodes.specs.Pages.{node_of}
use Rattle.irtree_shape.proofs.Stocks.{moves-further, moves-none}
use Rattle.irtree_shape.specs.Whole.{IsWhole, IsPlanted, IsFelled}
use Rattle.split_condense.specs.declared.entry.Entry.{Entry}
use Rattle.split_condense.specs.Entries.{entry_item}
use Rattle.irtree_shape.specs.Entries.{entry_at}
use Rattle.irtree_shape.specs.Regrown.{IsRegrown}
use Rattle.split_condense.specs.Updates.{entry_for}

-- nothing changed
pub nothing-regrown : (pages : PageMap) (rows count first root : ℕ) (free : List ℕ) (taken put : Option Item) → taken ≡ put → IsWhole node_of (view pages rows count first free) root
    → IsRegrown node_of (view pages rows count first free) pages rows count first root root taken put
nothing-regrown pages rows count first root free taken put same whole = record {
  free = free;
  whole = whole;
  moves = moves-none whole.supplied;
  sum_is = λ f. (let e = ap (got f) same in omega (arith, e));
}

-- an entry went, and none came
pub felled-regrown : (before : View) (pages : PageMap) (rows count first old_root root : ℕ) (x : Item) → IsFelled node_of before pages rows count first old_root root x → IsRegrown node_of before pages rows count first old_root root (Some x) None
felled-regrown before pages rows count first old_root root x h = record {
  free = h.free;
  whole = h.whole;
  moves = h.moves;
  sum_is = λ f. let e = h.sum_is f in omega arith;
}

-- and that of a key's place, if the entry is its
pub entry-regrown : (before : View) (pages : PageMap) (rows count first old_root root : ℕ) (entry : Entry) (key : Name) (stored : Stored) → entry ≡ entry_for key stored
    → IsFelled node_of before pages rows count first old_root root (entry_item entry) → IsRegrown node_of before pages rows count first old_root root (Some (entry_at key stored)) None
entry-regrown before pages rows count first old_root root entry key stored is h =
    felled-regrown before pages rows count first old_root root (entry_at key stored)
    (subst (λ (e : Entry). IsFelled node_of before pages rows count first old_root root (entry_item e)) is h)

-- an entry came, and none went
pub planted-regrown : (before : View) (pages : PageMap) (rows count first old_root root : ℕ) (entry : Entry) (key : Name) (stored : Stored) {rise : ℕ → Type 0} → entry ≡ entry_for key stored
    → IsPlanted node_of before pages rows count first old_root root (entry_item entry) rise → IsRegrown node_of before pages rows count first old_root root None (Some (entry_at key stored))
planted-regrown before pages rows count first old_root root entry key stored is h = record {
  free = h.free;
  whole = h.whole;
  moves = h.moves;
  sum_is = λ f. let e = h.sum_is f in let same = ap (λ (d : Entry). f (entry_item d)) is in omega (arith, e, same);
}

-- the entry that came is that of a key's place
pub planted-for : {E : Type 0} (r : Result (Unit {0}) E) (before : View) (pages : PageMap) (rows count first old_root root : ℕ) (entry : Entry) (key : Name) (stored : Stored) (rise : ℕ → Type 0) → entry ≡ entry_for key stored
    → OnOk r (IsPlanted node_of before pages rows count first old_root root (entry_item entry) rise) → OnOk r (IsPlanted node_of before pages rows count first old_root root (entry_at key stored) rise)
planted-for r before pages rows count first old_root root entry key stored rise is h =
    subst (λ (e : Entry). OnOk r (IsPlanted node_of before pages rows count first old_root root (entry_item e) rise)) is h

-- an entry went, and then one came
pub regrown-further : (before : View) (mid : PageMap) (mid_rows mid_count mid_first mid_root : ℕ) (pages : PageMap) (rows count first old_root root : ℕ) (x y : Item)
    → (gone : IsRegrown node_of before mid mid_rows mid_count mid_first old_root mid_root (Some x) None)
    → IsRegrown node_of (view mid mid_rows mid_count mid_first gone.free) pages rows count first mid_root root None (Some y)
    → IsRegrown node_of before pages rows count first old_root root (Some x) (Some y)
regrown-further before mid mid_rows mid_count mid_first mid_root pages rows count first old_root root x y gone come = record {
  free = come.free;
  whole = come.whole;
  moves = moves-further gone.moves come.moves;
  sum_is = λ f. let e = gone.sum_is f in let h = come.sum_is f in omega arith;
}
