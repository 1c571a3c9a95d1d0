-- A map from which a row was taken out.
use Rattle.std.proofs.Common.{◌≡◌, ℕ, zero, suc, ◌^◌, ◌==◌, if◌then◌else◌, ◌<◌, ◌≤◌, List, [], ◌∷◌, Option, Some, None, Bool, true, false, arith, refl, sym, ap, ◌∙◌, append-nil}
use Rattle.std.specs.Option.{is_some}
use Rattle.page_face.specs.FreeList.{PageMap}
use Rattle.btree_nodes.specs.declared.form.Form.{Form}
use Rattle.btree_nodes.specs.Supply.{View, view, Moves}
use Rattle.btree_nodes.specs.Rows.{Row, lookup, without}
use Rattle.btree_nodes.specs.Nodes.{half_of, least_of_root}
use Rattle.btree_nodes.specs.Tree.{rows_at, uses, map_rows, map_uses}
use Rattle.btree_nodes.proofs.Supplies.{moves-as, moves-further, spare-away}
use Rattle.btree_delete.specs.Mended.{Becomes}
use Rattle.btree_delete.specs.Removal.{IsEmptied}
use Rattle.btree_delete.proofs.Settles.{tree-fewer, half_some}
use Rattle.paged_map.specs.Maps.{IsKept, HasBecome}
use Rattle.btree_nodes.proofs.Walks.{uses-self}
use Rattle.paged_map.proofs.Maps.{becomes}

-- a root with too few cells, but with some, is an inner page with one entry
pub root-one : (level left : ℕ) → 0 < left → left < least_of_root level → (left ≡ 1) × (0 < level)
root-one zero left some few = absurd (omega arith)
root-one (suc level) left some few = (omega arith, omega arith)

-- a row whose key isn't there stays
absent-as : (same : Bool) (value : List ℕ) (found : Option (List ℕ)) (row : Row) (rows left : List Row) → (if same then Some value else found) ≡ None → (found ≡ None → left ≡ rows) → (if same then rows else row ∷ left) ≡ row ∷ rows
absent-as true value found row rows left h rest = cc
absent-as false value found row rows left h rest = ap (λ (r : List Row). row ∷ r) (rest h)

-- a key that no row has
pub without-absent : (key : ℕ) (rows : List Row) → lookup key rows ≡ None → without key rows ≡ rows
without-absent key [] h = refl
without-absent key (row ∷ rows) h = absent-as (row.0 == key) row.1 (lookup key rows) row rows (without key rows) h (without-absent key rows)

-- what isn't none is some
pub is-some : (found : Option (List ℕ)) → (found ≡ None → ⊥) → true ≡ is_some found
is-some (Some value) h = refl
is-some None h = absurd (h refl)

-- a map at a root whose pages are as they were
pub stays : (form : Form) (before : View) (pages : PageMap) (count first root : ℕ) → pages ≡ before.pages → count ≡ before.count → first ≡ before.first → IsKept form before root
    → HasBecome form before pages count first root root (map_rows form before.pages root)
stays form before pages count first root e f g kept = rw (e, f, g) record {
  free = before.free;
  kept = kept;
  has = refl;
  moves = record { supplied = kept.supplied; kept = λ n. refl; others = λ n a b. refl };
}

-- no row is left
pub emptied : (form : Form) (before : View) (mine : ℕ → ℕ) (pages : PageMap) (count first root : ℕ) (rows : List Row) → before.count ≡ count → IsKept form before root
    → ((n : ℕ) → mine n ≡ map_uses form before.pages root n) → IsEmptied before mine pages count first rows → HasBecome form before pages count first root 0 rows
emptied form before mine pages count first root rows same kept are none =
    let moved : Moves before (view pages count first none.free) (map_uses form before.pages root) (λ n. 0) = moves-as (λ n. sym (are n)) (λ n. refl) none.moves in
    record {
      free = none.free;
      kept = record {
        map = tt;
        supplied = moved.supplied;
        once = λ n. let k = moved.kept n in let o = kept.once n in omega arith;
        away = refl;
        some = let s = kept.some in omega arith;
      };
      has = sym none.gives;
      moves = moved;
    }

-- a page that heads what the map's pages have become isn't page 0
head-some : (form : Form) (least : ℕ) (before : View) (mine : ℕ → ℕ) (pages : PageMap) (count first level page root : ℕ) (rows : List Row) → IsKept form before root → ((n : ℕ) → mine n ≡ map_uses form before.pages root n)
    → Becomes form least before mine pages count first level 0 (256 ^ form.key) rows ((0, page) ∷ []) → 0 < page
head-some form least before mine pages count first level zero root rows kept are b =
    let k = b.moves.kept 0 in
    let s = spare-away before kept.some kept.supplied in
    let a = are 0 in
    let w = kept.away in
    let u = uses-self form pages level 0 in
    absurd (omega arith)
head-some form least before mine pages count first level (suc page) root rows kept are b = omega arith

-- a tree with as many cells at its top as a root has is the map
pub stands : (form : Form) (least : ℕ) (before : View) (mine : ℕ → ℕ) (pages : PageMap) (count first level page root : ℕ) (rows : List Row) → least_of_root level ≤ least → before.count ≡ count → IsKept form before root
    → ((n : ℕ) → mine n ≡ map_uses form before.pages root n)
    → Becomes form least before mine pages count first level 0 (256 ^ form.key) rows ((0, page) ∷ []) → HasBecome form before pages count first root page rows
stands form least before mine pages count first level page root rows enough same kept are b =
    let fan = b.fan in
    becomes form before pages count first level root page 0 mine rows (head-some form least before mine pages count first level page root rows kept are b) (omega arith) kept are
    (record {
      free = b.free;
      entries = (0, page) ∷ [];
      is = refl;
      moves = b.moves;
      fan = (fan.0, fan.1, tree-fewer form least (least_of_root level) pages level page 0 (256 ^ form.key) enough fan.2, fan.3);
      gives = b.gives;
    })

least-half : (form : Form) (level : ℕ) → least_of_root level ≤ half_of form level
least-half form zero = let h = half_some form 0 in omega arith
least-half form (suc level) = half_some form (suc level)

-- the child of a root with one entry is the map, once it heads the root's rows
pub lowered-root : (form : Form) (before : View) (mine : ℕ → ℕ) (mid new : PageMap) (count first count' first' below page top root : ℕ) (rows : List Row) → before.count ≡ count' → IsKept form before root
    → ((n : ℕ) → mine n ≡ map_uses form before.pages root n)
    → (b : Becomes form 1 before mine mid count first (suc below) 0 (256 ^ form.key) rows ((0, page) ∷ []))
    → Becomes form (half_of form below) (view mid count first b.free) (uses form mid (suc below) page) new count' first' below 0 (256 ^ form.key) (rows_at form mid (suc below) page) ((0, top) ∷ [])
    → HasBecome form before new count' first' root top rows
lowered-root form before mine mid new count first count' first' below page top root rows same kept are b l =
    stands form (half_of form below) before mine new count' first' below top root rows (least-half form below) same kept are
    (record {
      free = l.free;
      moves = moves-further b.moves (moves-as (λ n. omega arith) (λ n. refl) l.moves);
      fan = l.fan;
      gives = l.gives ∙ sym (append-nil (rows_at form mid (suc below) page)) ∙ b.gives;
    })
