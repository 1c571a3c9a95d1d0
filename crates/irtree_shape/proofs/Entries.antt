-- What the entries of a place count for.
use Rattle.std.proofs.Common.{◌≡◌, ◌≢◌, ℕ, ◌+◌, ◌-◌, refl, sym, ap, ◌∙◌, List, Bool, true, false, cond, ◌&&◌, eq-eqb}
use Rattle.std.specs.Prelude.{◌==◌, if◌then◌else◌}
use Rattle.std.proofs.lemmas.Bool.{ne_eqb}
use Rattle.std.proofs.lemmas.Slice.Eq.{bytes_eq-Decides}
use Rattle.spatial_base.specs.Point.{Position}
use Rattle.spatial_base.specs.Rect.{rect_of}
use Rattle.rtree_nodes.specs.Slots.{Item}
use Rattle.rtree_nodes.specs.Reach.{place_item, reach_of}
use Rattle.rtree_nodes.specs.Entries.{is_entry, is_place_of}
use Rattle.irtree_shape.specs.Words.{worded}
use Rattle.irtree_shape.specs.Entries.{has_impact}
use Rattle.irtree_shape.proofs.Relinks.{worded-reach}

-- both tests hold
both : {a b : Bool} → a ≡ true → b ≡ true → (a && b) ≡ true
both p q = λ i. p i && q i

-- an entry is that of its point and key
entry-itself : (point : Position) (key : List ℕ) → is_place_of point key (place_item point key) ≡ true
entry-itself point key =
    let side = λ (d : ℕ). eq-eqb (reach_of (rect_of point) d) (reach_of (rect_of point) d) refl in
    both (both (both (both (side 0) (side 1)) (side 2)) (side 3)) ((bytes_eq-Decides key key).1 refl)

-- an entry counts for one, whatever its words
pub entry-counts : (point : Position) (key : List ℕ) (f : ℕ → ℕ) → is_entry point key (worded f (place_item point key)) ≡ 1
unfolding is_entry
entry-counts point key f = ap (λ (b : Bool). cond b 1 0) (entry-itself point key)

-- an entry that has this impact of the word counts for one
pub impact-counts : (point : Position) (key : List ℕ) (f : ℕ → ℕ) (w c : ℕ) → f w ≡ c → has_impact point key w c (worded f (place_item point key)) ≡ 1
impact-counts point key f w c e =
    let x : Item = worded f (place_item point key) in
    ap (λ (b : Bool). if b then is_entry point key x else 0) (eq-eqb (x.reach (4 + w)) c (worded-reach f w (place_item point key) ∙ e)) ∙ entry-counts point key f

-- an entry that hasn't this impact of the word counts for none
pub impact-none : (point : Position) (key : List ℕ) (f : ℕ → ℕ) (w c : ℕ) → c ≢ f w → has_impact point key w c (worded f (place_item point key)) ≡ 0
impact-none point key f w c other =
    let x : Item = worded f (place_item point key) in
    ap (λ (b : Bool). if b then is_entry point key x else 0) (ne_eqb (x.reach (4 + w)) c (λ e. other (sym e ∙ worded-reach f w (place_item point key))))

-- nor does an item that is no such entry
pub other-none : (point : Position) (key : List ℕ) (w c : ℕ) (x : Item) → is_entry point key x ≡ 0 → has_impact point key w c x ≡ 0
other-none point key w c x none = by (x.reach (4 + w) == c)
  where
    by : (b : Bool) → (if b then is_entry point key x else 0) ≡ 0
    by true = none
    by false = refl
