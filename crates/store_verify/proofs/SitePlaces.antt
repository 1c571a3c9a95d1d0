-- Keys at points in order, and the sums over their entries.
use Rattle.std.proofs.Common.{◌≡◌, ◌↔◌, ◌⊎◌, ℕ, ◌&&◌, List, [], ◌∷◌, Bool, true, false, int_cmp, int_eq, arith, refl, sym, ap, ◌∙◌, inl, inr, ⊎_elim}
use Rattle.std.specs.Bool.{Decides, IsTrue}
use Rattle.std.specs.Cmp.{IsTotalOrder}
use Rattle.std.specs.Cmp.Lexicographic.{pointwise}
use Rattle.std.specs.List.{All, AllByRecursion}
use Rattle.std.specs.List.Sorted.{IsPermutation, IsSorted, IsStrictlySortedBy}
use Rattle.std.specs.Map.{keys_of}
use Rattle.std.specs.Ordering.{eq_by_cmp, is_eq, is_lt, ordering_reverse, ordering_then}
use Rattle.std.specs.Str.{bytes_eq}
use Rattle.std.specs.declared.cmp.Ordering.{Ordering}
use Rattle.std.specs.declared.cmp.Ordering.TheVariants.{Less, Equal, Greater}
use Rattle.std.proofs.lemmas.Bool.{cases_eq, false≢true}
use Rattle.std.proofs.lemmas.Bool.Decides.{nat_tests, Decides-and, Decides-int_eq}
use Rattle.std.proofs.lemmas.Cmp.{int_cmp_total, on_total, then_total}
use Rattle.std.proofs.lemmas.Int.{ints, clamps}
use Rattle.std.proofs.lemmas.List.Elements.{All-head, All-tail}
use Rattle.std.proofs.lemmas.List.Sorted.{sum_by-IsPermutation, All-permutation as moved-all}
use Rattle.std.proofs.lemmas.List.Sums.{sum_by-cons}
use Rattle.std.proofs.lemmas.Map.Lookups.{CmpEqualImpliesEq, exact_signed}
use Rattle.std.proofs.lemmas.Slice.Eq.{bytes_eq-Decides, slice_eq-Decides}
use Rattle.spatial_base.specs.Key.{Name, both_tie, form_of, key_cmp, key_cmp_same, key_cmp_total}
use Rattle.spatial_base.specs.Point.{Position}
use Rattle.spatial_base.specs.Rect.{rect_of}
use Rattle.rtree_nodes.specs.Entries.{is_entry}
use Rattle.rtree_nodes.specs.Reach.{reach_of}
use Rattle.rtree_nodes.specs.Slots.{Item}
use Rattle.rtree_nodes.proofs.Entries.{entry-is}
use Rattle.store_tables.proofs.KeyLemmas.{form-same}
use Rattle.store_verify.specs.Sites.{AreApart, IsSite, Site, site_item, site_sum}
use Rattle.store_verify.proofs.Times.{count, self_tie, tie_of}
use Rattle.store_verify.proofs.Ordered.{IsOrdered, order-tells, ordered-sorted, same_by, same-or-apart}

-- ---- order

-- by key, then by longitude and latitude
abbrev pub site_cmp : Site → Site → Ordering
site_cmp a b = ordering_then (key_cmp a.0 b.0) (ordering_then (int_cmp a.1.x b.1.x) (int_cmp a.1.y b.1.y))

pub site_total : IsTotalOrder site_cmp
site_total = then_total (on_total (λ (s : Site). s.0) key_cmp_total) (then_total (on_total (λ (s : Site). s.1.x) int_cmp_total) (on_total (λ (s : Site). s.1.y) int_cmp_total))

-- one key at one point
site_is : (a b : Site) → a.0 ≡ b.0 → a.1.x ≡ b.1.x → a.1.y ≡ b.1.y → a ≡ b
site_is a b key x y = λ i. (key i, record { x = x i; y = y i })

pub site_exact : CmpEqualImpliesEq site_cmp
site_exact a b tie =
    let one = both_tie (key_cmp a.0 b.0) (ordering_then (int_cmp a.1.x b.1.x) (int_cmp a.1.y b.1.y)) tie in
    let two = both_tie (int_cmp a.1.x b.1.x) (int_cmp a.1.y b.1.y) one.1 in
    site_is a b (key_cmp_same a.0 b.0 one.0) (exact_signed a.1.x b.1.x two.0) (exact_signed a.1.y b.1.y two.1)

-- places in strict order of their keys are in order
less-after : (a b : Site) → key_cmp a.0 b.0 ≡ Less → is_lt (site_cmp b a) ≡ false
less-after a b less = by (key_cmp b.0 a.0) (key_cmp_total.antisymm b.0 a.0 ∙ ap ordering_reverse less)
  where
    by : (o : Ordering) → o ≡ Greater → is_lt (ordering_then o (ordering_then (int_cmp b.1.x a.1.x) (int_cmp b.1.y a.1.y))) ≡ false
    by Less e = absurd (cc)
    by Equal e = absurd (cc)
    by Greater e = refl

all-after : (a : Site) (sites : List Site) → AllByRecursion (λ y. key_cmp a.0 y ≡ Less) (keys_of sites) → AllByRecursion (λ (y : Site). is_lt (site_cmp y a) ≡ false) sites
all-after a [] less = tt
all-after a (s ∷ sites) less = (less-after a s less.0, all-after a sites less.1)

pub ordered-keys : (sites : List Site) → IsStrictlySortedBy key_cmp (keys_of sites) → IsOrdered site_total site_exact sites
unfolding IsStrictlySortedBy
ordered-keys [] sorted = tt
ordered-keys (s ∷ sites) sorted = (all-after s sites sorted.0, ordered-keys sites sorted.1)

-- ---- entries

same_x : (p q : Position) → reach_of (rect_of p) 0 ≡ reach_of (rect_of q) 0 → reach_of (rect_of p) 2 ≡ reach_of (rect_of q) 2 → p.x ≡ q.x
same_x p q h k = omega (arith, ints, clamps)

same_y : (p q : Position) → reach_of (rect_of p) 1 ≡ reach_of (rect_of q) 1 → reach_of (rect_of p) 3 ≡ reach_of (rect_of q) 3 → p.y ≡ q.y
same_y p q h k = omega (arith, ints, clamps)

-- a site's own entry counts for one
own-entry : (p : Site) → is_entry p.1 (form_of p.0) (site_item p) ≡ 1
unfolding is_entry
own-entry p = let same : bytes_eq (form_of p.0) (form_of p.0) ≡ true = (bytes_eq-Decides (form_of p.0) (form_of p.0)).1 refl in grind (arith, nat_tests)

-- another one's doesn't count
other-entry : (p s : Site) → IsSite p → IsSite s → (p ≡ s → ⊥) → is_entry p.1 (form_of p.0) (site_item s) ≡ 0
other-entry p s here there apart = ⊎_elim (λ none. none)
    (λ some.
    let is = entry-is p.1 (form_of p.0) (site_item s) (omega arith) in
    absurd (apart (site_is p s (form-same p.0 s.0 here.0 there.0 (sym is.key_is)) (same_x p.1 s.1 (sym is.side_0) (sym is.side_2)) (same_y p.1 s.1 (sym is.side_1) (sym is.side_3)))))
    (cases_eq (is_entry p.1 (form_of p.0) (site_item s)) 0)

-- so the sum over the entries of a key at a point is how often it is in a list
entry-count : (p : Site) → IsSite p → (sites : List Site) → All IsSite sites → site_sum (is_entry p.1 (form_of p.0)) sites ≡ count (same_by site_total site_exact) p sites
entry-count p here [] each = refl
entry-count p here (s ∷ sites) each =
    let first : is_entry p.1 (form_of p.0) (site_item s) ≡ same_by site_total site_exact p s =
    ⊎_elim (λ q. ap (λ (t : Site). is_entry p.1 (form_of p.0) (site_item t)) (sym q.0) ∙ own-entry p ∙ sym q.1)
    (λ q. other-entry p s here (All-head IsSite s sites each) q.0 ∙ sym q.1) (order-tells site_total site_exact p s) in
    let rest = entry-count p here sites (All-tail IsSite s sites each) in
    let both = sum_by-cons (λ (t : Site). is_entry p.1 (form_of p.0) (site_item t)) s sites in
    omega (arith, first, rest, both)

by-all : (P : Site → Type 0) (sites : List Site) → All P sites → AllByRecursion P sites
by-all P [] all = tt
by-all P (s ∷ sites) all = (All-head P s sites all, by-all P sites (All-tail P s sites all))

-- ---- what the functions return

same_site : (a b : Site) → Decides (eq_by_cmp key_cmp a.0 b.0 && (int_eq a.1.x b.1.x && int_eq a.1.y b.1.y)) (a ≡ b)
same_site a b =
    let d = Decides-and _ _ (key_decides (key_cmp a.0 b.0) refl) (Decides-and _ _ (Decides-int_eq a.1.x b.1.x) (Decides-int_eq a.1.y b.1.y)) in
    ((λ t. let p = d.0 t in site_is a b p.0 p.1.0 p.1.1), (λ e. d.1 (ap (λ (s : Site). s.0) e, (ap (λ (s : Site). s.1.x) e, ap (λ (s : Site). s.1.y) e))))
  where
    key_decides : (o : Ordering) → key_cmp a.0 b.0 ≡ o → Decides (is_eq (key_cmp a.0 b.0)) (a.0 ≡ b.0)
    key_decides o is = (
      (λ t. key_cmp_same a.0 b.0 (tie_of (key_cmp a.0 b.0) t)),
      (λ e. ap is_eq (ap (λ (k : Name). key_cmp a.0 k) (sym e) ∙ self_tie (key_cmp a.0 a.0) (key_cmp_total.antisymm a.0 a.0))),
    )

-- a comparison of two lists of them tells whether they are one
pub sites-decide : (xs ys : List Site) (r : Bool) → r ≡ pointwise (λ (a b : Site). eq_by_cmp key_cmp a.0 b.0 && (int_eq a.1.x b.1.x && int_eq a.1.y b.1.y)) xs ys → Decides r (xs ≡ ys)
sites-decide xs ys r e = slice_eq-Decides same_site xs ys r e

module _ (found sorted places : List Site) (are : All IsSite found) (sites : All IsSite places) (ascend : IsStrictlySortedBy key_cmp (keys_of places)) (moved : IsPermutation found sorted) (up : IsSorted site_cmp sorted) where
  -- sorted entries are the places, or some key at some point isn't equally often in both
  sorted-or-apart : (sorted ≡ places) ⊎ AreApart found places
  sorted-or-apart =
      let after : All IsSite sorted = moved-all IsSite found sorted moved are in
      ⊎_elim inl
      (λ w. inr record {
        site = w.element;
        apart = λ sums. w.apart (sym (entry-count w.element w.kind sorted after) ∙ sum_by-IsPermutation (λ (s : Site). is_entry w.element.1 (form_of w.element.0) (site_item s)) found sorted moved ∙ sums ∙ entry-count w.element w.kind places sites);
      })
      (same-or-apart site_total site_exact IsSite sorted places (by-all IsSite sorted after) (by-all IsSite places sites) (ordered-sorted site_total site_exact sorted up) (ordered-keys places ascend))

  module _ (r : Bool) (test : IsTrue r ↔ (sorted ≡ places)) where
    -- they are the places exactly if each sum over the entries is that over the places
    pub leaves-decide : IsTrue r ↔ ((f : Item → ℕ) → site_sum f found ≡ site_sum f places)
    leaves-decide = (
      (λ yes' f. sym (sum_by-IsPermutation (λ (s : Site). f (site_item s)) found sorted moved) ∙ ap (site_sum f) (test.0 yes')),
      (λ all. test.1 (⊎_elim (λ same. same) (λ w. absurd (w.apart (all (is_entry w.site.1 (form_of w.site.0))))) sorted-or-apart)),
    )

    -- if they aren't, some key at some point isn't equally often in both
    pub leaves-apart : r ≡ false → AreApart found places
    leaves-apart differ = ⊎_elim (λ same. absurd (false≢true (sym differ ∙ test.1 same))) (λ w. w) sorted-or-apart
