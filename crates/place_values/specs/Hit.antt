-- Hits and their order.
use Rattle.std.proofs.Common.{◌≡◌, Bool, List, [], ◌∷◌, Option, Some, None}
use Rattle.std.specs.Ordering.{nat_cmp, int_cmp, on, then_cmp, is_lt, ordering_then}
use Rattle.std.specs.declared.cmp.Ordering.{Ordering}
use Rattle.std.specs.declared.cmp.Ordering.TheVariants.{Equal}
use Rattle.std.specs.FinMap.{nat_cmp-IsAntisymmetric, int_cmp-IsAntisymmetric}
use Rattle.std.proofs.lemmas.Cmp.{then_total, on_total, nat_cmp_total, int_cmp_total}
use Rattle.spatial_base.specs.Key.{key_cmp, key_cmp_total, key_cmp_same, both_tie}
use Rattle.place_values.specs.First.{IsLinear}
use Rattle.place_values.specs.Laws.{linear_from_total}
use Rattle.place_values.specs.declared.hit.Hit.{Hit}

-- by cost, then by key, then by all else
abbrev pub hit_cmp : Hit → Hit → Ordering
hit_cmp =
    then_cmp (on (λ (h : Hit). h.cost) nat_cmp)
    (then_cmp (on (λ (h : Hit). h.key) key_cmp)
    (then_cmp (on (λ (h : Hit). h.dist) nat_cmp)
    (then_cmp (on (λ (h : Hit). h.text) nat_cmp)
    (then_cmp (on (λ (h : Hit). h.point.x) int_cmp) (on (λ (h : Hit). h.point.y) int_cmp)))))

-- a hit comes before another by cost and key
abbrev pub comes_before : Hit → Hit → Bool
comes_before a b = is_lt (hit_cmp a b)

-- only the same hit ties
hit_cmp_same : (x y : Hit) → hit_cmp x y ≡ Equal → x ≡ y
hit_cmp_same x y h =
    let point = ordering_then (int_cmp x.point.x y.point.x) (int_cmp x.point.y y.point.y) in
    let text = ordering_then (nat_cmp x.text y.text) point in
    let dist = ordering_then (nat_cmp x.dist y.dist) text in
    let key = ordering_then (key_cmp x.key y.key) dist in
    let a = both_tie (nat_cmp x.cost y.cost) key h in
    let b = both_tie (key_cmp x.key y.key) dist a.1 in
    let c = both_tie (nat_cmp x.dist y.dist) text b.1 in
    let d = both_tie (nat_cmp x.text y.text) point c.1 in
    let e = both_tie (int_cmp x.point.x y.point.x) (int_cmp x.point.y y.point.y) d.1 in
    let p = nat_cmp-IsAntisymmetric x.cost y.cost a.0 in
    let q = key_cmp_same x.key y.key b.0 in
    let r = nat_cmp-IsAntisymmetric x.dist y.dist c.0 in
    let s = nat_cmp-IsAntisymmetric x.text y.text d.0 in
    let t = int_cmp-IsAntisymmetric x.point.x y.point.x e.0 in
    let u = int_cmp-IsAntisymmetric x.point.y y.point.y e.1 in
    λ i. record { cost = p i; key = q i; dist = r i; text = s i; point = record { x = t i; y = u i } }

-- so hits have one order
pub hits_linear : IsLinear comes_before
hits_linear =
    linear_from_total
    (then_total (on_total (λ (h : Hit). h.cost) nat_cmp_total)
    (then_total (on_total (λ (h : Hit). h.key) key_cmp_total)
    (then_total (on_total (λ (h : Hit). h.dist) nat_cmp_total)
    (then_total (on_total (λ (h : Hit). h.text) nat_cmp_total)
    (then_total (on_total (λ (h : Hit). h.point.x) int_cmp_total) (on_total (λ (h : Hit). h.point.y) int_cmp_total))))))
    hit_cmp_same

-- a hit that may be missing, as a list
abbrev pub listed : Option Hit → List Hit
listed (Some hit) = hit ∷ []
listed None = []
