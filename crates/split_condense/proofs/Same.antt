-- When two places have the same entry.
use Rattle.std.proofs.Common.{◌≡◌, Bool, true, false, Option, Some, ◌&&◌, ◌==◌, int_eq, option_map, refl, ap, sym, ◌∙◌}
use Rattle.std.specs.Borrow.{Bor}
use Rattle.std.specs.Option.{option_copied}
use Rattle.std.specs.Cmp.Lexicographic.{pointwise}
use Rattle.std.proofs.lemmas.Bool.{and_parts, eqb-true, eq-eqb}
use Rattle.std.proofs.lemmas.Bool.Decides.{Decides-int_eq}
use Rattle.std.proofs.lemmas.Slice.Eq.{slice_eq-Decides}
use Rattle.spatial_base.specs.Key.{Name}
use Rattle.row_codec.specs.Pairs.{Pair}
use Rattle.row_codec.specs.declared.stored.Stored.{Stored}
use Rattle.split_condense.specs.Updates.{entry_for}
use Rattle.split_condense.specs.declared.entry.Entry.{Entry}

-- two pairs are the same, as a test
abbrev pub is_same_pair : Pair → Pair → Bool
is_same_pair p q = (p.0 == q.0) && (p.1 == q.1)

pair_same : (p q : Pair) → is_same_pair p q ≡ true → p ≡ q
pair_same p q e = let t = and_parts _ _ e in let a = eqb-true _ _ t.0 in let b = eqb-true _ _ t.1 in λ i. (a i, b i)

pair_itself : (p q : Pair) → p ≡ q → is_same_pair p q ≡ true
pair_itself p q e = let a = eq-eqb p.0 q.0 (ap (λ (r : Pair). r.0) e) in let b = eq-eqb p.1 q.1 (ap (λ (r : Pair). r.1) e) in λ i. a i && b i

-- two places have one entry where point, count and pairs are the same
pub entry-same : (key : Name) (s t : Stored) → (int_eq s.point.x t.point.x && int_eq s.point.y t.point.y) ≡ true → (s.count == t.count) ≡ true → pointwise is_same_pair s.pairs t.pairs ≡ true → entry_for key s ≡ entry_for key t
entry-same key s t there counted worded =
    let sides = and_parts _ _ there in
    let x = (Decides-int_eq s.point.x t.point.x).0 sides.0 in
    let y = (Decides-int_eq s.point.y t.point.y).0 sides.1 in
    let count = eqb-true s.count t.count counted in
    let pairs = (slice_eq-Decides (λ p q. (pair_same p q, pair_itself p q)) s.pairs t.pairs (pointwise is_same_pair s.pairs t.pairs) refl).0 worded in
    λ i. record { key = key; point = record { x = x i; y = y i }; count = count i; pairs = pairs i }

-- and where they have one entry, their pairs are the same
pub pairs-same : (key : Name) (s t : Stored) → entry_for key s ≡ entry_for key t → pointwise is_same_pair s.pairs t.pairs ≡ true
pairs-same key s t same = (slice_eq-Decides (λ p q. (pair_same p q, pair_itself p q)) s.pairs t.pairs (pointwise is_same_pair s.pairs t.pairs) refl).1 (ap (λ (e : Entry). e.pairs) same)

-- so where the test says no, the old place's entry isn't the new one's
pub none-same : (key : Name) (old : Option (Bor Stored)) (was : Bor Stored) (new : Stored) (test : Bool) → old ≡ Some was
    → ((k : Name) → entry_for k was.now ≡ entry_for k new → test ≡ true)
    → test ≡ false → option_map (entry_for key) (option_copied old) ≡ Some (entry_for key new) → ⊥
none-same key old was new test held says differs same =
    let both : Some (entry_for key was.now) ≡ Some (entry_for key new) = sym (ap (λ (o : Option (Bor Stored)). option_map (entry_for key) (option_copied o)) held) ∙ same in
    let equal : entry_for key was.now ≡ entry_for key new = cc in
    let yes : false ≡ true = sym differs ∙ says key equal in
    absurd (cc)
