-- Lists of words in the order of their numbers, each with an impact: the impacts determine the list.
use Rattle.std.proofs.Common.{◌≡◌, ℕ, suc, ◌+◌, ◌<◌, ◌≤◌, List, [], ◌∷◌, Bool, ◌&&◌, eqb, length, get_or, arith, refl, sym, ap, ◌∙◌, subst, ⊎_elim}
use Rattle.std.specs.Prelude.{if◌then◌else◌}
use Rattle.std.specs.Bool.{Decides}
use Rattle.std.specs.Cmp.Lexicographic.{pointwise}
use Rattle.std.specs.Map.{keys_of}
use Rattle.std.proofs.lemmas.Bool.{cases_eq, cases_lt, ne_eqb, eq-eqb}
use Rattle.std.proofs.lemmas.Bool.Decides.{Decides-and, Decides-eqb}
use Rattle.std.proofs.lemmas.List.{get_or-map, length-map}
use Rattle.std.proofs.lemmas.Slice.Eq.{slice_eq-Decides}
use Rattle.row_codec.specs.declared.stored.Stored.{Stored}
use Rattle.row_codec.specs.Stored.{IsStored, held_pairs}
use Rattle.node_rows.specs.Impacts.{impact_at, impact_in}
use Rattle.node_rows.specs.Words.{AreWords}

-- the words ascend from a bound on, each with an impact
abbrev pub Ascend : ℕ → List (ℕ × ℕ) → Type 0
Ascend low [] = Unit {0}
Ascend low (p ∷ ps) = (low ≤ p.0) × (0 < p.1) × Ascend (p.0 + 1) ps

pub words-ascend : (low high : ℕ) (ps : List (ℕ × ℕ)) → AreWords low high ps → Ascend low ps
words-ascend low high [] a = tt
words-ascend low high (p ∷ ps) a = (a.0, a.1, words-ascend (p.0 + 1) high ps a.2)

impact-here : (p : ℕ × ℕ) (w : ℕ) → p.0 ≡ w → impact_at p w ≡ p.1
impact-here p w e = ap (λ (b : Bool). if b then p.1 else 0) (eq-eqb p.0 w e)

impact-away : (p : ℕ × ℕ) (w : ℕ) → (p.0 ≡ w → ⊥) → impact_at p w ≡ 0
impact-away p w h = ap (λ (b : Bool). if b then p.1 else 0) (ne_eqb p.0 w h)

-- no word before the bound has an impact
none-before : (low w : ℕ) (ps : List (ℕ × ℕ)) → Ascend low ps → w < low → impact_in ps w ≡ 0
none-before low w [] a l = refl
none-before low w (p ∷ ps) a l =
    let b = a.0 in
    let r = none-before (p.0 + 1) w ps a.2 (omega arith) in
    let n = impact-away p w (λ e. omega arith) in
    omega arith

-- the first word's impact
first-impact : (low : ℕ) (p : ℕ × ℕ) (ps : List (ℕ × ℕ)) → Ascend low (p ∷ ps) → impact_in (p ∷ ps) p.0 ≡ p.1
first-impact low p ps a =
    let r = none-before (p.0 + 1) p.0 ps a.2 (omega arith) in
    let h = impact-here p p.0 refl in
    omega arith

-- lists with the same impacts are the same
pub impacts-same : (low low' : ℕ) (xs ys : List (ℕ × ℕ)) → Ascend low xs → Ascend low' ys → ((w : ℕ) → impact_in xs w ≡ impact_in ys w) → xs ≡ ys
impacts-same low low' [] [] a b e = refl
impacts-same low low' [] (y ∷ ys) a b e = let f = first-impact low' y ys b in let s = e y.0 in let p = b.1 in absurd (omega arith)
impacts-same low low' (x ∷ xs) [] a b e = let f = first-impact low x xs a in let s = e x.0 in let p = a.1 in absurd (omega arith)
impacts-same low low' (x ∷ xs) (y ∷ ys) a b e =
    let fx = first-impact low x xs a in
    let fy = first-impact low' y ys b in
    let px = a.1 in
    let py = b.1 in
    let number : x.0 ≡ y.0 = ⊎_elim
    (λ (l : x.0 < y.0). absurd (let s = e x.0 in let z = none-before y.0 x.0 (y ∷ ys) (omega arith, b.1, b.2) l in omega arith))
    (λ (l : y.0 ≤ x.0). ⊎_elim
    (λ (m : y.0 < x.0). absurd (let s = e y.0 in let z = none-before x.0 y.0 (x ∷ xs) (omega arith, a.1, a.2) m in omega arith))
    (λ (m : x.0 ≤ y.0). omega arith)
    (cases_lt y.0 x.0))
    (cases_lt x.0 y.0) in
    let at : impact_in (y ∷ ys) x.0 ≡ impact_in (y ∷ ys) y.0 = ap (impact_in (y ∷ ys)) number in
    let impact : x.1 ≡ y.1 = let s = e x.0 in omega arith in
    let rest : xs ≡ ys = impacts-same (x.0 + 1) (y.0 + 1) xs ys a.2 b.2
    (λ w. ⊎_elim
    (λ (l : w ≡ x.0). let p = none-before (x.0 + 1) w xs a.2 (omega arith) in let q = none-before (y.0 + 1) w ys b.2 (omega arith) in omega arith)
    (λ (n : w ≡ x.0 → ⊥). let s = e w in let p = impact-away x w (λ h. n (sym h)) in let q = impact-away y w (λ h. n (sym h ∙ sym number)) in omega arith)
    (cases_eq w x.0)) in
    let head : x ≡ y = λ i. (number i, impact i) in
    ap (λ (p : ℕ × ℕ). p ∷ xs) head ∙ ap (λ (ps : List (ℕ × ℕ)). y ∷ ps) rest

-- by index
ascend-from : (low : ℕ) (ps : List (ℕ × ℕ)) → ((k : ℕ) → suc k < length ps → (get_or ps k (0, 0)).0 < (get_or ps (suc k) (0, 0)).0)
    → ((k : ℕ) → k < length ps → 1 ≤ (get_or ps k (0, 0)).1) → (0 < length ps → low ≤ (get_or ps 0 (0, 0)).0) → Ascend low ps
ascend-from low [] up each first = tt
ascend-from low (p ∷ ps) up each first = (
  first (omega arith),
  (let i = each 0 (omega arith) in omega arith),
  ascend-from (p.0 + 1) ps (λ k l. up (suc k) (omega arith)) (λ k l. each (suc k) (omega arith)) (λ l. let u = up 0 (omega arith) in omega arith),
)

-- the words of a place ascend
pub stored-ascend : (stored : Stored) → IsStored stored → Ascend 0 (held_pairs stored)
stored-ascend stored is =
    let ps : List (ℕ × ℕ) = held_pairs stored in
    let at : (k : ℕ) → k < length ps → get_or (keys_of ps) k 0 ≡ (get_or ps k (0, 0)).0 = λ k l. get_or-map (λ (p : ℕ × ℕ). p.0) ps k (0, 0) 0 l in
    let long : length (keys_of ps) ≡ length ps = length-map ps (λ (p : ℕ × ℕ). p.0) in
    ascend-from 0 ps
    (λ k l. let e : k + 1 ≡ suc k = omega arith in
    let up : get_or (keys_of ps) k 0 < get_or (keys_of ps) (suc k) 0 = subst (λ (j : ℕ). get_or (keys_of ps) k 0 < get_or (keys_of ps) j 0) e (is.ascending k (omega arith)) in
    let here = at k (omega arith) in
    let next = at (suc k) l in
    omega arith)
    (λ k l. is.impacts k (0, 0) l)
    (λ l. omega arith)

pair-decides : (p q : ℕ × ℕ) → Decides (eqb p.0 q.0 && eqb p.1 q.1) (p ≡ q)
pair-decides p q =
    let d = Decides-and (eqb p.0 q.0) (eqb p.1 q.1) (Decides-eqb p.0 q.0) (Decides-eqb p.1 q.1) in
    ((λ t. let e = d.0 t in λ i. (e.0 i, e.1 i)), (λ e. d.1 (ap (λ (r : ℕ × ℕ). r.0) e, ap (λ (r : ℕ × ℕ). r.1) e)))

-- the comparison of two lists of words decides whether they are the same
pub pairs-decide : (xs ys : List (ℕ × ℕ)) (r : Bool) → r ≡ pointwise (λ (a b : ℕ × ℕ). eqb a.0 b.0 && eqb a.1 b.1) xs ys → Decides r (xs ≡ ys)
pairs-decide xs ys r e = slice_eq-Decides pair-decides xs ys r e
