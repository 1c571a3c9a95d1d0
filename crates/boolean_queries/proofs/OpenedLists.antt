-- What holds of the members of lists.
use Rattle.std.proofs.Common.{◌≡◌, ℕ, ◌<◌, ◌≤◌, Bool, true, false, cond, List, [], ◌∷◌, ◌++◌, length, sym, subst, ◌∙◌, arith}
use Rattle.std.specs.List.{AllByRecursion, Contains}
use Rattle.std.proofs.lemmas.List.{append_cancel_left, take_all, length-take}
use Rattle.std.proofs.lemmas.List.Elements.{Contains-append_right}
use Rattle.btree_nodes.specs.Damages.{AskedSince}
use Rattle.place_values.specs.First.{placed, ranked, first, IsRanked}
use Rattle.place_values.specs.declared.hit.Hit.{Hit}
use Rattle.place_values.specs.Hit.{comes_before}
use Rattle.best_first.specs.Openings.{Opening, pages_opened, last_cost}
use Rattle.best_first.specs.Lists.{all_in, all_weaker}
use Rattle.best_first.proofs.CostLaws.{all_last}
use Rattle.boolean_queries.specs.Logs.{IsUpToLast}

-- of each of two facts
pub all-both : {X : Type 0} (P Q : X → Type 0) (xs : List X) → AllByRecursion P xs → AllByRecursion Q xs → AllByRecursion (λ x. P x × Q x) xs
all-both P Q [] p q = tt
all-both P Q (x ∷ xs) p q = ((p.0, q.0), all-both P Q xs p.1 q.1)

-- of the pages of openings
pub all-pages : (Q : ℕ → Type 0) (openings : List Opening) → AllByRecursion (λ (o : Opening). Q o.page) openings → AllByRecursion Q (pages_opened openings)
all-pages Q [] all = tt
all-pages Q (o ∷ openings) all = (all.0, all-pages Q openings all.1)

-- a page that was asked for is in the part of the log since
pub asked-in : (old new asked : List ℕ) (page : ℕ) → new ≡ old ++ asked → AskedSince old new page → Contains asked page
asked-in old new asked page log since =
    let same : asked ≡ since.front ++ (page ∷ since.back) = append_cancel_left old asked (since.front ++ (page ∷ since.back)) (sym log ∙ since.is) in
    subst (λ (l : List ℕ). Contains l page) (sym same) (Contains-append_right since.front (page ∷ since.back) page (all_in (page ∷ since.back)).0)

placed-parts : (P : Hit → Type 0) (x : Hit) (ys : List Hit) → AllByRecursion P (placed comes_before x ys) → P x × AllByRecursion P ys
placed-parts P x [] h = (h.0, tt)
placed-parts P x (y ∷ ys) h = by_order (comes_before y x) (placed-parts P x ys) h
  where
    by_order : (b : Bool) → (AllByRecursion P (placed comes_before x ys) → P x × AllByRecursion P ys) → AllByRecursion P (cond b (y ∷ placed comes_before x ys) (x ∷ y ∷ ys)) → P x × AllByRecursion P (y ∷ ys)
    by_order true behind k = let r = behind k.1 in (r.0, (k.0, r.1))
    by_order false behind k = (k.0, k.1)

-- what holds of all in order holds of all
pub all-unranked : (P : Hit → Type 0) (hs : List Hit) → AllByRecursion P (ranked comes_before hs) → AllByRecursion P hs
all-unranked P [] h = tt
all-unranked P (x ∷ hs) h = let r = placed-parts P x (ranked comes_before hs) h in (r.0, all-unranked P hs r.1)

-- fewer than k of the first k are all
pub first-all : (k : ℕ) (hs : List Hit) → length (first comes_before k hs) < k → first comes_before k hs ≡ ranked comes_before hs
first-all k hs l = take_all k (ranked comes_before hs) (omega (arith, length-take k (ranked comes_before hs)))

-- each hit in order costs no more than the last
pub all-up-to : (hs : List Hit) → IsRanked comes_before hs → AllByRecursion (λ (h : Hit). (bound : ℕ) → bound ≤ h.cost → IsUpToLast bound hs) hs
all-up-to [] r = tt
all-up-to (x ∷ hs) r =
    all_weaker (λ (h : Hit). h.cost ≤ last_cost (x ∷ hs)) (λ (h : Hit). (bound : ℕ) → bound ≤ h.cost → IsUpToLast bound (x ∷ hs))
    (λ h low bound l. omega arith) (x ∷ hs) (all_last (x ∷ hs) r)

-- so does what isn't above the last, where there is one
pub up-to-last : (bound : ℕ) (hs : List Hit) → 0 < length hs → bound ≤ last_cost hs → IsUpToLast bound hs
up-to-last bound [] some l = absurd (omega arith)
up-to-last bound (x ∷ hs) some l = l
