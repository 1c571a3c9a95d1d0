-- The first k of what was found and of what may come.
use Rattle.std.proofs.Common.{◌≡◌, ℕ, ◌≤◌, List, [], ◌∷◌, ◌++◌, length, take, refl, sym, ap, ◌∙◌, arith, false, append_assoc}
use Rattle.std.specs.List.{AllByRecursion}
use Rattle.std.proofs.lemmas.List.{append-nil, take-append-le, take_all, length-take}
use Rattle.place_values.specs.First.{placed, ranked, first, IsRanked}
use Rattle.place_values.specs.Laws.{first_push, ranked_is, taken_ranked, all_placed}
use Rattle.place_values.specs.Members.{ranked_own, ranked_least}
use Rattle.place_values.specs.declared.hit.Hit.{Hit}
use Rattle.place_values.specs.Hit.{comes_before, hits_linear}
use Rattle.best_first.specs.Lists.{all_append, all_taken}

-- the first k are in order
pub first_ranked : (k : ℕ) (hs : List Hit) → IsRanked comes_before (first comes_before k hs)
first_ranked k hs = taken_ranked comes_before k (ranked comes_before hs) (ranked_is hits_linear hs)

-- and k at most
pub first_short : (k : ℕ) (hs : List Hit) → length (first comes_before k hs) ≤ k
first_short k hs = omega (arith, length-take k (ranked comes_before hs))

-- so are k hits that are the first of some
pub kept_ranked : (k : ℕ) (hs found : List Hit) → found ≡ first comes_before k hs → IsRanked comes_before found
kept_ranked k hs found e = rw e (first_ranked k hs)

pub kept_short : (k : ℕ) (hs found : List Hit) → found ≡ first comes_before k hs → length found ≤ k
kept_short k hs found e = rw e (first_short k hs)

all_ranked : (P : Hit → Type 0) (hs : List Hit) → AllByRecursion P hs → AllByRecursion P (ranked comes_before hs)
all_ranked P [] h = h
all_ranked P (x ∷ hs) h = all_placed hits_linear P x (ranked comes_before hs) h.0 (all_ranked P hs h.1)

-- what holds of all holds of the first k
pub all_first : (P : Hit → Type 0) (k : ℕ) (hs : List Hit) → AllByRecursion P hs → AllByRecursion P (first comes_before k hs)
all_first P k hs h = all_taken P k (ranked comes_before hs) (all_ranked P hs h)

-- k hits in order are their own first k
pub first_own : (k : ℕ) (hs : List Hit) → IsRanked comes_before hs → length hs ≤ k → first comes_before k hs ≡ hs
first_own k hs r l = ap (take k) (ranked_own hits_linear hs r) ∙ take_all k hs l

-- what isn't among the first k needn't be kept
pub first_absorbed : (k : ℕ) (hs gs : List Hit) → first comes_before k (first comes_before k hs ++ gs) ≡ first comes_before k (hs ++ gs)
first_absorbed k hs [] =
    ap (first comes_before k) (append-nil (first comes_before k hs))
    ∙ first_own k (first comes_before k hs) (first_ranked k hs) (first_short k hs)
    ∙ sym (ap (first comes_before k) (append-nil hs))
first_absorbed k hs (g ∷ gs) =
    let kept = first comes_before k hs in
    let one : first comes_before k (kept ++ g ∷ []) ≡ first comes_before k (hs ++ g ∷ []) =
    first_push hits_linear k kept g
    ∙ ap (λ l. take k (placed comes_before g l)) (first_own k kept (first_ranked k hs) (first_short k hs))
    ∙ sym (first_push hits_linear k hs g) in
    ap (first comes_before k) (sym (append_assoc kept (g ∷ []) gs))
    ∙ sym (first_absorbed k (kept ++ g ∷ []) gs)
    ∙ ap (λ l. first comes_before k (l ++ gs)) one
    ∙ first_absorbed k (hs ++ g ∷ []) gs
    ∙ ap (first comes_before k) (append_assoc hs (g ∷ []) gs)

-- one more hit among the first k
pub first_one : (k : ℕ) (hs : List Hit) (g : Hit) → IsRanked comes_before hs → length hs ≤ k → take k (placed comes_before g hs) ≡ first comes_before k (hs ++ g ∷ [])
first_one k hs g r l = sym (first_push hits_linear k hs g ∙ ap (λ x. take k (placed comes_before g x)) (first_own k hs r l))

-- hits in order stand in front of others that none of them comes after
pub ranked_front : (hs gs : List Hit) → IsRanked comes_before hs → AllByRecursion (λ (h : Hit). AllByRecursion (λ y. comes_before y h ≡ false) gs) hs → ranked comes_before (hs ++ gs) ≡ hs ++ ranked comes_before gs
ranked_front [] gs r a = refl
ranked_front (h ∷ hs) gs r a =
    ranked_least hits_linear h (hs ++ gs) (all_append (λ y. comes_before y h ≡ false) hs gs r.0 a.0)
    ∙ ap (λ l. h ∷ l) (ranked_front hs gs r.1 a.1)

-- k hits in order are the first k of them and others that none of them comes after
pub first_front : (k : ℕ) (hs gs : List Hit) → IsRanked comes_before hs → length hs ≡ k → AllByRecursion (λ (h : Hit). AllByRecursion (λ y. comes_before y h ≡ false) gs) hs → first comes_before k (hs ++ gs) ≡ hs
first_front k hs gs r l a =
    ap (take k) (ranked_front hs gs r a)
    ∙ take-append-le k hs (ranked comes_before gs) (omega arith)
    ∙ take_all k hs (omega arith)
