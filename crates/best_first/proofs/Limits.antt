-- Hits that cost no more than a limit.
use Rattle.std.proofs.Common.{◌≡◌, ℕ, ◌+◌, ◌<◌, Bool, true, false, if◌then◌else◌, List, [], ◌∷◌, ◌++◌, Option, Some, None, sum_by, refl, sym, ap, ◌∙◌, arith}
use Rattle.std.specs.List.{AllByRecursion}
use Rattle.std.proofs.lemmas.Bool.{le-leb, lt-leb, ltb-true, ltb-false}
use Rattle.std.proofs.lemmas.List.Elements.{filter-append}
use Rattle.std.proofs.lemmas.List.Sums.{sum_by-cons}
use Rattle.place_values.specs.declared.hit.Hit.{Hit}
use Rattle.best_first.specs.Cuts.{is_over, is_affordable, affordable}

-- a hit that costs more isn't affordable, and any other is
pub over-dear : (limit : Option ℕ) (hit : Hit) → is_over limit hit.cost ≡ true → is_affordable limit hit ≡ false
over-dear None hit e = absurd (cc)
over-dear (Some limit) hit e = lt-leb hit.cost limit (ltb-true limit hit.cost e)

pub under-cheap : (limit : Option ℕ) (hit : Hit) → is_over limit hit.cost ≡ false → is_affordable limit hit ≡ true
under-cheap None hit e = refl
under-cheap (Some limit) hit e = le-leb hit.cost limit (ltb-false limit hit.cost e)

-- a hit alone
pub dear-alone : (limit : Option ℕ) (hit : Hit) → is_over limit hit.cost ≡ true → affordable limit (hit ∷ []) ≡ []
dear-alone limit hit e = ap (λ (b : Bool). if b then hit ∷ [] else []) (over-dear limit hit e)

pub cheap-alone : (limit : Option ℕ) (hit : Hit) → is_over limit hit.cost ≡ false → affordable limit (hit ∷ []) ≡ hit ∷ []
cheap-alone limit hit e = ap (λ (b : Bool). if b then hit ∷ [] else []) (under-cheap limit hit e)

-- those of two parts
pub affordable-parts : (limit : Option ℕ) (xs ys : List Hit) → affordable limit (xs ++ ys) ≡ affordable limit xs ++ affordable limit ys
affordable-parts limit xs ys = filter-append (is_affordable limit) xs ys

-- without a limit all are
pub affordable-all : (hits : List Hit) → affordable None hits ≡ hits
affordable-all [] = refl
affordable-all (hit ∷ hits) = ap (λ l. hit ∷ l) (affordable-all hits)

-- what holds of all holds of those
pub all-affordable : (P : Hit → Type 0) (limit : Option ℕ) (hits : List Hit) → AllByRecursion P hits → AllByRecursion P (affordable limit hits)
all-affordable P limit [] h = tt
all-affordable P limit (hit ∷ hits) h = one-more (is_affordable limit hit) (all-affordable P limit hits h.1)
  where
    one-more : (b : Bool) → AllByRecursion P (affordable limit hits) → AllByRecursion P (if b then hit ∷ affordable limit hits else affordable limit hits)
    one-more true r = (h.0, r)
    one-more false r = r

-- where all cost more, none is
pub none-affordable : (limit : ℕ) (hits : List Hit) → AllByRecursion (λ (h : Hit). limit < h.cost) hits → affordable (Some limit) hits ≡ []
none-affordable limit [] h = refl
none-affordable limit (hit ∷ hits) h = ap (λ (b : Bool). if b then hit ∷ affordable (Some limit) hits else affordable (Some limit) hits) (lt-leb hit.cost limit h.0) ∙ none-affordable limit hits h.1

-- the weight of a hit that counts only where it is affordable
abbrev pub within : Option ℕ → (Hit → ℕ) → Hit → ℕ
within limit weight hit = if is_affordable limit hit then weight hit else 0

-- those weigh as much as all do that way
pub affordable-weight : (limit : Option ℕ) (weight : Hit → ℕ) (hits : List Hit) → sum_by weight (affordable limit hits) ≡ sum_by (within limit weight) hits
affordable-weight limit weight [] = refl
affordable-weight limit weight (hit ∷ hits) =
    let a = sum_by-cons (within limit weight) hit hits in
    let b = one-more (is_affordable limit hit) in
    let c = affordable-weight limit weight hits in
    b ∙ ap (λ (n : ℕ). within limit weight hit + n) c ∙ sym a
  where
    one-more : (b : Bool) → sum_by weight (if b then hit ∷ affordable limit hits else affordable limit hits) ≡ (if b then weight hit else 0) + sum_by weight (affordable limit hits)
    one-more true = sum_by-cons weight hit (affordable limit hits)
    one-more false = omega arith
