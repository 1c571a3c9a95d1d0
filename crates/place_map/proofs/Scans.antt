-- One step of a scan over the places.
use Rattle.std.proofs.Common.{◌≡◌, ℕ, List, [], ◌∷◌, ◌++◌, take, sym, ap, ◌∙◌}
use Rattle.std.specs.List.{flat_map}
use Rattle.std.proofs.lemmas.List.{append-nil, append_assoc}
use Rattle.std.proofs.lemmas.List.Concat.{flat_map-append}
use Rattle.place_values.specs.First.{first, placed}
use Rattle.place_values.specs.Laws.{first_push}
use Rattle.place_values.specs.declared.hit.Hit.{Hit}
use Rattle.place_values.specs.Hit.{comes_before, hits_linear}

-- one more place is done
pub done_more : {E : Type 0} (done old new places : List E) (entry : E) → done ++ old ≡ places → old ≡ entry ∷ new → (done ++ entry ∷ []) ++ new ≡ places
done_more done old new places entry all step = append_assoc done (entry ∷ []) new ∙ ap (λ rest. done ++ rest) (sym step) ∙ all

module _ {E X : Type 0} (gives : E → List X) (done : List E) (entry : E) where
  -- what one more place gives stands behind what those before it give
  gives_more : (given : List X) → gives entry ≡ given → flat_map gives (done ++ entry ∷ []) ≡ flat_map gives done ++ given
  gives_more given is =
      flat_map-append gives done (entry ∷ [])
      ∙ ap (λ more. flat_map gives done ++ more) (append-nil (gives entry) ∙ is)

  -- a place that gives nothing
  pub gives_none : gives entry ≡ [] → flat_map gives (done ++ entry ∷ []) ≡ flat_map gives done
  gives_none is = gives_more [] is ∙ append-nil (flat_map gives done)

  -- a place that gives one
  pub gives_one : (x : X) → gives entry ≡ x ∷ [] → flat_map gives (done ++ entry ∷ []) ≡ flat_map gives done ++ x ∷ []
  gives_one x is = gives_more (x ∷ []) is

-- a place that gives one hit, placed among the first k of those before it
pub scan_step : {E : Type 0} (hits : E → List Hit) (k : ℕ) (done : List E) (entry : E) (hit : Hit) (old new : List Hit) → hits entry ≡ hit ∷ [] → old ≡ first comes_before k (flat_map hits done) → new ≡ take k (placed comes_before hit old) → new ≡ first comes_before k (flat_map hits (done ++ entry ∷ []))
scan_step hits k done entry hit old new one was is =
    is ∙ ap (λ best. take k (placed comes_before hit best)) was
    ∙ sym (first_push hits_linear k (flat_map hits done) hit)
    ∙ ap (first comes_before k) (sym (gives_one hits done entry hit one))
