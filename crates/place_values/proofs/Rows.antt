-- One step of a restoration: the next place is put behind those before it.
use Rattle.std.proofs.Common.{◌≡◌, ℕ, List, [], ◌∷◌, ◌++◌, refl, sym, ap, subst, ◌∙◌}
use Rattle.std.proofs.lemmas.List.{map-append}
use Rattle.std.specs.List.Sorted.{IsStrictlySortedBy}
use Rattle.std.specs.Map.{keys_of}
use Rattle.spatial_base.specs.Key.{Name, key_cmp, key_cmp_total}
use Rattle.spatial_base.specs.Point.{Position}
use Rattle.place_values.specs.State.{Places, with_place}
use Rattle.place_values.specs.Restored.{Rows, keys_in, places_in}
use Rattle.place_values.proofs.Ascending.{insert_last}

-- places keep the keys of their rows
pub keys_stay : (rows : Rows) → keys_of (places_in rows) ≡ keys_in rows
keys_stay [] = refl
keys_stay (row ∷ rows) = ap (λ keys. row.0 ∷ keys) (keys_stay rows)

-- one more row is done
pub restored_more : (done rest old rows : Rows) (key : Name) (point : Position) (words : List (List ℕ × ℕ)) (label : List ℕ) (was new : Places)
    → done ++ old ≡ rows → old ≡ (key, point, words, label) ∷ rest → IsStrictlySortedBy key_cmp (keys_in rows)
    → was ≡ places_in done → new ≡ with_place key record { point = point; words = words; label = label } was → new ≡ places_in (done ++ (key, point, words, label) ∷ [])
restored_more done rest old rows key point words label was new all step sorted before put =
    let whole = ap (λ left. done ++ left) (sym step) ∙ all in
    let keys = ap (λ front. front ++ key ∷ keys_in rest) (keys_stay done) ∙ sym (map-append (λ row. row.0) done ((key, point, words, label) ∷ rest)) ∙ ap keys_in whole in
    put
    ∙ ap (with_place key record { point = point; words = words; label = label }) before
    ∙ insert_last key_cmp_total (places_in done) key record { point = point; words = words; label = label } (keys_in rest) (subst (IsStrictlySortedBy key_cmp) (sym keys) sorted)
    ∙ sym (map-append (λ row. (row.0, record { point = row.1; words = row.2; label = row.3 })) done ((key, point, words, label) ∷ []))
