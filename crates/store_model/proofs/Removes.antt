-- What taking a place out does to the state that the entries stand for.
use Rattle.std.proofs.Common.{◌≡◌, ℕ, ◌+◌, arith, Bool, true, false, cond, List, [], All, Option, Some, None, option_map, refl, sym, ap, subst, ◌∙◌}
use Rattle.std.proofs.lemmas.Map.Made.{keys_of-map_values}
use Rattle.std.specs.BTreeMap.{is_at}
use Rattle.std.specs.List.Sorted.{IsStrictlySortedBy}
use Rattle.std.specs.Map.{keys_of}
use Rattle.spatial_base.specs.Key.{Name, key_cmp}
use Rattle.place_values.specs.State.{IsSerialAbove}
use Rattle.place_values.specs.State as states
use Rattle.row_codec.specs.declared.stored.Stored.{Stored}
use Rattle.store_tables.specs.Coded.{IsPlaceEntry}
use Rattle.store_tables.specs.Entries.{Entries, place_of_key, without_place}
use Rattle.store_tables.specs.Words.{WordTablesAgree, holders}
use Rattle.store_tables.proofs.EntryLemmas.{remove-each}
use Rattle.store_tables.proofs.MapLemmas.{keys_are_ordered, lookup-remove}
use Rattle.store_model.specs.Stands.{AreSoundFor, IsCounting, place_in, places_in}
use Rattle.store_model.proofs.Steps.{AreAscending, IsReleasing}
use Rattle.store_model.specs.Updates.{after_remove, has_pair, pairs_of}
use Rattle.store_model.proofs.Numbers.{agree-claims}
use Rattle.store_model.proofs.Ordered.{same_from_lookups, sorted-remove}
use Rattle.store_model.proofs.Places.{apart-old, held-claimed, holders-but, agree-released, place-at, place-same, same-released}
use Rattle.store_model.proofs.Releases.{releasing-all}

-- one place less, or as many as before
fewer : (claims : ℕ → ℕ → ℕ) → IsCounting claims → (n k all : ℕ) (b : Bool) → k + cond b 1 0 ≡ all → claims n all ≡ claims n k + cond b 1 0
fewer claims counting n k all true e = ap (claims n) (sym e) ∙ counting.more n k
fewer claims counting n k all false e = (let same : k ≡ all = omega (arith, e) in let is : claims n k ≡ claims n all = ap (claims n) same in omega (arith, is))

-- the place at a key still holds its words, where it was taken out
pub releasing-without : (claims : ℕ → ℕ → ℕ) → IsCounting claims → (key : Name) (entries : Entries) (next_word : ℕ) → WordTablesAgree (λ n. claims n (holders n entries.places)) entries.texts entries.numbers next_word → AreAscending entries
    → IsReleasing (λ n. claims n (holders n (without_place key entries.places))) [] (record entries { places = without_place key entries.places }) next_word (pairs_of (place_of_key key entries.places)) (record entries { places = without_place key entries.places })
releasing-without claims counting key entries next_word agree ascend = record {
  agree = agree-claims (λ n. claims n (holders n entries.places)) _ entries.texts entries.numbers next_word
      (λ n. fewer claims counting n (holders n (without_place key entries.places)) (holders n entries.places) (has_pair n (pairs_of (place_of_key key entries.places))) (holders-but n key entries.places)) agree;
  ascend = record { places = sorted-remove key_cmp (is_at (key_cmp key)) entries.places ascend.places; texts = ascend.texts; numbers = ascend.numbers };
  keeps = λ n w is. is;
  places = refl;
}

module _ (claims : ℕ → ℕ → ℕ) (counting : IsCounting claims) (key : Name) (entries : Entries) (next_word serial : ℕ) (sound : AreSoundFor claims entries next_word serial) (ascend : AreAscending entries) (each : All IsPlaceEntry entries.places) where
  -- all its words are released
  pub remove-released : IsReleasing (λ n. claims n (holders n (without_place key entries.places))) [] (record entries { places = without_place key entries.places }) next_word [] (after_remove key entries)
  remove-released =
      releasing-all (λ n. claims n (holders n (without_place key entries.places))) [] _ next_word (pairs_of (place_of_key key entries.places)) _ (apart-old key entries.places each) (releasing-without claims counting key entries next_word sound.words ascend)

  -- the other places stay
  pub remove-entries : (after_remove key entries).places ≡ without_place key entries.places
  remove-entries = remove-released.places

  -- the tables are sound
  pub remove-sound : AreSoundFor claims (after_remove key entries) next_word serial
  remove-sound = record {
    words = subst (λ (ps : List (Name × Stored)). WordTablesAgree (λ n. claims n (holders n ps)) (after_remove key entries).texts (after_remove key entries).numbers next_word) (sym remove-entries)
        (agree-released (λ n. claims n (holders n (without_place key entries.places))) [] _ next_word (after_remove key entries) remove-released);
    serials = subst (All (λ e. IsSerialAbove serial e.0)) (sym remove-entries) (remove-each (λ (e : Name × Stored). IsSerialAbove serial e.0) (is_at (key_cmp key)) entries.places sound.serials);
  }

  -- another place keeps its words
  remove-kept : (q : Name) (stored : Stored) → place_of_key q (without_place key entries.places) ≡ Some stored → place_of_key q entries.places ≡ Some stored → place_in (after_remove key entries).numbers stored ≡ place_in entries.numbers stored
  remove-kept q stored after before =
      place-same entries.numbers (after_remove key entries).numbers stored (λ n held.
      same-released (λ n. claims n (holders n (without_place key entries.places))) [] _ next_word (after_remove key entries) remove-released n (let some = held-claimed n q stored (without_place key entries.places) after held in omega (arith, some, counting.covers n (holders n (without_place key entries.places)))))

  -- the entries stand for the places without the key's
  pub remove-places : places_in (after_remove key entries) ≡ states.without_place key (places_in entries)
  remove-places =
      let left : IsStrictlySortedBy key_cmp (keys_of (places_in (after_remove key entries))) =
      subst (IsStrictlySortedBy key_cmp) (sym (keys_of-map_values (place_in (after_remove key entries).numbers) (after_remove key entries).places)) remove-released.ascend.places in
      let all : IsStrictlySortedBy key_cmp (keys_of (places_in entries)) = subst (IsStrictlySortedBy key_cmp) (sym (keys_of-map_values (place_in entries.numbers) entries.places)) ascend.places in
      same_from_lookups keys_are_ordered _ _ left (sorted-remove key_cmp (is_at (key_cmp key)) (places_in entries) all) (λ q.
      let test = is_at (key_cmp key) q in
      place-at q (after_remove key entries)
      ∙ ap (λ (ps : List (Name × Stored)). option_map (place_in (after_remove key entries).numbers) (place_of_key q ps)) remove-entries
      ∙ split q test (place_of_key q entries.places) refl (lookup-remove keys_are_ordered q key entries.places ascend.places)
      ∙ ap (cond test None) (sym (place-at q entries))
      ∙ sym (lookup-remove keys_are_ordered q key (places_in entries) all))
    where
      found : (q : Name) (f : Option Stored) → place_of_key q entries.places ≡ f → place_of_key q (without_place key entries.places) ≡ f → option_map (place_in (after_remove key entries).numbers) f ≡ option_map (place_in entries.numbers) f
      found q None was is = refl
      found q (Some stored) was is = ap Some (remove-kept q stored is was)

      split : (q : Name) (b : Bool) (f : Option Stored) → place_of_key q entries.places ≡ f → place_of_key q (without_place key entries.places) ≡ cond b None (place_of_key q entries.places)
          → option_map (place_in (after_remove key entries).numbers) (place_of_key q (without_place key entries.places)) ≡ cond b None (option_map (place_in entries.numbers) (place_of_key q entries.places))
      split q true f was is = ap (option_map (place_in (after_remove key entries).numbers)) is
      split q false f was is =
          ap (option_map (place_in (after_remove key entries).numbers)) (is ∙ was) ∙ found q f was (is ∙ was) ∙ ap (option_map (place_in entries.numbers)) (sym was)
