-- The laws of what a walk gathers of places: gains add up.
use Rattle.std.specs.Prelude.{◌≡◌, ℕ, List, [], ◌∷◌, ◌++◌, map}
use Rattle.std.proofs.Common.{refl, sym, ap, ◌∙◌, append_assoc}
use Rattle.std.proofs.lemmas.List.{append-nil, map-append}
use Rattle.std.proofs.lemmas.List.Elements.{All-append, All-nil}
use Rattle.btree_nodes.specs.Rows.{Row}
use Rattle.spatial_base.specs.Key.{Name}
use Rattle.row_codec.specs.declared.stored.Stored.{Stored}
use Rattle.row_codec.specs.Stored.{held_pairs}
use Rattle.std.specs.Map.{keys_of}
use Rattle.store_tables.specs.Coded.{IsPlaceEntry, place_row}
use Rattle.store_verify.specs.Sites.{Site}
use Rattle.store_verify.specs.Words.{held_numbers}
use Rattle.store_verify.specs.Places.{GainsPlaces, sites_of}

-- the numbers of places and of more places
held-append : (es fs : List (Name × Stored)) → held_numbers (es ++ fs) ≡ held_numbers es ++ held_numbers fs
held-append [] fs = refl
held-append (e ∷ es) fs = ap (λ (ns : List ℕ). keys_of (held_pairs e.1) ++ ns) (held-append es fs) ∙ sym (append_assoc (keys_of (held_pairs e.1)) (held_numbers es) (held_numbers fs))

-- no row gains nothing
pub gains-none : (sites : List Site) (numbers : List ℕ) → GainsPlaces [] sites numbers sites numbers
gains-none sites numbers = record { more = []; are = refl; each = All-nil IsPlaceEntry; sites_are = sym (append-nil sites); numbers_are = sym (append-nil numbers) }

-- rows after others gain after them
pub gains-more : (rows more : List Row) (s : List Site) (n : List ℕ) (s' : List Site) (n' : List ℕ) (s'' : List Site) (n'' : List ℕ) → GainsPlaces rows s n s' n' → GainsPlaces more s' n' s'' n'' → GainsPlaces (rows ++ more) s n s'' n''
gains-more rows more s n s' n' s'' n'' first then = record {
  more = first.more ++ then.more;
  are = ap (λ (r : List Row). r ++ more) first.are ∙ ap (λ (r : List Row). map place_row first.more ++ r) then.are ∙ sym (map-append place_row first.more then.more);
  each = All-append IsPlaceEntry first.more then.more first.each then.each;
  sites_are = then.sites_are ∙ ap (λ (xs : List Site). xs ++ sites_of then.more) first.sites_are ∙ append_assoc s (sites_of first.more) (sites_of then.more)
      ∙ ap (λ (xs : List Site). s ++ xs) (sym (map-append (λ (e : Name × Stored). (e.0, e.1.point)) first.more then.more));
  numbers_are = then.numbers_are ∙ ap (λ (xs : List ℕ). xs ++ held_numbers then.more) first.numbers_are ∙ append_assoc n (held_numbers first.more) (held_numbers then.more)
      ∙ ap (λ (xs : List ℕ). n ++ xs) (sym (held-append first.more then.more));
}
