-- A leaf's places one by one.
use Rattle.std.proofs.Common.{◌≡◌, ℕ, ◌+◌, ◌<◌, ◌++◌, List, [], ◌∷◌, get_or, length, take, arith, refl, sym, ap, ◌∙◌, subst, append_assoc}
use Rattle.std.specs.Map.{keys_of}
use Rattle.std.proofs.lemmas.List.{append-nil, map-append}
use Rattle.std.proofs.lemmas.List.Elements.{All-cons, All-nil}
use Rattle.page_face.specs.FreeList.{PageMap}
use Rattle.page_face.specs.Nodes.{count_of}
use Rattle.btree_nodes.specs.Nodes.{rows_in}
use Rattle.btree_nodes.specs.Rows.{Row}
use Rattle.btree_nodes.specs.Tree.{IsMap, map_rows}
use Rattle.btree_nodes.proofs.Spots.{length-rows_in}
use Rattle.spatial_base.specs.Key.{IsName, Name}
use Rattle.row_codec.specs.declared.stored.Stored.{Stored}
use Rattle.row_codec.specs.Stored.{held_pairs, place_value}
use Rattle.store_tables.specs.Coded.{IsPlaceEntry, IsPlaceValue, key_code, place_row}
use Rattle.store_tables.specs.Holding.{places_form}
use Rattle.store_verify.specs.Sites.{Site}
use Rattle.store_verify.specs.Words.{held_numbers}
use Rattle.store_verify.specs.Gains.{AreRowsOf}
use Rattle.store_verify.specs.Places.{GainsPlaces, HoldsSites, sites_of}
use Rattle.store_verify.specs.PlaceLaws.{gains-more}
use Rattle.store_verify.proofs.Steps.{take-all, take-more}

-- the numbers of one pair more
pub keys-more : (pairs : List (ℕ × ℕ)) (at : ℕ) (d : ℕ × ℕ) (old now new : List ℕ) → at < length pairs → now ≡ old ++ keys_of (take at pairs) → new ≡ now ++ (get_or pairs at d).0 ∷ []
    → new ≡ old ++ keys_of (take (at + 1) pairs)
keys-more pairs at d old now new inside is pushed =
    pushed ∙ ap (λ (ns : List ℕ). ns ++ (get_or pairs at d).0 ∷ []) is ∙ append_assoc old (keys_of (take at pairs)) ((get_or pairs at d).0 ∷ [])
    ∙ ap (λ (ns : List ℕ). old ++ ns) (sym (ap keys_of (take-more pairs at d inside) ∙ map-append (λ (p : ℕ × ℕ). p.0) (take at pairs) (get_or pairs at d ∷ [])))

-- one row more
pub places-row : (page : List ℕ) (at : ℕ) (s : List Site) (n : List ℕ) (s' : List Site) (n' : List ℕ) (s'' : List Site) (n'' : List ℕ) (key : Name) (stored : Stored) → at < count_of page
    → GainsPlaces (take at (rows_in places_form page)) s n s' n' → IsPlaceEntry (key, stored) → get_or (rows_in places_form page) at (0, []) ≡ place_row (key, stored)
    → s'' ≡ s' ++ (key, stored.point) ∷ [] → n'' ≡ n' ++ keys_of (held_pairs stored) → GainsPlaces (take (at + 1) (rows_in places_form page)) s n s'' n''
places-row page at s n s' n' s'' n'' key stored inside gains is row site numbers =
    subst (λ (rows : List Row). GainsPlaces rows s n s'' n'')
    (ap (λ (r : Row). take at (rows_in places_form page) ++ r ∷ []) (sym row) ∙ sym (take-more (rows_in places_form page) at (0, []) (let long = length-rows_in places_form page in omega arith)))
    (gains-more (take at (rows_in places_form page)) (place_row (key, stored) ∷ []) s n s' n' s'' n'' gains
    (record {
      more = (key, stored) ∷ [];
      are = refl;
      each = All-cons IsPlaceEntry (key, stored) [] is (All-nil IsPlaceEntry);
      sites_are = site;
      numbers_are = numbers ∙ ap (λ (ns : List ℕ). n' ++ ns) (sym (append-nil (keys_of (held_pairs stored))));
    }))

-- all rows
pub places-all : (page : List ℕ) (count : ℕ) (s : List Site) (n : List ℕ) (s' : List Site) (n' : List ℕ) → count ≡ count_of page → GainsPlaces (take count (rows_in places_form page)) s n s' n' → GainsPlaces (rows_in places_form page) s n s' n'
places-all page count s n s' n' e gains =
    subst (λ (rows : List Row). GainsPlaces rows s n s' n') (take-all (rows_in places_form page) count (e ∙ sym (length-rows_in places_form page))) gains

pub places-good : (rows : List Row) (s : List Site) (n : List ℕ) (s' : List Site) (n' : List ℕ) → GainsPlaces rows s n s' n' → AreRowsOf key_code place_value IsName IsPlaceValue rows
places-good rows s n s' n' gains = record { entries = gains.more; are = gains.are; each = gains.each }

-- a whole map whose places were gathered holds them
pub places-hold : (pages : PageMap) (root : ℕ) (s : List Site) (n : List ℕ) (s' : List Site) (n' : List ℕ) → s ≡ [] → n ≡ [] → IsMap places_form pages root → GainsPlaces (map_rows places_form pages root) s n s' n' → HoldsSites pages root s' n'
places-hold pages root s n s' n' none none' tree gains = record {
  entries = gains.more;
  holds = record { tree = tree; rows = gains.are; each = gains.each };
  sites_are = gains.sites_are ∙ ap (λ (xs : List Site). xs ++ sites_of gains.more) none;
  numbers_are = gains.numbers_are ∙ ap (λ (xs : List ℕ). xs ++ held_numbers gains.more) none';
}
