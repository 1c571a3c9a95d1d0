-- Members gathered from the last to the first.
use Rattle.std.proofs.Common.{◌≡◌, ℕ, Bool, true, false, cond, List, [], ◌∷◌, ◌++◌, map, reverse, Option, Some, None, is_some, option_to_list, option_copied, refl, sym, ap, ◌∙◌, Bor, append-nil}
use Rattle.std.specs.Option.{option_or}
use Rattle.std.specs.List.{join_by, join_with_byte}
use Rattle.std.specs.Ordering.{on, nat_cmp}
use Rattle.std.specs.declared.cmp.Ordering.{Ordering}
use Rattle.std.specs.Cmp.Lexicographic.{slice_cmp}
use Rattle.std.specs.BTreeMap.{is_at}
use Rattle.std.specs.BTreeSet.{BTreeSet, contains}
use Rattle.std.proofs.lemmas.List.{reverse-append}
use Rattle.std.proofs.lemmas.Map.Text.{is_eq-slice_cmp}
use Rattle.std.specs.Prelude.{bytes_eq}
use Rattle.json_spelled.specs.Json.{Json, Members, member}
use Rattle.geojson_points.specs.Object.{last_of, string_of, strings_of}
use Rattle.geojson_points.specs.Gathered.{Gathers}

-- the order of lent texts
abbrev pub text_cmp : Bor (List ℕ) → Bor (List ℕ) → Ordering
text_cmp = on (λ (b : Bor (List ℕ)). b.now) (slice_cmp nat_cmp)

-- the bytes of lent texts
abbrev pub bytes_of : List (Bor (List ℕ)) → List (List ℕ)
bytes_of = map (λ (b : Bor (List ℕ)). b.now)

-- a name is there if it was, or is that of the member before
there : (o : Option Json) (b : Bool) (value : Json) → cond b true (is_some o) ≡ is_some (option_or o (cond b (Some value) None))
there None true value = refl
there None false value = refl
there (Some other) true value = refl
there (Some other) false value = refl

-- one string more, before those that were found
found_more : (strings : List (Bor (List ℕ))) (o : Option (Bor (List ℕ))) → bytes_of (reverse (strings ++ option_to_list o)) ≡ option_to_list (option_copied o) ++ bytes_of (reverse strings)
found_more strings None = ap (λ ss. bytes_of (reverse ss)) (append-nil strings)
found_more strings (Some text) = ap bytes_of (reverse-append strings (text ∷ []))

-- The member before others has a new name.
pub gathers_new : (members : Members) (name : Bor (List ℕ)) (value : Json) (names more : BTreeSet (Bor (List ℕ))) (strings : List (Bor (List ℕ))) (o : Option (Bor (List ℕ)))
    → contains text_cmp names name ≡ false → ((q : Bor (List ℕ)) → contains text_cmp more q ≡ cond (is_at (text_cmp name) q) true (contains text_cmp names q))
    → option_copied o ≡ string_of value → Gathers members names strings → Gathers (member name.now value members) more (strings ++ option_to_list o)
gathers_new members name value names more strings o fresh update says g = record {
  seen = λ q. update q ∙ ap (λ b. cond b true (contains text_cmp names q)) (is_eq-slice_cmp name.now q.now)
      ∙ ap (cond (bytes_eq name.now q.now) true) (g.seen q) ∙ there (last_of q.now members) (bytes_eq name.now q.now) value;
  found = found_more strings o ∙ ap (λ s. option_to_list s ++ bytes_of (reverse strings)) says
      ∙ ap (λ ss. option_to_list (string_of value) ++ ss) g.found
      ∙ ap (λ b. cond b [] (option_to_list (string_of value)) ++ strings_of members) (sym fresh ∙ g.seen name);
}

-- lent texts joined by LF
pub joined : (texts : List (Bor (List ℕ))) → join_by (λ (b : Bor (List ℕ)). b.now) (10 ∷ []) texts ≡ join_with_byte 10 (bytes_of texts)
joined [] = refl
joined (x ∷ []) = append-nil x.now
joined (x ∷ y ∷ texts) = ap (λ s. x.now ++ (10 ∷ s)) (joined (y ∷ texts))
