-- Places in the order of their keys, one more at the end.
use Rattle.std.proofs.Common.{◌≡◌, ℕ, ◌+◌, ◌<◌, ◌≤◌, List, [], ◌∷◌, ◌++◌, map, All, refl, sym, ap, ◌∙◌, arith}
use Rattle.std.proofs.lemmas.List.Elements.{All-cons, All-head, All-nil, All-tail}
use Rattle.std.specs.Cmp.{nat_cmp_is}
use Rattle.std.specs.Ordering.{match_ordering}
use Rattle.std.specs.declared.cmp.Ordering.{Ordering}
use Rattle.std.specs.declared.cmp.Ordering.TheVariants.{Greater}
use Rattle.spatial_base.specs.Key.{Name, IsName, key_cmp}
use Rattle.btree_nodes.specs.Rows.{IsWithin, Row}
use Rattle.btree_nodes.proofs.Spans.{within-le}
use Rattle.row_codec.specs.declared.stored.Stored.{Stored}
use Rattle.store_tables.specs.Coded.{IsPlaceEntry, key_code, place_row}
use Rattle.store_tables.specs.Entries.{with_place}
use Rattle.store_tables.proofs.LookupLemmas.{keys_coding}

-- rows with one more behind them
pub within-behind : (low high : ℕ) (rows : List Row) (row : Row) → IsWithin low high rows → high ≤ row.0 → IsWithin low (row.0 + 1) (rows ++ row ∷ [])
within-behind low high [] row within over = (omega (arith, within, over), omega arith)
within-behind low high (first ∷ rows) row within over = (within.0, within-behind (first.0 + 1) high rows row within.1 over)

-- a place whose key is above those of all others is put behind them
pub with_place-behind : (key : Name) (stored : Stored) (places : List (Name × Stored)) (low high : ℕ) → IsName key → All IsPlaceEntry places → IsWithin low high (map place_row places) → high ≤ key_code key
    → with_place key stored places ≡ places ++ (key, stored) ∷ []
with_place-behind key stored [] low high is each within over = refl
with_place-behind key stored (e ∷ places) low high is each within over =
    let here = All-head IsPlaceEntry e places each in
    let rest = with_place-behind key stored places (key_code e.0 + 1) high is (All-tail IsPlaceEntry e places each) within.1 over in
    let least = within-le (key_code e.0 + 1) high (map place_row places) within.1 in
    let above : key_code e.0 < key_code key = omega (arith, least, over) in
    let greater : key_cmp key e.0 ≡ Greater = keys_coding.agrees key e.0 is here.0 ∙ sym (nat_cmp_is (key_code key) (key_code e.0) Greater above) in
    ap (λ (o : Ordering). match_ordering o ((key, stored) ∷ (e ∷ places)) ((e.0, stored) ∷ places) (e ∷ with_place key stored places)) greater
    ∙ ap (λ (l : List (Name × Stored)). e ∷ l) rest

-- what holds of all holds of the first ones
pub All-front : {X : Type 0} (P : X → Type 0) (xs ys : List X) → All P (xs ++ ys) → All P xs
All-front P [] ys all = All-nil P
All-front P (x ∷ xs) ys all = All-cons P x xs (All-head P x (xs ++ ys) all) (All-front P xs ys (All-tail P x (xs ++ ys) all))
