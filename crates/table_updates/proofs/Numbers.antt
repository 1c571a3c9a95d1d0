-- Word numbers with their impacts, as a place holds them.
use Rattle.std.proofs.Common.{◌≡◌, ℕ, ◌+◌, ◌-◌, ◌<◌, ◌≤◌, List, [], ◌∷◌, ◌++◌, length, take, drop, replicate, slice_set, append-nil, append_assoc, take-append-drop, sym, ap, ◌∙◌, arith}
use Rattle.std.proofs.lemmas.List.{drop-drop, drop-replicate, drop-set-lt, take_more_set}
use Rattle.std.proofs.lemmas.Cmp.{nat_cmp_total}
use Rattle.std.proofs.lemmas.List.Elements.{All-nil, All-weaker}
use Rattle.std.specs.BTreeMap.{insert_entry}
use Rattle.std.specs.List.Sorted.{IsStrictlySortedBy}
use Rattle.std.specs.Ordering.{nat_cmp}
use Rattle.spatial_base.specs.Point.{Position}
use Rattle.row_codec.specs.Pairs.{Pair, HasImpact}
use Rattle.row_codec.specs.Stored.{IsStored}
use Rattle.row_codec.specs.declared.stored.Stored.{Stored}
use Rattle.store_tables.specs.Coded.{IsEntryOf}
use Rattle.store_tables.proofs.EntryLemmas.{insert-each}
use Rattle.store_model.specs.Updates.{stored_with}
use Rattle.store_model.proofs.Ordered.{length-insert, sorted-insert}
use Rattle.store_model.proofs.Pairs.{stored-ascending}
use Rattle.table_updates.specs.Numbers.{IsNumberMap}

-- no number is a map
pub map-none : IsNumberMap []
unfolding IsStrictlySortedBy
map-none = record { few = omega arith; ascending = tt; impacts = All-nil HasImpact }

-- with one number more it is still one
pub map-insert : (pairs : List Pair) (number impact : ℕ) → IsNumberMap pairs → length pairs < 64 → 1 ≤ impact → IsNumberMap (insert_entry nat_cmp pairs number impact)
map-insert pairs number impact map room some = record {
  few = omega (arith, length-insert nat_cmp number impact pairs);
  ascending = sorted-insert nat_cmp_total number impact pairs map.ascending;
  impacts = All-weaker (IsEntryOf (λ n. Unit {0}) (λ i. 1 ≤ i)) HasImpact (λ p is. is.1) (insert_entry nat_cmp pairs number impact)
      (insert-each nat_cmp (λ n. Unit {0}) (λ i. 1 ≤ i) number impact pairs tt some (All-weaker HasImpact (IsEntryOf (λ n. Unit {0}) (λ i. 1 ≤ i)) (λ p is. (tt, is)) pairs map.impacts));
}

-- a place with its pairs is of its form
pub stored-map : (point : Position) (pairs : List Pair) (label : List ℕ) → IsNumberMap pairs → IsStored (stored_with point pairs label)
stored-map point pairs label map = stored-ascending point pairs label map.few map.ascending map.impacts

-- pairs that are filled up to a place, with one more
pub filled-more : (pairs left rest entries : List Pair) (count : ℕ) (pair : Pair) → count < length pairs → left ≡ pair ∷ rest → take count pairs ++ left ≡ entries → take (count + 1) (slice_set pairs count pair) ++ rest ≡ entries
filled-more pairs left rest entries count pair inside is all =
    ap (λ (ps : List Pair). ps ++ rest) (take_more_set pairs count pair inside)
    ∙ append_assoc (take count pairs) (pair ∷ []) rest
    ∙ ap (λ (ps : List Pair). take count pairs ++ ps) (sym is)
    ∙ all

-- and those that are spare behind them
pub spare-more : (pairs : List Pair) (count : ℕ) (pair : Pair) → drop count pairs ≡ replicate (64 - count) (0, 0) → drop (count + 1) (slice_set pairs count pair) ≡ replicate (64 - (count + 1)) (0, 0)
spare-more pairs count pair spare =
    drop-set-lt (count + 1) pairs count pair (omega arith)
    ∙ sym (drop-drop 1 count pairs)
    ∙ ap (drop 1) spare
    ∙ drop-replicate 1 (64 - count) (0, 0)
    ∙ ap (λ (n : ℕ). replicate {A = Pair} n (0, 0)) (less count)
  where
    less : (n : ℕ) → 64 - n - 1 ≡ 64 - (n + 1)
    less n = omega arith

-- all pairs make the place
pub filled-all : (point : Position) (label : List ℕ) (pairs left entries : List Pair) (count : ℕ) → left ≡ [] → take count pairs ++ left ≡ entries → count + length left ≡ length entries → drop count pairs ≡ replicate (64 - count) (0, 0)
    → ◌≡◌ {A = Stored} (record { point = point; count = count; pairs = pairs; label = label }) (stored_with point entries label)
filled-all point label pairs left entries count none filled all spare =
    λ i. record { point = point; count = long i; pairs = held i; label = label }
  where
    long : count ≡ length entries
    long = (let no : length left ≡ 0 = ap length none in omega (arith, all, no))

    front : take count pairs ≡ entries
    front = sym (append-nil (take count pairs)) ∙ ap (λ (ps : List Pair). take count pairs ++ ps) (sym none) ∙ filled

    held : pairs ≡ entries ++ replicate (64 - length entries) (0, 0)
    held = sym (take-append-drop count pairs) ∙ (λ i. front i ++ spare i) ∙ ap (λ (n : ℕ). entries ++ replicate {A = Pair} (64 - n) (0, 0)) long
