-- What is found for the first places of a seed, place by place.
use Rattle.std.proofs.Common.{◌≡◌, ◌+◌, ℕ, zero, suc, List, ◌++◌, length, take, sym, ap, subst, ◌∙◌, arith, append_assoc, length-append}
use Rattle.std.proofs.lemmas.List.{append-nil, take-take}
use Rattle.std.proofs.lemmas.List.Sums.{sum_by-append}
use Rattle.std.specs.List.{flat_map, range_with_len}
use Rattle.place_generator.specs.Made.{Place, place_of_seed}
use Rattle.place_values.specs.Answer.{answer_of}
use Rattle.place_values.specs.State.{Contents}
use Rattle.place_values.specs.declared.hit.Hit.{Hit}
use Rattle.place_values.specs.declared.query.Answer.{Answer}
use Rattle.place_values.specs.declared.query.Query.{Query}
use Rattle.load_run.specs.declared.found.Found.{Found}
use Rattle.load_run.specs.Asking.{Counts, cost_in, found_for, found_in, hits_in, query_for}

-- no more than ten are found for a place
first-ten : (state : Contents) (place : Place) → take 10 (hits_in (answer_of state (query_for place))) ≡ hits_in (answer_of state (query_for place))
unfolding query_for
first-ten state place = take-take 10 10 _ (omega arith)

-- the first ten hits of the answer to a place's query are all of them
pub counts-answer : (state : Contents) (place : Place) (query : Query) (answer : Answer) (found : Found) → query ≡ query_for place → answer ≡ answer_of state query → Counts (take 10 (hits_in answer)) found
    → Counts (hits_in (answer_of state (query_for place))) found
counts-answer state place query answer found asked is counts =
    subst (λ hits. Counts hits found) (ap (λ (a : Answer). take 10 (hits_in a)) (is ∙ ap (answer_of state) asked) ∙ first-ten state place) counts

-- one place more
range-more : {X : Type 0} (f : ℕ → List X) (from n : ℕ) → flat_map f (range_with_len from (suc n)) ≡ flat_map f (range_with_len from n) ++ f (from + n)
range-more f from zero = append-nil (f from) ∙ ap f (let same : from ≡ from + 0 = omega arith in same)
range-more f from (suc n) =
    let same : (from + 1) + n ≡ from + suc n = omega arith in
    ap (λ t. f from ++ t) (range-more f (from + 1) n ∙ ap (λ k. flat_map f (range_with_len (from + 1) n) ++ f k) same)
    ∙ sym (append_assoc (f from) (flat_map f (range_with_len (from + 1) n)) (f (from + suc n)))

-- what is found for one place more
found-more : (state : Contents) (seed number : ℕ) → found_in state seed (number + 1) ≡ found_in state seed number ++ found_for state seed number
found-more state seed number =
    let one : number + 1 ≡ suc number = omega arith in
    let same : 0 + number ≡ number = omega arith in
    ap (found_in state seed) one ∙ range-more (found_for state seed) 0 number ∙ ap (λ k. found_in state seed number ++ found_for state seed k) same

-- nothing is found for none
pub counts-none : (state : Contents) (seed : ℕ) (found : Found) → found.hits ≡ 0 → found.cost ≡ 0 → Counts (found_in state seed 0) found
counts-none state seed found none free = record { number = none; sum = free }

-- it is counted beside what was found so far
pub counts-more : (state : Contents) (seed number : ℕ) (made : Place) (sofar here found : Found) → made ≡ place_of_seed seed number → Counts (found_in state seed number) sofar → Counts (hits_in (answer_of state (query_for made))) here
    → found.hits ≡ sofar.hits + here.hits → found.cost ≡ sofar.cost + here.cost → Counts (found_in state seed (number + 1)) found
unfolding found_for
counts-more state seed number made sofar here found is counts also hits cost =
    let more = found-more state seed number in
    let same : hits_in (answer_of state (query_for made)) ≡ found_for state seed number = ap (λ (p : Place). hits_in (answer_of state (query_for p))) is in
    record {
      number = omega (arith, hits, counts.number, also.number, ap (λ (l : List Hit). length l) same, ap (λ (l : List Hit). length l) more, length-append (found_in state seed number) (found_for state seed number));
      sum = omega (arith, cost, counts.sum, also.sum, ap cost_in same, ap cost_in more, sum_by-append (λ (hit : Hit). hit.cost) (found_in state seed number) (found_for state seed number));
    }
