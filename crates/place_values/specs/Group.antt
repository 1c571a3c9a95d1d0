-- Choices of a place for each word, and the least of them: the collective spatial keyword query of Cao, Cong, Jensen and Ooi 2011,
-- in the type whose cost is the greatest distance to the query plus the greatest distance between two places (their type 2).
use Rattle.std.specs.Prelude.{ℕ, ◌+◌, max, if◌then◌else◌, Bool, List, [], ◌∷◌, map, fold, Option, Some, None}
use Rattle.std.specs.List.{flat_map}
use Rattle.std.specs.declared.cmp.Ordering.{Ordering}
use Rattle.std.specs.Cmp.Lexicographic.{slice_cmp}
use Rattle.std.specs.Ordering.{nat_cmp, int_cmp, is_lt, on, then_cmp}
use Rattle.spatial_base.specs.Key.{Name, key_cmp}
use Rattle.spatial_base.specs.Point.{Viewpoint, seen_from, distance}
use Rattle.place_values.specs.First.{first}
use Rattle.place_values.specs.declared.place.Place.{Place}
use Rattle.place_values.specs.declared.query.Pick.{Pick}
use Rattle.place_values.specs.declared.query.Chosen.{Chosen}
use Rattle.place_values.specs.Filter.{has_word}
use Rattle.place_values.specs.State.{Places}

-- a place as the pick for a word
abbrev pub pick_of : Viewpoint → List ℕ → Name × Place → Pick
pick_of at word entry = record { key = entry.0; word = word; dist = distance at entry.1.point; point = entry.1.point }

-- what a place gives to a word: its pick where it holds the word
abbrev pub word_picks : Viewpoint → List ℕ → Name × Place → List Pick
word_picks at word entry = if has_word entry.1 word then pick_of at word entry ∷ [] else []

-- the picks for a word
abbrev pub picks_for : Places → Viewpoint → List ℕ → List Pick
picks_for places at word = flat_map (word_picks at word) places

-- all lists of one member of each list, in the lists' order
abbrev pub product : {X : Type 0} → List (List X) → List (List X)
product [] = [] ∷ []
product (xs ∷ rest) = flat_map (λ x. map (λ others. x ∷ others) (product rest)) xs

-- all choices: a pick for each word, in the words' order
abbrev pub choices : Places → Viewpoint → List (List ℕ) → List (List Pick)
choices places at words = product (map (picks_for places at) words)

-- the greatest distance to a pick
abbrev pub farthest : Viewpoint → List Pick → ℕ
farthest from picks = fold (λ most (pick : Pick). max most (distance from pick.point)) 0 picks

-- the greatest distance between two picks, with a scale of longitudes
abbrev pub diameter : ℕ → List Pick → ℕ
diameter scale [] = 0
diameter scale (pick ∷ others) = max (farthest (seen_from pick.point scale) others) (diameter scale others)

-- what a choice costs
abbrev pub choice_cost : Viewpoint → List Pick → ℕ
choice_cost at picks = farthest at picks + diameter at.scale picks

-- by key, then by all else
abbrev pub pick_cmp : Pick → Pick → Ordering
pick_cmp =
    then_cmp (on (λ (p : Pick). p.key) key_cmp)
    (then_cmp (on (λ (p : Pick). p.word) (slice_cmp nat_cmp))
    (then_cmp (on (λ (p : Pick). p.dist) nat_cmp)
    (then_cmp (on (λ (p : Pick). p.point.x) int_cmp) (on (λ (p : Pick). p.point.y) int_cmp))))

-- by what choices cost, then by the keys in the words' order
abbrev pub price_cmp : (List Pick → ℕ) → List Pick → List Pick → Ordering
price_cmp price = then_cmp (on price nat_cmp) (slice_cmp pick_cmp)

-- a choice comes before another
abbrev pub is_less : (List Pick → ℕ) → List Pick → List Pick → Bool
is_less price a b = is_lt (price_cmp price a b)

-- the first of some choices, with what it costs
abbrev pub head_by : (List Pick → ℕ) → List (List Pick) → Option Chosen
head_by price [] = None
head_by price (picks ∷ others) = Some record { cost = price picks; picks = picks }

-- the least of some choices, where there is one
abbrev pub least_by : (List Pick → ℕ) → List (List Pick) → Option Chosen
least_by price choices = head_by price (first (is_less price) 1 choices)

-- the same where a choice costs the distance to its farthest place and its diameter
abbrev pub choice_cmp : Viewpoint → List Pick → List Pick → Ordering
choice_cmp at = price_cmp (choice_cost at)

abbrev pub is_cheaper : Viewpoint → List Pick → List Pick → Bool
is_cheaper at = is_less (choice_cost at)

abbrev pub head_of : Viewpoint → List (List Pick) → Option Chosen
head_of at = head_by (choice_cost at)

abbrev pub least_of : Viewpoint → List (List Pick) → Option Chosen
least_of at = least_by (choice_cost at)

-- the answer to a group query: the least of all choices
abbrev pub group_of : Places → Viewpoint → List (List ℕ) → Option Chosen
group_of places at words = least_of at (choices places at words)
