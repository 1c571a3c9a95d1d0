-- The numbers of a query's words, and the impacts of words by number.
use Rattle.std.specs.Prelude.{ℕ, ◌+◌, List, Option, Some, None}
use Rattle.std.specs.Map.{lookup}
use Rattle.std.specs.Str.{bytes_eq}
use Rattle.term_impacts.specs.Form.{word_form}
use Rattle.rtree_nodes.specs.Slots.{Item}

-- the forms of the query's words that the store knows, each with the word's number
abbrev pub Numbers : Type 0
Numbers = List (List ℕ × ℕ)

-- the number of a word that the store knows
abbrev pub number_of : Numbers → List ℕ → Option ℕ
number_of ids word = lookup (bytes_eq (word_form word)) ids

-- f of a number, or 0 where there is none
abbrev pub by_number : (ℕ → ℕ) → Option ℕ → ℕ
by_number f None = 0
by_number f (Some n) = f n

-- the impact of each word by f of its number, and 0 for a word that the store doesn't know
abbrev pub impact_by : Numbers → (ℕ → ℕ) → List ℕ → ℕ
impact_by ids f word = by_number f (number_of ids word)

-- the greatest impact of a word below an item, which stands behind the item's four sides
abbrev pub impact_of : Numbers → Item → List ℕ → ℕ
impact_of ids x = impact_by ids (λ n. x.reach (4 + n))

-- the byte of a word at a slot of a node, by the bytes of the node's rows
abbrev pub byte_of : Numbers → (ℕ → ℕ → ℕ) → ℕ → List ℕ → ℕ
byte_of ids bytes slot = impact_by ids (λ n. bytes n slot)
