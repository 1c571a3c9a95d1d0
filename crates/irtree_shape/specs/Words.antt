-- Nodes joined with the rows of their words.
use Rattle.std.specs.Prelude.{◌≡◌, ℕ, ◌-◌, None, nat_lt, option_map, if◌then◌else◌}
use Rattle.rtree_nodes.specs.Slots.{Item, Slots, NodeView}

-- an item of these words: behind its four sides it reaches to each word as far as the word's impact
abbrev pub worded : (ℕ → ℕ) → Item → Item
worded f x = record x { reach = λ d. if nat_lt d 4 then x.reach d else f (d - 4) }

-- an item with the bytes of its slot, by word and slot
abbrev pub joined_item : (ℕ → ℕ → ℕ) → ℕ → Item → Item
joined_item b i x = worded (λ w. b w i) x

-- slots with the bytes of their words
abbrev pub words_on : (ℕ → ℕ → ℕ) → Slots → Slots
words_on b s i = option_map (joined_item b i) (s i)

-- a node with the bytes of its rows
abbrev pub joined : NodeView → (ℕ → ℕ → ℕ) → NodeView
joined v b = record { level = v.level; slots = words_on b v.slots }

-- no byte stands at a slot that isn't used
abbrev pub AreBlank : (ℕ → ℕ → ℕ) → Slots → Type 0
AreBlank b s = (w i : ℕ) → s i ≡ None → b w i ≡ 0
