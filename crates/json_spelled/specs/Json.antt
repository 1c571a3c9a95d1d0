-- A JSON value as contracts see it: each number is its spelling, and an object has its members in order, repeats included.
use Rattle.std.specs.Prelude.{ℕ, List, [], ◌∷◌, Bool}

mutual
  pub data Json : Type 0 where
    null : Json
    truth : Bool → Json
    spelled : List ℕ → Json
    text : List ℕ → Json
    list : Items → Json
    object : Members → Json

  pub data Items : Type 0 where
    no_items : Items
    item : Json → Items → Items

  pub data Members : Type 0 where
    no_members : Members
    member : List ℕ → Json → Members → Members

-- a name with its value
abbrev pub Entry : Type 0
Entry = List ℕ × Json

-- these items, and then those
abbrev pub items_onto : List Json → Items → Items
items_onto [] rest = rest
items_onto (value ∷ values) rest = item value (items_onto values rest)

-- these members, and then those
abbrev pub members_onto : List Entry → Members → Members
members_onto [] rest = rest
members_onto (entry ∷ entries) rest = member entry.0 entry.1 (members_onto entries rest)
