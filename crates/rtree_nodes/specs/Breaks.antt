-- Which rule keeps a page from being a node's.
use Rattle.std.specs.Prelude.{◌≡◌, ◌≢◌, ℕ, List, slice_index, false}
use Rattle.page_face.specs.declared.fault.Rule.{Rule}
use Rattle.page_face.specs.declared.fault.Rule.TheVariants.{Kind, Fill, Spare, Value}
use Rattle.rtree_nodes.specs.Pages.{mask_of, has_clear_spares, has_values}

-- the page breaks this rule of a node's page: byte 0 isn't 3, no slot is used, a spare byte isn't 0, a used slot isn't of its form
abbrev pub BreaksNode : Rule → List ℕ → Type 0
BreaksNode Kind page = slice_index page 0 ≢ 3
BreaksNode Fill page = mask_of page ≡ 0
BreaksNode Spare page = has_clear_spares page ≡ false
BreaksNode Value page = has_values page ≡ false
BreaksNode _ page = ⊥

-- the page keeps a rule
abbrev pub Keeps : Rule → List ℕ → Type 0
Keeps rule page = BreaksNode rule page → ⊥

-- the first rule that the page breaks, in the order kind, fill, spare, value
abbrev pub BreaksFirst : Rule → List ℕ → Type 0
BreaksFirst Kind page = BreaksNode Kind page
BreaksFirst Fill page = Keeps Kind page × BreaksNode Fill page
BreaksFirst Spare page = Keeps Kind page × Keeps Fill page × BreaksNode Spare page
BreaksFirst Value page = Keeps Kind page × Keeps Fill page × Keeps Spare page × BreaksNode Value page
BreaksFirst _ page = ⊥

-- the first rule that the page's first bytes break: its kind, or its mask
abbrev pub BreaksHeader : Rule → List ℕ → Type 0
BreaksHeader Kind page = BreaksNode Kind page
BreaksHeader Fill page = Keeps Kind page × BreaksNode Fill page
BreaksHeader _ page = ⊥
