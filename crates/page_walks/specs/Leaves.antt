-- What the leaves below a page hold, apart from the form of the map.
use Rattle.std.specs.Prelude.{◌≡◌, ◌⊎◌, ℕ, zero, suc, List, [], ◌∷◌}
use Rattle.page_face.specs.FreeList.{PageMap}
use Rattle.page_face.specs.declared.fault.Rule.{Rule}
use Rattle.page_face.specs.declared.fault.Damage.{Damage}
use Rattle.btree_nodes.specs.declared.form.Form.{Form}
use Rattle.btree_nodes.specs.Nodes.{Entry, entries_in}
use Rattle.page_walks.specs.Beneath.{IsBrokenBelow}

-- each entry's child is so
abbrev pub EachChild : (ℕ → Type 0) → List Entry → Type 0
EachChild P [] = Unit {0}
EachChild P (e ∷ es) = P e.1 × EachChild P es

-- some entry's child is so
abbrev pub AnyChildIs : (ℕ → Type 0) → List Entry → Type 0
AnyChildIs P [] = ⊥
AnyChildIs P (e ∷ es) = P e.1 ⊎ AnyChildIs P es

-- the bytes of each leaf below a page of this level are good
abbrev pub AreGood : (List ℕ → Type 0) → Form → PageMap → ℕ → ℕ → Type 0
AreGood good form pages zero page = good (pages page)
AreGood good form pages (suc level) page = EachChild (AreGood good form pages level) (entries_in form (pages page))

-- the damage is of a leaf below a page of this level, whose bytes break the rule
abbrev pub IsBadLeaf : (Rule → List ℕ → Type 0) → Form → PageMap → Damage → ℕ → ℕ → Type 0
IsBadLeaf breaks form pages damage zero page = (damage.page ≡ page) × breaks damage.rule (pages page)
IsBadLeaf breaks form pages damage (suc level) page = AnyChildIs (IsBadLeaf breaks form pages damage level) (entries_in form (pages page))

-- the damage is below a page: of the map's form, or of the bytes of a leaf
abbrev pub IsBadBelow : (Rule → List ℕ → Type 0) → Form → PageMap → ℕ → (ℕ → ℕ) → ℕ → ℕ → ℕ → ℕ → ℕ → Damage → Type 0
IsBadBelow breaks form pages count before least level page low high damage =
    IsBrokenBelow form pages count before least level page low high damage ⊎ IsBadLeaf breaks form pages damage level page
