-- Whole maps and broken ones, by their roots; 0 is an empty map, which has no page.
use Rattle.std.specs.Prelude.{◌⊎◌, ℕ, zero, suc, List}
use Rattle.page_face.specs.FreeList.{PageMap}
use Rattle.page_face.specs.declared.fault.Rule.{Rule}
use Rattle.page_face.specs.declared.fault.Damage.{Damage}
use Rattle.btree_nodes.specs.declared.form.Form.{Form}
use Rattle.btree_nodes.specs.Tree.{IsMap, map_uses, level_of}
use Rattle.paged_map.specs.Maps.{IsMapDamaged}
use Rattle.page_walks.specs.Misuse.{IsMisused, AreUsedOnce}
use Rattle.page_walks.specs.Leaves.{AreGood, IsBadLeaf}

-- The map is well formed, each of its pages is counted, and none is used twice or was used before: `before n` is how often page n was.
pub record IsWholeMap (form : Form) (pages : PageMap) (count : ℕ) (before : ℕ → ℕ) (root : ℕ) : Type 0 where
  pub map : IsMap form pages root
  pub used : AreUsedOnce count before (map_uses form pages root)

-- the damage is of the map: a page of it is misused, or breaks a rule in its place
abbrev pub IsBrokenMap : Form → PageMap → ℕ → (ℕ → ℕ) → ℕ → Damage → Type 0
IsBrokenMap form pages count before root damage = IsMisused count before (map_uses form pages root) damage ⊎ IsMapDamaged form pages count root damage

-- the bytes of each leaf of a map are good
abbrev pub AreGoodIn : (List ℕ → Type 0) → Form → PageMap → ℕ → Type 0
AreGoodIn good form pages zero = Unit {0}
AreGoodIn good form pages (suc n) = AreGood good form pages (level_of (pages (suc n))) (suc n)

-- the damage is of a leaf of a map, whose bytes break the rule
abbrev pub IsBadLeafIn : (Rule → List ℕ → Type 0) → Form → PageMap → ℕ → Damage → Type 0
IsBadLeafIn breaks form pages zero damage = ⊥
IsBadLeafIn breaks form pages (suc n) damage = IsBadLeaf breaks form pages damage (level_of (pages (suc n))) (suc n)

-- the map is whole, and the bytes of its leaves are good
pub record IsGoodMap (good : List ℕ → Type 0) (form : Form) (pages : PageMap) (count : ℕ) (before : ℕ → ℕ) (root : ℕ) : Type 0 where
  pub whole : IsWholeMap form pages count before root
  pub leaves : AreGoodIn good form pages root

-- the damage is of the map, or of the bytes of a leaf
abbrev pub IsBadMap : (Rule → List ℕ → Type 0) → Form → PageMap → ℕ → (ℕ → ℕ) → ℕ → Damage → Type 0
IsBadMap breaks form pages count before root damage = IsBrokenMap form pages count before root damage ⊎ IsBadLeafIn breaks form pages root damage
