-- The pages below a page of a map, and what may be broken there.
use Rattle.std.specs.Prelude.{◌⊎◌, ℕ, zero, suc}
use Rattle.page_face.specs.FreeList.{PageMap}
use Rattle.page_face.specs.declared.fault.Damage.{Damage}
use Rattle.btree_nodes.specs.declared.form.Form.{Form}
use Rattle.btree_nodes.specs.Nodes.{entries_in}
use Rattle.btree_nodes.specs.Tree.{total, uses}
use Rattle.btree_nodes.specs.Damages.{IsDamaged}
use Rattle.page_walks.specs.Misuse.{IsMisused}

-- how often a page is used below a page of this level, which itself isn't counted
abbrev pub beneath : Form → PageMap → ℕ → ℕ → ℕ → ℕ
beneath form pages zero page n = 0
beneath form pages (suc level) page n = total (λ (c : ℕ). uses form pages level c n) (entries_in form (pages page))

-- the damage is of a page or of one below it: a page below is misused, or it breaks a rule in its place
abbrev pub IsBrokenBelow : Form → PageMap → ℕ → (ℕ → ℕ) → ℕ → ℕ → ℕ → ℕ → ℕ → Damage → Type 0
IsBrokenBelow form pages count before least level page low high damage =
    IsMisused count before (beneath form pages level page) damage ⊎ IsDamaged form pages count damage least level page low high
