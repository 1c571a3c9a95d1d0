-- What a change of rows is damaged by, from what its steps are.
use Rattle.std.proofs.Common.{◌≡◌, ◌⊎◌, ℕ, List, inl, inr, sym, subst, ⊎_elim}
use Rattle.page_face.specs.FreeList.{PageMap}
use Rattle.page_face.specs.declared.fault.Damage.{Damage}
use Rattle.btree_nodes.specs.Damages.{AsksOnly}
use Rattle.btree_nodes.proofs.Harms.{asked-before}
use Rattle.node_rows.specs.Damages.{IsRowsDamage, IsRowsHarm}

-- damage that a look for a row found, of pages that are so still
pub harm-looked : (old new : PageMap) (count count' first root : ℕ) (before asked : List ℕ) (damage : Damage) → new ≡ old → count' ≡ count
    → IsRowsDamage old count root before asked damage → IsRowsHarm new count' first root before asked damage
harm-looked old new count count' first root before asked damage same more d =
    inl (subst (λ (p : PageMap). IsRowsDamage p count' root before asked damage) (sym same) (subst (λ (k : ℕ). IsRowsDamage old k root before asked damage) (sym more) d))

-- damage that a later step found
pub harm-later : (root : ℕ) (mine : ℕ → ℕ) (pages : PageMap) (count first : ℕ) (before middle asked : List ℕ) (damage : Damage) → AsksOnly mine before middle
    → IsRowsHarm pages count first root middle asked damage → IsRowsHarm pages count first root before asked damage
harm-later root mine pages count first before middle asked damage m h =
    ⊎_elim {C = IsRowsHarm pages count first root before asked damage} (λ d. inl (d.0, asked-before mine before middle asked damage.page m d.1)) (λ r. inr r) h
