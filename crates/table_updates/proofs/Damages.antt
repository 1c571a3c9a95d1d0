-- The damage of one step is damage of the whole.
use Rattle.std.proofs.Common.{◌⊎◌, ℕ, List, inl, inr}
use Rattle.page_face.specs.FreeList.{PageMap}
use Rattle.page_face.specs.declared.fault.Damage.{Damage}
use Rattle.btree_nodes.specs.Damages.{AskedSince, AsksOnly, IsRefusedTake}
use Rattle.btree_nodes.proofs.Harms.{asked-before}
use Rattle.table_updates.specs.Carrying.{IsCarryingDamage, any_page}

-- that of a put
pub put-damage : (A : Type 0) (pages : PageMap) (count first : ℕ) (before asked : List ℕ) (damage : Damage) → (A × AskedSince before asked damage.page) ⊎ IsRefusedTake pages count first damage → IsCarryingDamage pages count first before asked damage
put-damage A pages count first before asked damage (inl map) = inl map.1
put-damage A pages count first before asked damage (inr take) = inr (inl take)

-- that of a later step
pub later-damage : (pages : PageMap) (count first : ℕ) (before middle asked : List ℕ) (damage : Damage) → AsksOnly any_page before middle → IsCarryingDamage pages count first middle asked damage → IsCarryingDamage pages count first before asked damage
later-damage pages count first before middle asked damage own (inl page) = inl (asked-before any_page before middle asked damage.page own page)
later-damage pages count first before middle asked damage own (inr other) = inr other
