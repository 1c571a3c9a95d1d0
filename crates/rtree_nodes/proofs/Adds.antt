-- What holds of a node's items and of a new one.
use Rattle.std.proofs.Common.{ℕ, ◌<◌, sym, subst, Option, Some, None, inl, inr}
use Rattle.rtree_nodes.specs.Slots.{Item, Slots, Held, Each, IsFrom}

from-held : (P : Item → Type 0) (s : Slots) (x : Item) → Each P s → P x → (o : Option Item) → IsFrom s x o → Held P o
from-held P s x e p None h = tt
from-held P s x e p (Some z) h = elim h [ inl k ↦ subst P (sym k) p | inr k ↦ subst (Held P) k.2 (e k.0 k.1) ]

-- what holds of the items of a node and of the new one holds of each of a part
pub each-from : (P : Item → Type 0) (s a : Slots) (x : Item) → Each P s → P x → ((i : ℕ) → i < 32 → IsFrom s x (a i)) → Each P a
each-from P s a x e p from i l = from-held P s x e p (a i) (from i l)
