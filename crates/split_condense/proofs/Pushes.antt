-- Orphans of which the last one comes or goes.
use Rattle.std.proofs.Common.{◌≡◌, ℕ, ◌+◌, List, [], ◌∷◌, ◌++◌, refl, ap, ◌∙◌, sym, subst}
use Rattle.std.proofs.Math.Path.{fun_ext}
use Rattle.rtree_nodes.specs.Slots.{Item}
use Rattle.rtree_nodes.specs.Loose.{Loose, total_loose, AllLoose}
use Rattle.rtree_nodes.proofs.Looses.{pushed-total, pushed-all}
use Rattle.irtree_shape.specs.Words.{worded, joined_item}
use Rattle.split_condense.specs.declared.orphan.Orphan.{Orphan}
use Rattle.split_condense.specs.Orphans.{loose_of, loose_in}

-- orphans and one more, as loose items
pub push-loose : (xs : List Orphan) (o : Orphan) → loose_in (xs ++ o ∷ []) ≡ loose_in xs ++ loose_of o ∷ []
push-loose [] o = refl
push-loose (x ∷ xs) o = ap (λ (os : Loose). loose_of x ∷ os) (push-loose xs o)

-- the sum over orphans and one more
pub push-total : (F : ℕ → Item → ℕ) (xs : List Orphan) (o : Orphan) → total_loose F (loose_in (xs ++ o ∷ [])) ≡ total_loose F (loose_in xs) + F (loose_of o).0 (loose_of o).1
push-total F xs o = ap (total_loose F) (push-loose xs o) ∙ pushed-total F (loose_in xs) (loose_of o)

-- what holds of orphans and of one more
pub push-all : (P : ℕ → Item → Type 0) (xs : List Orphan) (o : Orphan) → AllLoose P (loose_in xs) → P (loose_of o).0 (loose_of o).1 → AllLoose P (loose_in (xs ++ o ∷ []))
push-all P xs o h p = subst (AllLoose P) (sym (push-loose xs o)) (pushed-all P (loose_in xs) (loose_of o) h p)

-- an item with the words of its slot
pub worded-joined : (f : ℕ → ℕ) (b : ℕ → ℕ → ℕ) (at : ℕ) (x : Item) → ((w : ℕ) → f w ≡ b w at) → worded f x ≡ joined_item b at x
worded-joined f b at x h = ap (λ (k : ℕ → ℕ). worded k x) (fun_ext h)
