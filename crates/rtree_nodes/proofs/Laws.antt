-- What those who call know of pages and their nodes.
use Rattle.std.proofs.Common.{◌≡◌, ℕ, ◌<◌, true, List, length, Some, arith, refl, sym, ap, ◌∙◌, ⊎_elim}
use Rattle.std.proofs.Math.Path.{fun_ext}
use Rattle.std.proofs.lemmas.Bool.{cases_eq, eq-eqb, ne_eqb}
use Rattle.rtree_nodes.specs.Slots.{Item, Slots}
use Rattle.rtree_nodes.specs.Trees.{with_slot}
use Rattle.rtree_nodes.specs.Pages.{is_form}
use Rattle.rtree_nodes.proofs.Formed.{form-parts}

-- and has bytes
pub form-bytes : (page : List ℕ) → is_form page ≡ true → 0 < length page
form-bytes page form = let long = (form-parts page form).long in omega arith

-- an item that is put where it stands changes nothing
pub with-same : (slots : Slots) (at : ℕ) (x : Item) → slots at ≡ Some x → with_slot at x slots ≡ slots
with-same slots at x e = fun_ext (λ i. ⊎_elim
    (λ (k : i ≡ at). rw (eq-eqb i at k) (sym (ap slots k ∙ e)))
    (λ (ne : i ≡ at → ⊥). rw (ne_eqb i at ne) refl)
    (cases_eq i at))
