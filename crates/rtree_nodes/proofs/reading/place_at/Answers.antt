use Rattle.std.proofs.Common.{refl, sym, subst, ap, ◌∙◌, is_some}
use Rattle.std.proofs.lemmas.Bool.{and_parts, and_from, false≢true}
use Rattle.spatial_base.specs.Key.{IsKeyForm}
use Rattle.rtree_nodes.proofs.Keys.{key-from, key-to}
use Rattle.rtree_nodes.proofs.reading.place_at.Goals as goal

pub returns-in_err-key-clause-some : goal.returns-in_err-key-clause-some
returns-in_err-key-clause-some c = (
  λ some. absurd (false≢true (sym (ap is_some c.from_residual-in_err-key.ensures) ∙ some)),
  λ both. absurd (false≢true (c.in_err-key.ensures.some.1 (subst IsKeyForm (sym c.key_bytes.ensures) (key-from _ (and_parts _ _ both).1)))),
)

pub returns-clause-some : goal.returns-clause-some
returns-clause-some c = (
  λ some. and_from _ _ (c.in_ok-point.ensures.some.0 refl) (key-to _ (subst IsKeyForm c.key_bytes.ensures (c.in_ok-key.ensures.some.0 refl))),
  λ both. refl,
)
