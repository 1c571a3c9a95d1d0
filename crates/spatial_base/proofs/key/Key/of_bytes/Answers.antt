use Rattle.std.proofs.Common.{◌≡◌, refl, sym, subst, ◌∙◌, rules}
use Rattle.spatial_base.specs.Key.{IsName, name_in}
use Rattle.spatial_base.proofs.Names.{IsName-had}
use Rattle.spatial_base.proofs.key.Key.of_bytes.Goals as goal

pub returns-then-eq-clause-some : goal.returns-then-eq-clause-some
returns-then-eq-clause-some c =
    let same : c.key.inside.bytes ≡ c.args.bytes.now = search rules in
    (λ _. (name_in c.key.inside.bytes, IsName-had (name_in c.key.inside.bytes) c.key.invariant.1, sym same ∙ sym c.key.invariant.0), λ _. refl)

pub returns-then-eq-clause-name : goal.returns-then-eq-clause-name
returns-then-eq-clause-name c = subst IsName c.key.view_is (IsName-had _ c.key.invariant.1)
