use Rattle.std.proofs.Common.{◌∙◌, ap, sym, Some}
use Rattle.spatial_base.specs.Key.{form_of}
use Rattle.rtree_nodes.specs.Reach.{place_item, item_of}
use Rattle.best_first.proofs.gathering.item_at.Goals as goal

pub returns-in-Place-clause-stands : goal.returns-in-Place-clause-stands
returns-in-Place-clause-stands c = λ slots at l e. (
  at,
  l,
  e ∙ ap (λ s. Some (item_of s)) c.in-Place.is ∙ ap (λ p. Some (place_item p (form_of c.in-Place.key))) (sym c.hit_at.ensures.point)
      ∙ ap (λ k. Some (place_item c.hit_at.result.point (form_of k))) (sym c.hit_at.ensures.key),
)
