use Rattle.std.proofs.Common.{[], refl, ◌∙◌, ap}
use Rattle.place_values.specs.Group.{product, least_by}
use Rattle.place_values.specs.Search.{lists_in, fronted}
use Rattle.place_values.specs.GroupLaws.{fronted_none}
use Rattle.place_map.specs.Prices.{price_of}
use Rattle.place_map.proofs.group.least_choice.Goals as goal

pub returns : goal.returns
returns c =
    let price = price_of c.args.price in
    c.in_ok-extend.ensures.least [] refl
    ∙ ap (λ front. least_by price (fronted front (product (lists_in c.deref.result.now)))) c.new-front.ensures.items
    ∙ ap (least_by price) (fronted_none (product (lists_in c.deref.result.now)))
    ∙ ap (λ lists. least_by price (product (lists_in lists))) c.deref.ensures.value
    ∙ ap (λ lists. least_by price (product lists)) c.in_ok-lists.ensures.lists
