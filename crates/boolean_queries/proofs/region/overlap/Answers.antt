use Rattle.std.proofs.Common.{◌≡◌, ◌&&◌, Bool, true, false, rules, sym, ◌∙◌}
use Rattle.boolean_queries.specs.Regions.{have_common}
use Rattle.boolean_queries.proofs.region.overlap.Goals as goal

second : (p q r s : Bool) → p ≡ true → p ≡ r → q ≡ s → q ≡ (r && s)
second p q true s e f g = g
second p q false s e f g = absurd (let z = sym e ∙ f in cc)

pub returns-then-are_common : goal.returns-then-are_common
returns-then-are_common c =
    let a = c.args.a.now in
    let b = c.args.b.now in
    let first : c.are_common.result ≡ have_common a.west a.east b.west b.east = search rules in
    let other : c.are_common-then-are_common.result ≡ have_common a.south a.north b.south b.north = search rules in
    second c.are_common.result c.are_common-then-are_common.result _ _ c.if-are_common.true first other
