use Rattle.std.proofs.Common.{◌≡◌, sym, subst, ap, ◌∙◌, arith, take_all}
use Rattle.place_values.specs.Query.{IsWeights}
use Rattle.place_values.specs.Rarity.{weighed_by_rarity}
use Rattle.place_values.specs.RarityLaws.{weighed_sound}
use Rattle.place_map.proofs.rare.weighed.Goals as goal

pub returns-clause-sound : goal.returns-clause-sound
returns-clause-sound c =
    let places = c.args.places.now.entries in
    let all : c.loop-word.terms.items ≡ weighed_by_rarity places c.args.words.now = c.loop-word.invariant ∙ ap (weighed_by_rarity places) (take_all _ c.args.words.now c.loop-word-test.false) in
    subst IsWeights (sym all) (weighed_sound places c.args.words.now c.requires.words)
