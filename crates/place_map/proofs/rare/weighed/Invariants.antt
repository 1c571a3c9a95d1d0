use Rattle.std.proofs.Common.{◌≡◌, take}
use Rattle.place_values.specs.Rarity.{weighed_by_rarity}
use Rattle.place_map.proofs.rare.weighed.Given as goal

abbrev pub invariant-loop-word : goal.invariant-loop-word
invariant-loop-word l = l.terms.items ≡ weighed_by_rarity l.places.entries (take l.word-index l.words)
