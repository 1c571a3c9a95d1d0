-- Where a maker stands, and what a place that was made is.
use Rattle.std.specs.Prelude.{◌≡◌, ℕ, string_bytes}
use Rattle.rand_core.specs.Steps.{stream_of}
use Rattle.rand_xoshiro.specs.SplitMix64.{splitmix_steps}
use Rattle.place_generator.specs.declared.made.Made.{Made}
use Rattle.place_generator.specs.declared.made.Maker.{Maker}
use Rattle.place_generator.specs.Made.{Place, after_places, words_of}

-- the maker stands in front of the place of this number, of the places of a seed
pub record IsAt (maker : Maker) (seed number : ℕ) : Type 0 where
  pub words : stream_of splitmix_steps maker.random ≡ after_places number (words_of seed)
  pub next : maker.next ≡ number

-- what was made
abbrev pub place_in : Made → Place
place_in made = record { key = made.key; point = made.point; text = string_bytes made.text; first = made.first }
