-- The places that a seed makes.
use Rattle.std.specs.Prelude.{ℕ, zero, suc, ◌+◌, ◌/◌, ◌%◌, ◌^◌, ◌-ℤ◌, List, ◌++◌, codes, decimal, pos}
use Rattle.rand_core.specs.Stream.{Stream, next_u64}
use Rattle.rand_core.specs.Steps.{stream_of}
use Rattle.rand_xoshiro.specs.SplitMix64.{splitmix_steps}
use Rattle.spatial_base.specs.Key.{Name, Text}
use Rattle.spatial_base.specs.Point.{Position}

-- the words of a seed (SplitMix64: Steele, Lea and Flood, 2014)
abbrev pub words_of : ℕ → Stream
words_of seed = stream_of splitmix_steps seed

-- the first word
abbrev pub head_of : Stream → ℕ
head_of words = (next_u64 words).0

-- the words behind the first
abbrev pub tail_of : Stream → Stream
tail_of words = (next_u64 words).1

-- the words behind the first n
abbrev pub after : ℕ → Stream → Stream
after zero words = words
after (suc n) words = after n (tail_of words)

-- word n, counted from 0
abbrev pub word_at : ℕ → Stream → ℕ
word_at n words = head_of (after n words)

-- a place: its key, its point, its text, and the number of its word of the kind a
pub record Place : Type 0 where
  pub key : Name
  pub point : Position
  pub text : List ℕ
  pub first : ℕ

-- `place aA bB cC`
abbrev pub text_by : ℕ → ℕ → ℕ → List ℕ
text_by a b c = codes "place a" ++ decimal a ++ codes " b" ++ decimal b ++ codes " c" ++ decimal c

-- the point of two words: the first 31 bits of the one and the first 30 of the other, round 0
abbrev pub point_by : ℕ → ℕ → Position
point_by x y = record { x = pos (x / 2 ^ 33) -ℤ pos (2 ^ 30); y = pos (y / 2 ^ 34) -ℤ pos (2 ^ 29) }

-- The place of this number, by the words at its turn: the first and the second are its point, of 31 and 30 bits round 0, and the next three
-- say which of the hundred words of the kinds a, b and c it has.
abbrev pub place_by : Stream → ℕ → Place
place_by words number = record {
  key = Text (codes "m" ++ decimal number);
  point = point_by (word_at 0 words) (word_at 1 words);
  text = text_by (word_at 2 words % 100) (word_at 3 words % 100) (word_at 4 words % 100);
  first = word_at 2 words % 100;
}

-- the words behind those of the first n places, five each
abbrev pub after_places : ℕ → Stream → Stream
after_places zero words = words
after_places (suc n) words = after 5 (after_places n words)

-- place `number` of a seed, counted from 0
abbrev pub place_of_seed : ℕ → ℕ → Place
place_of_seed seed number = place_by (after_places number (words_of seed)) number
