-- What a place gives to a word.
use Rattle.std.proofs.Common.{◌≡◌, ℕ, true, false, List, [], ◌∷◌, refl}
use Rattle.spatial_base.specs.Key.{Name}
use Rattle.spatial_base.specs.Point.{Position, Viewpoint, distance}
use Rattle.place_values.specs.declared.place.Place.{Place}
use Rattle.place_values.specs.declared.query.Pick.{Pick}
use Rattle.place_values.specs.Filter.{has_word}
use Rattle.place_values.specs.Group.{word_picks}

-- a pick from its parts
abbrev pub pick_at : Name → List ℕ → ℕ → Position → Pick
pick_at key word dist point = record { key = key; word = word; dist = dist; point = point }

-- a place that holds the word
pub picked : (at : Viewpoint) (word : List ℕ) (entry : Name × Place) (dist : ℕ) → has_word entry.1 word ≡ true → dist ≡ distance at entry.1.point → word_picks at word entry ≡ pick_at entry.0 word dist entry.1.point ∷ []
picked at word entry dist holds is = rw (holds, is) refl

-- and one that doesn't
pub not_picked : (at : Viewpoint) (word : List ℕ) (entry : Name × Place) → has_word entry.1 word ≡ false → word_picks at word entry ≡ []
not_picked at word entry holds = rw holds refl
