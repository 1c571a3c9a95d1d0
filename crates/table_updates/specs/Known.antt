-- Word numbers that the words by number have.
use Rattle.std.specs.Prelude.{◌≡◌, ◌⊎◌, ℕ, List, [], ◌∷◌, Any, Some, None, IsSome}
use Rattle.page_face.specs.FreeList.{PageMap}
use Rattle.page_face.specs.declared.fault.Damage.{Damage}
use Rattle.spatial_base.specs.Key.{Name}
use Rattle.row_codec.specs.declared.counted.Counted.{Counted}
use Rattle.row_codec.specs.declared.stored.Stored.{Stored}
use Rattle.row_codec.specs.Pairs.{Pair}
use Rattle.row_codec.specs.Stored.{held_pairs}
use Rattle.store_tables.specs.Entries.{word_of_number}
use Rattle.store_tables.specs.Broken.{IsNumberDamage, IsPlaceRead, IsPlaceSought, IsRowSought, words_disagree}
use Rattle.store_tables.specs.Coded.{IsPlaceValue}
use Rattle.store_tables.specs.declared.tables.Tables.{Tables}

-- each of these numbers has a word
abbrev pub AreKnown : List (ℕ × Counted) → List Pair → Type 0
AreKnown numbers [] = Unit {0}
AreKnown numbers (pair ∷ pairs) = IsSome (word_of_number pair.0 numbers) × AreKnown numbers pairs

-- each place's numbers have words
abbrev pub AreAllKnown : List (ℕ × Counted) → List (Name × Stored) → Type 0
AreAllKnown numbers [] = Unit {0}
AreAllKnown numbers (entry ∷ places) = AreKnown numbers (held_pairs entry.1) × AreAllKnown numbers places

-- Why a word that was looked for by its number is damaged: the look-up is, or the number has no word.
abbrev pub IsWordDamage : PageMap → ℕ → Tables → ℕ → List ℕ → List ℕ → Damage → Type 0
IsWordDamage pages count tables number before asked damage =
    IsNumberDamage pages count tables.numbers number before asked damage ⊎ ((damage ≡ words_disagree) × IsRowSought pages tables number None)

-- Why words that were looked for by number are damaged: one of them is.
abbrev pub IsWordsDamage : PageMap → ℕ → Tables → List Pair → List ℕ → List ℕ → Damage → Type 0
IsWordsDamage pages count tables pairs before asked damage = Any (λ (pair : Pair). IsWordDamage pages count tables pair.0 before asked damage) pairs

-- Why the words of the place that was read at a key are damaged: one that the place holds is; where the place table is well formed, the place is the one it has there.
pub record IsHeldDamage (pages : PageMap) (count : ℕ) (tables : Tables) (key : Name) (before asked : List ℕ) (damage : Damage) : Type 0 where
  pub stored : Stored
  pub form : IsPlaceValue stored
  pub read : IsPlaceRead pages key before asked stored
  pub place : IsPlaceSought pages tables key (Some stored)
  pub words : IsWordsDamage pages count tables (held_pairs stored) before asked damage
