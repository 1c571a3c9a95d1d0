-- Why an answer by the tree finds damage.
use Rattle.std.specs.Prelude.{◌≡◌, ◌⊎◌, ℕ, ◌<◌, List, Option, option_map}
use Rattle.page_face.specs.FreeList.{PageMap}
use Rattle.page_face.specs.declared.fault.Damage.{Damage}
use Rattle.btree_nodes.specs.Damages.{AskedSince, AsksOnly}
use Rattle.btree_nodes.specs.Tree.{map_uses}
use Rattle.paged_map.specs.Lookups.{IsLookedUp}
use Rattle.paged_map.specs.Maps.{IsMapDamaged}
use Rattle.row_codec.specs.declared.counted.Counted.{Counted}
use Rattle.row_codec.specs.Counted.{counted_value}
use Rattle.place_values.specs.declared.query.Query.{Query}
use Rattle.place_values.specs.declared.query.Query.TheVariants.{Rare}
use Rattle.node_rows.specs.declared.roots.Tree.{Tree}
use Rattle.store_tables.specs.Broken.{IsNumberDamage, words_disagree}
use Rattle.store_tables.specs.Holding.{numbers_form, texts_form}
use Rattle.store_tables.specs.Words.{places_in}
use Rattle.store_tables.specs.declared.tables.Tables.{Tables}
use Rattle.collective_query.specs.Searches.{IsSearchHarm}
use Rattle.query_execution.specs.Opened.{count_uses}

-- a page of the words by text that was asked for breaks a rule
abbrev pub IsTextHarm : PageMap → ℕ → Tables → List ℕ → List ℕ → Damage → Type 0
IsTextHarm pages count tables before after damage = IsMapDamaged texts_form pages count tables.texts damage × AskedSince before after damage.page

-- Pages of the words by text alone were asked for, and from there on it is so.
abbrev pub BehindWords : PageMap → Tables → List ℕ → (List ℕ → Type 0) → Type 0
BehindWords pages tables before So = (between : List ℕ) × AsksOnly (map_uses texts_form pages tables.texts) before between × So between

-- A page that was asked for breaks a rule: one of the words by text, or behind these one of the tree or of its rows of words.
abbrev pub IsAnswerHarm : PageMap → ℕ → Tables → Tree → List ℕ → List ℕ → Damage → Type 0
IsAnswerHarm pages count tables tree before after damage =
    IsTextHarm pages count tables before after damage
    ⊎ BehindWords pages tables before (λ between. IsSearchHarm pages count tree between after damage)

-- by the words by number, more places hold the word of a number than live
abbrev pub IsOvercounted : PageMap → ℕ → ℕ → Tables → Type 0
IsOvercounted pages count live tables =
    (number : ℕ) × (row : Option Counted) × IsLookedUp numbers_form pages count tables.numbers number (option_map counted_value row) × (live < places_in row)

-- Why a word isn't weighed: a page of the words by number that was asked for breaks a rule, or a row that was read there is no word's, or it counts
-- more places than live.
abbrev pub IsCountHarm : PageMap → ℕ → ℕ → Tables → List ℕ → List ℕ → Damage → Type 0
IsCountHarm pages count live tables before after damage =
    ((number : ℕ) × IsNumberDamage pages count tables.numbers number before after damage)
    ⊎ ((damage ≡ words_disagree) × IsOvercounted pages count live tables)

-- so it is for a query by rarity; no other query's words are weighed by rarity
abbrev pub IsWeighingHarm : PageMap → ℕ → ℕ → Tables → Query → List ℕ → List ℕ → Damage → Type 0
IsWeighingHarm pages count live tables (Rare at scale k alpha reach words) before after damage = IsCountHarm pages count live tables before after damage
IsWeighingHarm pages count live tables _ before after damage = ⊥

-- Pages of the words by number alone were asked for, by a query by rarity, and from there on it is so.
abbrev pub BehindCounts : PageMap → Tables → Query → List ℕ → (List ℕ → Type 0) → Type 0
BehindCounts pages tables query before So = (between : List ℕ) × AsksOnly (count_uses pages tables query) before between × So between

-- Why the hits of a query aren't found, where so many places live: a page of the words by text that was asked for breaks a rule; or behind these a
-- word isn't weighed; or behind the words a page of the tree or of its rows of words that was asked for breaks a rule.
abbrev pub IsHitsHarm : PageMap → ℕ → ℕ → Tables → Tree → Query → List ℕ → List ℕ → Damage → Type 0
IsHitsHarm pages count live tables tree query before after damage =
    IsTextHarm pages count tables before after damage
    ⊎ BehindWords pages tables before
    (λ between. IsWeighingHarm pages count live tables query between after damage
    ⊎ BehindCounts pages tables query between (λ later. IsSearchHarm pages count tree later after damage))
