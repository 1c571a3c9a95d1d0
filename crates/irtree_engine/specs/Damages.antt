-- Why a call that only reads finds damage.
use Rattle.std.specs.Prelude.{◌⊎◌, ℕ, List, []}
use Rattle.page_face.specs.FreeList.{PageMap}
use Rattle.page_face.specs.declared.fault.Damage.{Damage}
use Rattle.disk_model.specs.World.{Image}
use Rattle.page_store.specs.Contents as stores
use Rattle.page_store.specs.declared.superblock.Superblock.{Superblock}
use Rattle.spatial_base.specs.Key.{Name}
use Rattle.store_tables.specs.Broken.{IsPlaceDamage}
use Rattle.store_tables.specs.declared.tables.Tables.{Tables}
use Rattle.store_model.specs.Stands.{tables_in}
use Rattle.place_values.specs.declared.query.Query.{Query}
use Rattle.query_execution.specs.Damages.{IsHitsHarm}
use Rattle.table_updates.specs.Known.{IsHeldDamage}
use Rattle.irtree_engine.specs.Changes.{tree_in}
use Rattle.irtree_engine.specs.Queries.{contents_held}

-- Why the place at a key can't be shown, with the pages asked for before and after: a page of the place table that was asked for is damaged, or the row that was read at the key is no place's; or so it is with the words by number at a number that the place that was read there holds, or they have no row of it.
abbrev pub IsShownDamage : PageMap → ℕ → Tables → Name → List ℕ → List ℕ → Damage → Type 0
IsShownDamage pages count tables key before after damage =
    IsPlaceDamage pages count tables.places key before after damage ⊎ IsHeldDamage pages count tables key before after damage

-- Why a query can't be answered, with the pages asked for before and after: one that was asked for, of the words by text, of the tree or of its rows of words, breaks a rule; or for a query by rarity so does one of the words by number, or these count more places for a word than live.
abbrev pub IsQueryDamage : PageMap → Superblock → Query → List ℕ → List ℕ → Damage → Type 0
IsQueryDamage pages block query before after damage =
    IsHitsHarm pages block.counted block.head.live (tables_in block.head) (tree_in block.head) query before after damage

-- ---- by what an image holds

-- So it is with a query, by page 0's fields and the pages counted: some pages were asked for, and one of them breaks a rule.
pub record IsQueryDamageIn (held : stores.Contents) (query : Query) (damage : Damage) : Type 0 where
  pub asked : List ℕ
  pub is : IsQueryDamage held.pages held.block query [] asked damage

-- And with a place that was to be shown, at some key.
pub record IsShownDamageIn (held : stores.Contents) (damage : Damage) : Type 0 where
  pub key : Name
  pub asked : List ℕ
  pub is : IsShownDamage held.pages held.block.counted (tables_in held.block.head) key [] asked damage

-- What an image holds is damaged so, as a query or a look at a key meets it: whatever it stands for.
abbrev pub IsImageDamage : Image → Damage → Type 0
IsImageDamage image damage = ((query : Query) × IsQueryDamageIn (contents_held image) query damage) ⊎ IsShownDamageIn (contents_held image) damage
