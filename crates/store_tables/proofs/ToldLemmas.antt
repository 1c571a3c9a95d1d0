-- Pages that are told and counted.
use Rattle.std.proofs.Common.{◌≡◌, ℕ, ◌<◌, ◌≤◌, ⊎_elim, List, length, arith, sym, subst}
use Rattle.std.proofs.lemmas.Bool.{cases_lt}
use Rattle.page_face.specs.FreeList.{PageMap}
use Rattle.btree_nodes.specs.Damages.{AreReadable, AsksOnly}
use Rattle.btree_nodes.specs.Supply.{View}
use Rattle.btree_nodes.specs.Tree.{map_uses, uses}
use Rattle.btree_nodes.proofs.Harms.{asks-further, asks-more}
use Rattle.btree_nodes.proofs.Supplies.{uncounted-past}
use Rattle.btree_nodes.proofs.Tolds.{map-told, told-moved}
use Rattle.paged_map.specs.Maps.{AreCounted}
use Rattle.store_tables.specs.declared.tables.Tables.{Tables}
use Rattle.store_tables.specs.Entries.{Entries}
use Rattle.store_tables.specs.Holding.{Holds, IsApart, IsChanged, IsSameMap, numbers_form, places_form, table_uses, texts_form, word_uses}

-- each page of tables is told
tables-told : (pages : PageMap) (tables : Tables) (entries : Entries) → Holds pages tables entries → (n : ℕ) → 0 < table_uses pages tables n → 0 < length (pages n)
tables-told pages tables entries holds n used =
    ⊎_elim
    (λ (no_place : map_uses places_form pages tables.places n < 1). ⊎_elim
    (λ (no_text : map_uses texts_form pages tables.texts n < 1). map-told numbers_form pages tables.numbers holds.numbers.tree n (omega arith))
    (λ (some : 1 ≤ map_uses texts_form pages tables.texts n). map-told texts_form pages tables.texts holds.texts.tree n (omega arith))
    (cases_lt (map_uses texts_form pages tables.texts n) 1))
    (λ (some : 1 ≤ map_uses places_form pages tables.places n). map-told places_form pages tables.places holds.places.tree n (omega arith))
    (cases_lt (map_uses places_form pages tables.places n) 1)

-- tables that changed leave the counted pages told
pub told-changed : (before : View) (old : Tables) (pages : PageMap) (count first : ℕ) (new : Tables) (entries : Entries) → IsChanged before old pages count first new entries → AreReadable before.pages before.count → AreReadable pages count
told-changed before old pages count first new entries c told = told-moved c.moves (λ n some used. tables-told pages new entries c.holds n used) told

-- each page of tables that are apart is counted
pub apart-counted : (v : View) (tables : Tables) → IsApart v tables → AreCounted (table_uses v.pages tables) v.count
apart-counted v tables apart n used out =
    let once = apart.once n in
    ⊎_elim
    (λ (e : n ≡ 0). let none : table_uses v.pages tables n ≡ 0 = subst (λ (k : ℕ). table_uses v.pages tables k ≡ 0) (sym e) apart.away in omega arith)
    (λ (past : v.count ≤ n). let one = uncounted-past v.count n past in omega arith)
    out

-- ---- pages of the word tables that were asked for

-- those of the words by text
pub asks-texts : (pages : PageMap) (tables : Tables) (before after : List ℕ) → AsksOnly (map_uses texts_form pages tables.texts) before after → AsksOnly (word_uses pages tables) before after
asks-texts pages tables before after asks = asks-more (map_uses texts_form pages tables.texts) (word_uses pages tables) before after (λ n some. omega arith) asks

-- those of the words by number
pub asks-numbers : (pages : PageMap) (tables : Tables) (before after : List ℕ) → AsksOnly (map_uses numbers_form pages tables.numbers) before after → AsksOnly (word_uses pages tables) before after
asks-numbers pages tables before after asks = asks-more (map_uses numbers_form pages tables.numbers) (word_uses pages tables) before after (λ n some. omega arith) asks

-- those of the words by number, and then of the words by text, which stayed
pub asks-both : (old new : PageMap) (tables : Tables) (before middle after : List ℕ) → IsSameMap texts_form old new tables.texts
    → AsksOnly (map_uses numbers_form old tables.numbers) before middle → AsksOnly (map_uses texts_form new tables.texts) middle after → AsksOnly (word_uses old tables) before after
asks-both old new tables before middle after same first second =
    asks-further (word_uses old tables) before middle after (asks-numbers old tables before middle first)
    (asks-more (map_uses texts_form new tables.texts) (word_uses old tables) middle after (λ n some. let u = same.uses n in omega arith) second)
