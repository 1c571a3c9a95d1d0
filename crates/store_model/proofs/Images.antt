-- The state that an image stands for.
use Rattle.std.proofs.Common.{◌≡◌, ℕ, ◌+◌, ◌≤◌, ◌^◌, Bool, true, false, cond, nat_lt, [], Some, None, refl, sym, ap, subst, ◌∙◌, true≢false, arith}
use Rattle.std.proofs.lemmas.List.Elements.{All-nil}
use Rattle.disk_model.specs.World.{Image}
use Rattle.page_face.specs.FreeList.{PageMap}
use Rattle.page_journal.specs.Record.{StandsFor}
use Rattle.page_store.specs.Contents.{HoldsContents, contents_in, counted_pages, page_bytes}
use Rattle.page_store.specs.Contents as stores
use Rattle.page_store.specs.Superblock.{IsInRange, empty_store, fields_of, is_zero, superblock_in}
use Rattle.page_store.specs.declared.superblock.Superblock.{Superblock}
use Rattle.btree_nodes.specs.Supply.{uncounted}
use Rattle.btree_nodes.proofs.Supplies.{uncounted-past as uncounted-one}
use Rattle.node_rows.specs.Rows.{bytes_of}
use Rattle.place_values.specs.State.{Contents, IsSerialAbove, opening}
use Rattle.store_tables.specs.Entries.{Entries, no_entries}
use Rattle.store_tables.specs.Holding.{Holds}
use Rattle.store_tables.specs.Words.{WordsAgree}
use Rattle.store_model.specs.Stands.{AreSound, PagesStand, Stands, TablesStand, TreeStands, state_in, tables_in}
use Rattle.store_model.proofs.Maps.{holds-same}

-- ---- one state

-- pages stand for at most one state
pub pages-one : (block : Superblock) (pages : PageMap) (s t : Contents) → PagesStand block pages s → PagesStand block pages t → s ≡ t
pages-one block pages s t is also =
    is.is ∙ ap (λ (e : Entries). state_in e block.head.serial block.head.number) (holds-same pages (tables_in block.head) is.entries also.entries is.tables.holds also.tables.holds) ∙ sym also.is

-- an image stands for one area of pages
pub area-one : (image : Image) (a b : ℕ → ℕ) → StandsFor image a → StandsFor image b → a ≡ b
area-one image a b is also = is.1 ∙ sym also.1

-- and holds one contents
contents-one : (image : Image) (c d : stores.Contents) → HoldsContents c image → HoldsContents d image → c ≡ d
contents-one image c d is also = sym is.holds ∙ ap contents_in (area-one image is.area also.area is.stands also.stands) ∙ also.holds

-- An image stands for at most one state.
pub stands-one : (image : Image) (s t : Contents) → Stands image s → Stands image t → s ≡ t
stands-one image s t is also =
    let one = contents-one image is.contents also.contents is.holds also.holds in
    pages-one also.contents.block also.contents.pages s t (subst (λ (c : stores.Contents). PagesStand c.block c.pages s) one is.stand) also.stand

-- ---- the empty store

-- no value is found in nothing
no_some : {X : Type 0} (x : X) → None ≡ Some x → ⊥
no_some x e = cc

-- the word tables of no entries agree
empty-agree : WordsAgree no_entries 1
empty-agree = record {
  inverse = λ w n. (λ e. absurd (no_some n e), λ e. absurd (no_some w e));
  counts = λ n. refl;
  some = λ n. tt;
  below = λ n there. absurd (true≢false (sym there));
}

-- no entries are sound
empty-sound : AreSound no_entries 1 1
empty-sound = record { words = empty-agree; serials = All-nil (λ e. IsSerialAbove 1 e.0) }

-- no page holds no entries
empty-holds : (pages : PageMap) → Holds pages (tables_in empty_store.head) no_entries
empty-holds pages = record {
  places = record { tree = tt; rows = refl; each = All-nil _ };
  texts = record { tree = tt; rows = refl; each = All-nil _ };
  numbers = record { tree = tt; rows = refl; each = All-nil _ };
}

-- no page is used by no map, and each can be taken at most once
few_uncounted : (n : ℕ) → 0 + (0 + uncounted 1 n) ≤ 1
unfolding uncounted
few_uncounted n = few (nat_lt n 1)
  where
    few : (b : Bool) → 0 + (0 + cond b 0 1) ≤ 1
    few true = omega arith
    few false = omega arith

-- the fields of the empty store are in their ranges
empty-range : IsInRange empty_store
empty-range = record {
  version = refl;
  counted = omega arith;
  first_free = omega arith;
  places = omega arith;
  texts = omega arith;
  numbers = omega arith;
  rows = omega arith;
  tree = omega arith;
  serial = omega arith;
  serials = omega arith;
  number = omega arith;
  next_word = omega arith;
  words = omega arith;
}

-- the tables of the empty store stand for no entries, and no page belongs to others
empty-tables : (pages : PageMap) → TablesStand empty_store pages (λ n. 0) no_entries
empty-tables pages = record {
  range = empty-range;
  serials = omega arith;
  free = [];
  holds = empty-holds pages;
  apart = record { supplied = refl; once = λ n. few_uncounted n; away = refl; some = omega arith };
  every = λ n some. (let one = uncounted-one 1 n (omega (arith, some)) in omega (arith, one));
  away = refl;
  sound = empty-sound;
  live = refl;
}

-- no row says a byte
no-byte : (n w i : ℕ) → bytes_of [] n w i ≡ 0
unfolding bytes_of
no-byte n w i = by (nat_lt w (2 ^ 64))
  where
    by : (b : Bool) → ◌≡◌ {A = ℕ} (cond b 0 0) 0
    by true = refl
    by false = refl

-- the empty store has no tree and no rows
empty-tree : (pages : PageMap) → TreeStands empty_store.head pages no_entries (λ n. 0)
empty-tree pages = record {
  tree = tt;
  entries_are = λ f. refl;
  map = tt;
  filled = λ key. tt;
  blank = λ n w i none. no-byte n w i;
  named = λ n w i none. no-byte n w i;
  uses_are = λ n. refl;
}

-- pages of the empty store stand for the state in which nothing was put
pub empty-pages : (pages : PageMap) → PagesStand empty_store pages opening
empty-pages pages = record { entries = no_entries; others = λ n. 0; tables = empty-tables pages; tree = empty-tree pages; is = refl }

-- An image that stands for pages whose page 0 is all zeros stands for the state in which nothing was put.
pub empty-area : (image : Image) (area : ℕ → ℕ) → StandsFor image area → is_zero (page_bytes area 0) ≡ true → Stands image opening
empty-area image area stands zeros =
    let block : superblock_in (page_bytes area 0) ≡ empty_store = ap (λ b. cond b empty_store (fields_of (page_bytes area 0))) zeros in
    record {
      contents = contents_in area;
      holds = record { area = area; stands = stands; holds = refl; page = λ range some. absurd (true≢false (sym zeros ∙ some)); version1 = λ one range some. absurd (true≢false (sym zeros ∙ some)) };
      stand = subst (λ (b : Superblock). PagesStand b (counted_pages b.counted (page_bytes area)) opening) (sym block) (empty-pages (counted_pages empty_store.counted (page_bytes area)));
    }
