-- Page 0's fields before and after an update.
use Rattle.std.specs.Prelude.{ℕ, ◌+◌, ◌*◌, ◌≤◌, ◌^◌, List, [], Option, None}
use Rattle.node_rows.specs.declared.roots.Tree.{Tree}
use Rattle.page_face.specs.declared.head.Head.{Head}
use Rattle.page_store.specs.declared.superblock.Superblock.{Superblock}
use Rattle.place_values.specs.declared.update.Update.{Update}
use Rattle.store_tables.specs.declared.tables.Tables.{Tables}
use Rattle.store_model.specs.Ahead.{HaveNumbers, last_number}

-- page 0's fields: the pages counted, the first free page and the head
abbrev pub block_with : ℕ → ℕ → Head → Superblock
block_with count first head = record { counted = count; first_free = first; head = head }

-- the tree's roots, which page 0 has
abbrev pub tree_in : Head → Tree
tree_in head = record { root = head.tree; rows = head.rows }

-- the head after a change of the tables that is no update's: their roots, and the next word number
abbrev pub head_at : Head → Tables → Head
head_at head tables = record head { places = tables.places; texts = tables.texts; numbers = tables.numbers; next_word = tables.next_word }

-- the head after a change: the roots of the tables and of the tree, the live places, the next serial, and the update number raised by one
abbrev pub head_with : Head → Tables → Tree → ℕ → ℕ → Head
head_with head tables tree live serial =
    record head {
      places = tables.places;
      texts = tables.texts;
      numbers = tables.numbers;
      rows = tree.rows;
      tree = tree.root;
      live = live;
      serial = serial;
      number = head.number + 1;
      next_word = tables.next_word;
    }

-- The numbers of page 0 are in their ranges, where these updates of a batch are left: the next word number may be what it is by the update
-- number at the batch's end, if its words were held ahead, and there are update numbers for what is left.
pub record AreNumbersAhead (held : Option (List (List ℕ × ℕ))) (left : List Update) (head : Head) : Type 0 where
  pub number : head.number ≤ 2 ^ 40
  pub serial : head.serial ≤ head.number + 1
  pub words : head.next_word ≤ 64 * (last_number held left head.number + 1)
  pub last : HaveNumbers held head.number left

-- So they are between updates.
abbrev pub AreHeadNumbers : Head → Type 0
AreHeadNumbers = AreNumbersAhead None []
