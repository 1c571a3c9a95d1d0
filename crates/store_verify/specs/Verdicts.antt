-- What a check of a whole store speaks of.
use Rattle.std.specs.Prelude.{ℕ}
use Rattle.page_face.specs.declared.head.Head.{Head}
use Rattle.page_store.specs.declared.superblock.Superblock.{Superblock}

-- the fields of page 0, by the pages counted, the first free page and the head
abbrev pub block_of : ℕ → ℕ → Head → Superblock
block_of count first head = record { counted = count; first_free = first; head = head }
