-- A key as the numbers of its first eight bytes and of its last eight.
use Rattle.std.specs.Prelude.{ℕ, ◌+◌, ◌-◌, ◌*◌, List, take, drop}
use Rattle.page_face.specs.Number.{number}
use Rattle.btree_nodes.specs.declared.pairs.Pair.{Pair}

-- those of the key of a cell
abbrev pub pair_at : ℕ → ℕ → List ℕ → ℕ → Pair
pair_at key width page at = record {
  front = number (take 8 (drop (16 + width * at) page));
  back = number (take 8 (drop (16 + width * at + (key - 8)) page));
}
