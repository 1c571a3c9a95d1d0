-- Whether each row of words names a node of the tree, and is stored for some word there.
use Rattle.std.specs.Prelude.{◌≡◌, ◌⊎◌, ℕ, ◌^◌, ◌<◌, List, Option, Some, None, true, false}
use Rattle.std.specs.BTreeSet.{BTreeSet}
use Rattle.std.specs.List.{All, Contains}
use Rattle.page_face.specs.FreeList.{are_zero}
use Rattle.page_face.specs.declared.fault.Damage.{Damage}
use Rattle.page_face.specs.declared.fault.Rule.TheVariants.{Row as WrongRow}
use Rattle.page_walks.specs.Met.{held}
use Rattle.btree_nodes.specs.Rows.{Row, lookup}
use Rattle.node_rows.specs.Rows.{key_of}
use Rattle.node_rows.specs.declared.key.RowKey.{RowKey}
use Rattle.tree_check.specs.declared.rows.WordRow.{WordRow}

-- a row of the map, by its key's number and its bytes
abbrev pub row_of : WordRow → Row
row_of row = (key_of row.key.node row.key.number, row.bytes)

-- a row at a key isn't all zeros, and its node is one of the tree: `nodes n` is 1 if page n is one, and else 0
pub record IsNamed (nodes : ℕ → ℕ) (key : ℕ) (value : List ℕ) : Type 0 where
  pub some : are_zero value ≡ false
  pub node : (n w : ℕ) → key ≡ key_of n w → w < 2 ^ 64 → nodes n ≡ 1

-- so it is of each row
abbrev pub AreNamed : List Row → (ℕ → ℕ) → Type 0
AreNamed rows nodes = (key : ℕ) (value : List ℕ) → lookup key rows ≡ Some value → IsNamed nodes key value

-- the damage of a row at this key: it is broken at the node that it names
abbrev pub row_damage : RowKey → Damage
row_damage key = record { page = key.node; rule = WrongRow }

-- The damage is of a row: its node is none of the tree, or it is all zeros. It is broken at the node that it names.
pub record IsUnnamed (rows : List Row) (nodes : ℕ → ℕ) (damage : Damage) : Type 0 where
  pub node : ℕ
  pub word : ℕ
  pub small : word < 2 ^ 64
  pub named : damage ≡ record { page = node; rule = WrongRow }
  pub value : List ℕ
  pub held : lookup (key_of node word) rows ≡ Some value
  pub wrong : (nodes node ≡ 0) ⊎ (are_zero value ≡ true)

-- the key is that of one of these rows, whose node is none of the tree, or which is all zeros
pub record IsStray (rows : List Row) (nodes : ℕ → ℕ) (key : RowKey) : Type 0 where
  pub small : key.number < 2 ^ 64
  pub value : List ℕ
  pub held : Contains rows (key_of key.node key.number, value)
  pub wrong : (nodes key.node ≡ 0) ⊎ (are_zero value ≡ true)

-- what a search for such a row finds among rows: none if each row is named
abbrev pub IsFound : List Row → (ℕ → ℕ) → Option RowKey → Type 0
IsFound rows nodes None = All (λ (row : Row). IsNamed nodes row.0 row.1) rows
IsFound rows nodes (Some key) = IsStray rows nodes key

-- the same, where this was found before these rows: nothing else is then looked for
abbrev pub IsFoundAfter : List Row → (ℕ → ℕ) → Option RowKey → Option RowKey → Type 0
IsFoundAfter rows nodes None found = IsFound rows nodes found
IsFoundAfter rows nodes (Some key) found = found ≡ Some key

-- a search goes on among these rows, with the same nodes
pub record Seeks (rows : List Row) (nodes nodes' : BTreeSet ℕ) (before now : Option RowKey) : Type 0 where
  pub same : nodes' ≡ nodes
  pub found : IsFoundAfter rows (held nodes) before now
