-- What a sink gains by the rows of a table.
use Rattle.std.specs.Prelude.{◌≡◌, ℕ, List, ◌++◌, map, All}
use Rattle.btree_nodes.specs.Rows.{Row}
use Rattle.store_tables.specs.Coded.{IsEntryOf, row_by}

-- rows are those of entries
pub record AreRowsOf {K V : Type 0} (code : K → ℕ) (value : V → List ℕ) (IsKey : K → Type 0) (IsValue : V → Type 0) (rows : List Row) : Type 0 where
  pub entries : List (K × V)
  pub are : rows ≡ map (row_by code value) entries
  pub each : All (IsEntryOf IsKey IsValue) entries

-- the entries of these rows joined a list
pub record Gains {K V : Type 0} (code : K → ℕ) (value : V → List ℕ) (IsKey : K → Type 0) (IsValue : V → Type 0) (rows : List Row) (old new : List (K × V)) : Type 0 where
  pub more : List (K × V)
  pub are : rows ≡ map (row_by code value) more
  pub each : All (IsEntryOf IsKey IsValue) more
  pub is : new ≡ old ++ more
