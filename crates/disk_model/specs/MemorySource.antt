-- What is seen of a source in memory.
use Rattle.std.specs.Prelude.{ℕ, List}

-- the bytes left, the most that a read gives, the reads that are to fail, and how many reads were made and failed
pub record Held : Type 0 where
  pub left : List ℕ
  pub piece : ℕ
  pub fails : List ℕ
  pub reads : ℕ
  pub faults : ℕ
