-- A leaf whose cells were edited.
use Rattle.std.specs.Prelude.{ℕ, List, ◌++◌, take, drop}

-- the cells of a page, of `size` bytes in all, with two pieces in place of the bytes from `from` up to `until`
abbrev pub edited : ℕ → ℕ → ℕ → List ℕ → List ℕ → List ℕ → List ℕ
edited size from until first second page = take from (take size (drop 16 page)) ++ ((first ++ second) ++ drop until (take size (drop 16 page)))
