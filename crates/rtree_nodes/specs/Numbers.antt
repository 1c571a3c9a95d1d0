-- Numbers in the bytes of a page: four bytes each, the highest first.
use Rattle.std.specs.Prelude.{ℕ, zero, suc, ◌+◌, ℤ, Bool, true, ◌&&◌, List, ◌++◌, take, drop, length}
use Rattle.std.specs.Int.{w32, cast_signed, cast_unsigned, from_be_bytes, to_be_bytes}

-- the number of the four bytes from this place on
unfoldable pub number_at : ℕ → List ℕ → ℕ
number_at at bytes = from_be_bytes w32 (take 4 (drop at bytes))

-- the same bytes as a signed number, in two's complement
abbrev pub int_at : ℕ → List ℕ → ℤ
int_at at bytes = cast_signed w32 (number_at at bytes)

-- the four bytes of a signed number
abbrev pub int_bytes : ℤ → List ℕ
int_bytes z = to_be_bytes w32 (cast_unsigned w32 z)

-- the page with other bytes from this place on
unfoldable pub overwritten : ℕ → List ℕ → List ℕ → List ℕ
overwritten at bytes page = take at page ++ (bytes ++ drop (at + length bytes) page)

-- the test holds of each number below n
unfoldable pub all_below : ℕ → (ℕ → Bool) → Bool
all_below zero test = true
all_below (suc n) test = test n && all_below n test
