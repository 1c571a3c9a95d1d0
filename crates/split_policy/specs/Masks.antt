-- Masks: the slots of a node, or the entries of a split, whose bits are set.
use Rattle.std.specs.Prelude.{◌≡◌, ℕ, zero, suc, ◌+◌, ◌<◌, ◌≤◌, ◌^◌, bit_or, bit_xor}
use Rattle.std.specs.Int.{bit_at}

-- one of 32 slots, and its bit is set
abbrev pub IsUsed : ℕ → ℕ → Type 0
IsUsed used at = (at < 32) × (bit_at used at ≡ 1)

-- one of 33 entries, and its bit is set
abbrev pub IsAmong : ℕ → ℕ → Type 0
IsAmong mask at = (at < 33) × (bit_at mask at ≡ 1)

-- the mask without an entry that is in it
abbrev pub without_bit : ℕ → ℕ → ℕ
without_bit mask at = bit_xor mask (2 ^ at)

-- the mask and one entry more
abbrev pub with_bit : ℕ → ℕ → ℕ
with_bit mask at = bit_or mask (2 ^ at)

-- the sum of the first n values
unfoldable pub sum_to : ℕ → (ℕ → ℕ) → ℕ
sum_to zero f = 0
sum_to (suc n) f = f n + sum_to n f

-- how many of the first n bits are set
unfoldable pub marked : ℕ → ℕ → ℕ
marked n mask = sum_to n (λ i. bit_at mask i)

-- 12 to 21 of 33 bits are set, and none behind them
pub record IsMask (mask : ℕ) : Type 0 where
  pub within : mask < 2 ^ 33
  pub enough : 12 ≤ marked 33 mask
  pub few : marked 33 mask ≤ 21
