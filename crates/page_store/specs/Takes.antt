-- What a store counts as pages are taken.
use Rattle.std.specs.Prelude.{◌≡◌, ◌⊎◌, ℕ, ◌+◌, ◌≤◌}
use Rattle.std.proofs.Common.{refl, ◌∙◌, inl, inr, arith}

-- the pages counted, the takes left of those allowed, and the takes refused for want of room
pub record Counts : Type 0 where
  pub counted : ℕ
  pub takes_left : ℕ
  pub refused : ℕ

-- all three
abbrev pub counts_of : ℕ → ℕ → ℕ → Counts
counts_of counted takes_left refused = record { counted = counted; takes_left = takes_left; refused = refused }

-- From old to new each page newly counted used up a take that was left. Where a take was refused, the pages counted fill the room.
pub record Takes (room : ℕ) (old new : Counts) : Type 0 where
  pub grows : old.counted ≤ new.counted
  pub within : new.counted + new.takes_left ≤ old.counted + old.takes_left
  pub later : old.refused ≤ new.refused
  pub full : (new.refused ≡ old.refused) ⊎ (room ≤ new.counted)

-- nothing was taken
pub takes_nothing : (room : ℕ) (counts : Counts) → Takes room counts counts
takes_nothing room counts = record { grows = omega arith; within = omega arith; later = omega arith; full = inl refl }

-- where a take was refused in one of two runs, the room is full at the end
full_further : (room : ℕ) (a b c : Counts) → b.counted ≤ c.counted
    → (b.refused ≡ a.refused) ⊎ (room ≤ b.counted) → (c.refused ≡ b.refused) ⊎ (room ≤ c.counted) → (c.refused ≡ a.refused) ⊎ (room ≤ c.counted)
full_further room a b c grows first (inr full) = inr full
full_further room a b c grows (inr full) (inl same) = inr (omega (arith, full, grows))
full_further room a b c grows (inl first) (inl same) = inl (same ∙ first)

-- one run of takes after another
pub takes_further : (room : ℕ) (a b c : Counts) → Takes room a b → Takes room b c → Takes room a c
takes_further room a b c f g = record {
  grows = omega (arith, f.grows, g.grows);
  within = omega (arith, f.within, g.within);
  later = omega (arith, f.later, g.later);
  full = full_further room a b c g.grows f.full g.full;
}
