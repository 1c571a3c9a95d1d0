-- The calls that are made of one open file.
use Rattle.std.specs.Prelude.{◌≡◌, ◌⊎◌, ℕ, ◌+◌, ◌-◌, Bool, true, false, cond, List, [], ◌∷◌, Option, option_map}

-- a call of an open file, and but for a look whether it succeeded
pub data FileCall : Type 0 where
  -- its lock was asked for
  locked : Bool → FileCall
  -- its length and its names were asked for
  looked : FileCall
  -- from this offset on, at most this many bytes were read
  read : ℕ → ℕ → Bool → FileCall
  -- at this offset, these bytes were written
  wrote : ℕ → List ℕ → Bool → FileCall
  -- its bytes and its length were made safe
  synced : Bool → FileCall

-- the calls so far, the newest first; None of the system's files, which keep no list
abbrev pub Calls : Type 0
Calls = Option (List FileCall)

-- the calls so far, with one more
abbrev pub noted : FileCall → Calls → Calls
noted call calls = option_map (λ made. call ∷ made) calls

-- the calls so far, with a check of the file if it wasn't found whole since its last sync
abbrev pub checked : Bool → Calls → Calls
checked is_whole calls = cond is_whole calls (noted FileCall.looked calls)

-- A failed write: the file's check failed before it, or the call of the write failed.
abbrev pub FailsToWrite : ℕ → List ℕ → Bool → Calls → Calls → Type 0
FailsToWrite at bytes is_whole old new = (new ≡ noted FileCall.looked old) ⊎ (new ≡ noted (FileCall.wrote at bytes false) (checked is_whole old))

-- A failed sync: its call failed, or the file's check after it did.
abbrev pub FailsToSync : Calls → Calls → Type 0
FailsToSync old new = (new ≡ noted (FileCall.synced false) old) ⊎ (new ≡ noted FileCall.looked (noted (FileCall.synced true) old))

-- the calls so far, with reads of what is left of a range from these places in it on, the newest first
abbrev pub after_reads : ℕ → ℕ → List (ℕ × Bool) → Calls → Calls
after_reads at len [] calls = calls
after_reads at len ((done, ok) ∷ earlier) calls = noted (FileCall.read (at + done) (len - done) ok) (after_reads at len earlier calls)

-- Only reads were made, each from a place in the range up to its end.
abbrev pub OnlyReads : ℕ → ℕ → Calls → Calls → Type 0
OnlyReads at len old new = (reads : List (ℕ × Bool)) × (new ≡ after_reads at len reads old)
