-- Runs of neighbouring pages, gathered to be written at once.
use Rattle.std.specs.Prelude.{◌≡◌, ◌⊎◌, ℕ, ◌+◌, ◌<◌, ◌≤◌, List}
use Rattle.disk_model.specs.World.{Image, Written}
use Rattle.disk_model.specs.declared.disk.Area.TheVariants.{Pages}
use Rattle.page_journal.specs.Record.{Batch, AllButPages, batch_of, with_batch}

-- Once these bytes are written here, the image's pages with a list of pages written are the target.
abbrev pub LeadsTo : ℕ → List ℕ → List (ℕ × List ℕ) → Image → (ℕ → ℕ) → Type 0
LeadsTo at bytes pages image target = (new : Image) → Written Pages at bytes image new → with_batch (batch_of pages) (new Pages) ≡ target

-- so many bytes from here on are all in pages of the batch
abbrev pub IsWithin : Batch → ℕ → ℕ → Type 0
IsWithin batch at len = (i : ℕ) → AllButPages batch Pages i → (i < at) ⊎ (at + len ≤ i)
