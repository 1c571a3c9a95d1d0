-- What a crash leaves of a station in memory, by each tear.
use Rattle.std.specs.Prelude.{ℕ, List, [], ◌∷◌, cond, Option, Some, None}
use Rattle.disk_model.specs.declared.crash.Tear.{Tear}
use Rattle.disk_model.specs.declared.crash.Tear.TheVariants.{Kept, Lost, Filled}
use Rattle.disk_model.specs.World.{Image, Range}
use Rattle.disk_model.specs.Replay.{State, covers}

-- the image with a byte throughout these ranges
abbrev pub filled : List Range → ℕ → Image → Image
filled [] byte image area i = image area i
filled (r ∷ ranges) byte image area i = cond (covers r area i) byte (filled ranges byte image area i)

-- Kept: what reads give. Lost: each area as it was at its last sync. Filled: what reads give, with the byte in each pending range.
abbrev pub left_by : Tear → State → Image
left_by Kept st = st.seen
left_by Lost st = st.safe
left_by (Filled byte) st = filled st.pending byte st.seen

-- pending ranges that are lost, or filled with a byte where one is given
abbrev pub torn_by : Option ℕ → State → Image
torn_by None st = st.safe
torn_by (Some byte) st = filled st.pending byte st.seen

-- what that does with a range that is written
abbrev pub torn_over : Option ℕ → Range → Image → Image
torn_over None r image = image
torn_over (Some byte) r image = filled (r ∷ []) byte image
