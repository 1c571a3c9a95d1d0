-- What an upgrade of a store says, what it leaves, and how it ends.
use Rattle.std.specs.Prelude.{◌≡◌, ◌≢◌, ◌⊎◌, ◌≤◌, ℕ, List, [], ◌∷◌, ◌++◌, length, Option, Some, None, Result, Err, codes, decimal}
use Rattle.disk_model.specs.World.{World, Image, Rose, WritesNothing}
use Rattle.page_journal.specs.Record.{IsBad}
use Rattle.place_values.specs.State.{Contents}
use Rattle.store_model.specs.Stands.{Stands}
use Rattle.table_updates.specs.Version1.{StandsVersion1}
use Rattle.irtree_engine.specs.Holding.{HoldsState, IsForeign, IsOpenable}
use Rattle.irtree_engine.specs.Upgrades.{IsOpenableVersion1, IsUpgradeDamage, StandsForNeither}
use Rattle.run_outcome.specs.Said.{SaysFrontOf}
use Rattle.irtree_top.specs.Run.{LeavesRecovered}
use Rattle.run_outcome.specs.declared.ended.Ended.{Ended}
use Rattle.run_outcome.specs.declared.ended.Ended.TheVariants as ends
use Rattle.run_outcome.specs.declared.ended.LimitFault.TheVariants as limits
use Rattle.run_outcome.specs.declared.ended.StoreFault.{StoreFault}
use Rattle.run_outcome.specs.declared.ended.StoreFault.TheVariants as stores
use Rattle.command_words.specs.Job.{AskFor, Asked}
use Rattle.command_words.specs.declared.job.Action.TheVariants.{Upgrade}

-- ---- what is asked for

-- the words ask for this, a script, a load or a make
abbrev pub AskForJob : List (List ℕ) → Asked → Type 0
AskForJob words asked = AskFor words asked × (asked.action ≢ Upgrade)

-- the words ask for this, an upgrade
abbrev pub AskForUpgrade : List (List ℕ) → Asked → Type 0
AskForUpgrade words asked = AskFor words asked × (asked.action ≡ Upgrade)

-- the words, accepted or not, ask for no upgrade
abbrev pub AskForNoUpgrade : List (List ℕ) → Type 0
AskForNoUpgrade words = (asked : Asked) → AskFor words asked → asked.action ≢ Upgrade

-- ---- what is said

-- `upgraded N`
unfoldable pub upgraded_line : ℕ → List ℕ
upgraded_line places = codes "upgraded " ++ (decimal places ++ 10 ∷ [])

-- of a store of version 1 with so many places, `upgraded N`; of a store of version 2 `version 2`
abbrev pub upgrade_line : Option ℕ → List ℕ
upgrade_line (Some places) = upgraded_line places
upgrade_line None = codes "version 2\n"

-- ---- what is left

-- The whole line was said, and the image stands for the state by version 2.
abbrev pub EndsUpgrade : Option ℕ → Contents → World → World → Type 0
EndsUpgrade count state old new = (new.said ≡ old.said ++ upgrade_line count) × HoldsState new state

-- the image stands for the state by version 2, and a front of the line was said
abbrev pub LeavesPresent : Option ℕ → Contents → World → Image → List ℕ → Type 0
LeavesPresent count state old image said = Stands image state × SaysFrontOf (upgrade_line count) old.said said

-- of a store of version 1: the image stands for the state by version 1, and nothing was said, or by version 2
abbrev pub LeavesUpgraded : Contents → World → Image → List ℕ → Type 0
LeavesUpgraded state old image said =
    (StandsVersion1 image state × (said ≡ old.said)) ⊎ LeavesPresent (Some (length state.places)) state old image said

-- However it ends, a front of the line was said.
pub record SaysFrontOfUpgrade (state : Contents) (old new : World) : Type 0 where
  pub upgraded : StandsVersion1 old.seen state → SaysFrontOf (upgrade_line (Some (length state.places))) old.said new.said
  pub present : HoldsState old state → SaysFrontOf (upgrade_line None) old.said new.said

-- ---- how it ends

-- an end that an upgrade may have: no input, no source, and no other limit than want of room ends it, and no store is refused for its version
abbrev pub IsUpgradeEnd : Ended → Type 0
IsUpgradeEnd ends.Words = ⊥
IsUpgradeEnd ends.Source = ⊥
IsUpgradeEnd (ends.Input fault) = ⊥
IsUpgradeEnd (ends.Limit fault) = fault ≡ limits.NoRoom
IsUpgradeEnd (ends.Store fault) = fault ≢ stores.Version1
IsUpgradeEnd _ = Unit {0}

-- What a store's fault says of the image: that it stands for no state by either version; where it is called no store, that page 0 is
-- foreign; where the journal is named, that its first fault is at that byte; where a page is named, that page 0 breaks the rule Head, or
-- that the image is opened by version 1 and the rule is another one.
abbrev pub IsBrokenForUpgrade : StoreFault → Image → Type 0
IsBrokenForUpgrade stores.NotAStore image = StandsForNeither image × IsForeign image
IsBrokenForUpgrade (stores.BadJournal at) image = StandsForNeither image × IsBad image at
IsBrokenForUpgrade (stores.Damaged damage) image = StandsForNeither image × IsUpgradeDamage damage image
IsBrokenForUpgrade stores.Version1 image = ⊥

-- The image is opened, by either version.
abbrev pub IsOpenableEither : Image → Type 0
IsOpenableEither image = IsOpenableVersion1 image ⊎ IsOpenable image

-- what an end behind the opening says of the image: that it is opened, and where no room was left, by version 1
abbrev pub IsUpgradeOpened : Ended → Image → Type 0
IsUpgradeOpened ends.Done image = IsOpenableEither image
IsUpgradeOpened ends.Sink image = IsOpenableEither image
IsUpgradeOpened (ends.Limit fault) image = IsOpenableVersion1 image
IsUpgradeOpened _ image = Unit {0}

-- ---- a store that is refused

-- what a store that an upgrade refuses is left as: where its journal is bad, as it was, and else recovered
abbrev pub LeavesStoreOfUpgrade : StoreFault → World → World → Type 0
LeavesStoreOfUpgrade stores.NotAStore old new = LeavesRecovered old new
LeavesStoreOfUpgrade (stores.BadJournal at) old new = WritesNothing old new
LeavesStoreOfUpgrade (stores.Damaged damage) old new = LeavesRecovered old new
LeavesStoreOfUpgrade stores.Version1 old new = ⊥

-- a store that is refused is left alone, and so is one for which no room was left
abbrev pub LeavesAloneByUpgrade : Ended → World → World → Type 0
LeavesAloneByUpgrade (ends.Store fault) old new = LeavesStoreOfUpgrade fault old new
LeavesAloneByUpgrade (ends.Limit fault) old new = LeavesRecovered old new
LeavesAloneByUpgrade _ old new = Unit {0}

-- ---- an upgrade that no fault ends

-- how an upgrade ends where no count rose and the image stands for a state by either version
abbrev pub IsCompleteUpgrade : Ended → Type 0
IsCompleteUpgrade ends.Done = Unit {0}
IsCompleteUpgrade ends.Memory = Unit {0}
IsCompleteUpgrade (ends.Limit fault) = fault ≡ limits.NoRoom
IsCompleteUpgrade _ = ⊥

-- an end of the printing of the line
abbrev pub IsLineEnd : Ended → Type 0
IsLineEnd ends.Memory = Unit {0}
IsLineEnd ends.Sink = Unit {0}
IsLineEnd _ = ⊥

-- The printing of the line ends by the sink just where the sink's count rose, or stands at its last value, and no count falls.
pub record HasLineCause {T : Type 0} (old new : World) (result : Result T Ended) : Type 0 where
  pub later : old.sink_faults ≤ new.sink_faults
  pub disk : new.faults ≡ old.faults
  pub rose : result ≡ Err ends.Sink → Rose old.sink_faults new.sink_faults
  pub stays : result ≢ Err ends.Sink → new.sink_faults ≡ old.sink_faults
