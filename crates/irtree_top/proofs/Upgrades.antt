-- An upgrade: how one ends that is refused, and the line that is said behind one that isn't.
use Rattle.std.proofs.Common.{◌≡◌, ℕ, ⊎_elim, inl, inr, List, ◌++◌, length, take, refl, sym, ap, subst, ◌∙◌}
use Rattle.std.specs.Prelude.{◌≢◌, Bool, IsTrue, Option, Some, None, Result, Ok}
use Rattle.disk_model.specs.World.{HasSaid, Image, LeavesOnly, LeavesOnlySeen, Rose, World}
use Rattle.disk_model.specs.declared.disk.Area.TheVariants.{Journal}
use Rattle.disk_model.specs.declared.disk.Failed.{Failed}
use Rattle.disk_model.proofs.Moments.{then, within}
use Rattle.page_face.specs.declared.fault.Damage.{Damage}
use Rattle.page_journal.specs.Record.{IsBad, IsJournal, IsReady, StandsAlike, journal_end}
use Rattle.place_values.specs.State.{Contents}
use Rattle.store_model.specs.Stands.{Stands}
use Rattle.irtree_engine.specs.Holding.{HoldsState, IsForeign, LeavesState}
use Rattle.irtree_engine.specs.Upgrades.{IsOpenableVersion1, IsOpenedFor, IsUpgradeDamage, IsUpgradeFault, LeavesEither, LeavesUnchanged, StandsEither, StandsForNeither}
use Rattle.irtree_engine.specs.declared.fault.EngineFault.{EngineFault}
use Rattle.irtree_engine.specs.declared.fault.EngineFault.TheVariants as engine
use Rattle.run_outcome.specs.Causes.{end_of_engine}
use Rattle.run_outcome.specs.Said.{SaysAll, SaysFrontOf}
use Rattle.run_outcome.specs.declared.ended.Ended.{Ended}
use Rattle.run_outcome.specs.declared.ended.Ended.TheVariants as ends
use Rattle.run_outcome.specs.declared.ended.LimitFault.TheVariants as limits
use Rattle.run_outcome.specs.declared.ended.StoreFault.TheVariants as stores
use Rattle.command_words.specs.Job.{AskFor, Asked, reading}
use Rattle.command_words.specs.declared.job.Action.TheVariants.{Upgrade}
use Rattle.irtree_top.specs.Upgrade.{AskForJob, AskForNoUpgrade, AskForUpgrade, EndsUpgrade, IsBrokenForUpgrade, IsCompleteUpgrade, IsLineEnd, IsOpenableEither, IsUpgradeEnd, IsUpgradeOpened, LeavesAloneByUpgrade, LeavesPresent, LeavesUpgraded, upgrade_line}
use Rattle.irtree_top.specs.Run.{IsSettled}
use Rattle.irtree_top.proofs.Fronts.{none-said}

-- ---- what is asked for

-- words ask for one thing
pub asked-same : (words : List (List ℕ)) (one other : Asked) → reading words ≡ Ok one → AskFor words other → one ≡ other
asked-same words one other reads asks = cc

-- where that is an upgrade they ask for no job
pub no-job : (words : List (List ℕ)) (one other : Asked) → reading words ≡ Ok one → one.action ≡ Upgrade → AskForJob words other → ⊥
no-job words one other reads upgrades asks = asks.1 (ap (λ (a : Asked). a.action) (sym (asked-same words one other reads asks.0)) ∙ upgrades)

pub no-words : (words : List (List ℕ)) (one : Asked) → reading words ≡ Ok one → one.action ≡ Upgrade → AskForNoUpgrade words → ⊥
no-words words one reads upgrades asks = asks one reads upgrades

-- and where it is none, for no upgrade
pub no-upgrade : (words : List (List ℕ)) (one other : Asked) → reading words ≡ Ok one → one.action ≢ Upgrade → AskForUpgrade words other → ⊥
no-upgrade words one other reads apart asks = apart (ap (λ (a : Asked). a.action) (asked-same words one other reads asks.0) ∙ asks.1)

-- ---- what is said

-- behind a piece that was said nothing is pending, as before
pub quiet-said : {now new : World} {piece : List ℕ} {result : Result ℕ Failed} → LeavesOnlySeen now → HasSaid piece now new result → LeavesOnlySeen new
quiet-said safe says image left = safe image (says.crash image left) ∙ sym says.seen

-- and the journal is at its beginning, as before
pub ready-said : (now new : World) → IsReady 0 now → LeavesOnlySeen new → new.seen ≡ now.seen → IsReady 0 new
ready-said now new ready safe same = record {
  safe = safe;
  journal = subst (λ (i : Image). IsJournal (i Journal)) (sym same) ready.journal;
  end = subst (λ (i : Image). journal_end (i Journal) ≡ 0) (sym same) ready.end;
}

-- a crash of an opening alone
pub still-left : (state : Contents) (old : World) (image : Image) (said : List ℕ) → LeavesState state old image said → LeavesPresent None state old image said
still-left state old image said left = (left.0, none-said (upgrade_line None) old.said said left.1)

module _ (count : Option ℕ) (old mid new : World) (same : mid.said ≡ old.said) where
  -- a front of the line
  pub line-front : {T E : Type 0} (result : Result T E) → SaysAll (upgrade_line count) mid new result → SaysFrontOf (upgrade_line count) old.said new.said
  line-front result says = (says.front.0, says.front.1 ∙ ap (λ (s : List ℕ). s ++ take says.front.0 (upgrade_line count)) same)

  module _ (state : Contents) (holds : HoldsState mid state) where
    -- a crash meanwhile left the state and a front of the line
    pub line-left : {T E : Type 0} (result : Result T E) → SaysAll (upgrade_line count) mid new result → LeavesOnly mid new (LeavesPresent count state old)
    line-left result says = within says.left (λ image said left.
        (subst (λ (i : Image). Stands i state) (sym left.0) holds, (left.1.0, left.1.1 ∙ ap (λ (s : List ℕ). s ++ take left.1.0 (upgrade_line count)) same)))

    -- the whole line
    pub line-ends : {T E : Type 0} (value : T) → SaysAll {E = E} (upgrade_line count) mid new (Ok value) → EndsUpgrade count state old new
    line-ends value says = (says.all ∙ ap (λ (s : List ℕ). s ++ upgrade_line count) same, subst (λ (i : Image). Stands i state) (sym says.seen) holds)

    -- a crash of the whole left a store of version 2 in its state
    pub present-left : {T E : Type 0} (result : Result T E) → count ≡ None → LeavesOnly old mid (LeavesState state old) → SaysAll (upgrade_line count) mid new result → LeavesOnly old new (LeavesPresent None state old)
    present-left result none still says = then
        (within still (still-left state old))
        (within (line-left result says) (λ image said left. subst (λ (n : Option ℕ). LeavesPresent n state old image said) none left))

-- a crash of an upgrade, before its line
pub either-left : (state : Contents) (old : World) (image : Image) (said : List ℕ) → LeavesEither state old image said → LeavesUpgraded state old image said
either-left state old image said left = ⊎_elim
    (λ first. inl (first, left.1))
    (λ second. inr (second, none-said (upgrade_line (Some (length state.places))) old.said said left.1))
    left.0

-- a crash of the whole left a store of version 1 in its state, by either version
pub upgraded-left : (count : Option ℕ) (old mid new : World) → mid.said ≡ old.said → (state : Contents) → HoldsState mid state → {T E : Type 0} (result : Result T E) → count ≡ Some (length state.places)
    → LeavesOnly old mid (LeavesEither state old) → SaysAll (upgrade_line count) mid new result → LeavesOnly old new (LeavesUpgraded state old)
upgraded-left count old mid new same state holds result some carries says = then
    (within carries (either-left state old))
    (within (line-left count old mid new same state holds result says) (λ image said left. inr (subst (λ (n : Option ℕ). LeavesPresent n state old image said) some left)))

-- what is opened for a number of places, or for none, is opened by either version
pub either-opened : (count : Option ℕ) (image : Image) → IsOpenedFor count image → IsOpenableEither image
either-opened (Some places) image opened = inl opened
either-opened None image opened = inr opened

-- ---- an end of the printing

-- an end of the printing is one of an upgrade
pub line-end : (end : Ended) → IsLineEnd end → IsUpgradeEnd end
line-end ends.Memory is = tt
line-end ends.Sink is = tt
line-end ends.Done is = absurd is
line-end ends.Words is = absurd is
line-end ends.Disk is = absurd is
line-end ends.Source is = absurd is
line-end (ends.Input fault) is = absurd is
line-end (ends.Store fault) is = absurd is
line-end (ends.Limit fault) is = absurd is

-- it comes behind the opening
pub line-opened : (end : Ended) (image : Image) → IsLineEnd end → IsOpenableEither image → IsUpgradeOpened end image
line-opened ends.Memory image is opened = tt
line-opened ends.Sink image is opened = opened
line-opened ends.Done image is opened = absurd is
line-opened ends.Words image is opened = absurd is
line-opened ends.Disk image is opened = absurd is
line-opened ends.Source image is opened = absurd is
line-opened (ends.Input fault) image is opened = absurd is
line-opened (ends.Store fault) image is opened = absurd is
line-opened (ends.Limit fault) image is opened = absurd is

-- where the sink didn't fail, memory ran out
pub line-complete : (end : Ended) → IsLineEnd end → (end ≡ ends.Sink → ⊥) → IsCompleteUpgrade end
line-complete ends.Memory is other = tt
line-complete ends.Sink is other = absurd (other refl)
line-complete ends.Done is other = absurd is
line-complete ends.Words is other = absurd is
line-complete ends.Disk is other = absurd is
line-complete ends.Source is other = absurd is
line-complete (ends.Input fault) is other = absurd is
line-complete (ends.Store fault) is other = absurd is
line-complete (ends.Limit fault) is other = absurd is

-- ---- an upgrade that is refused

-- what a refused upgrade says of the image
pub record RefusesUpgrade (readable : Bool) (old new : World) (fault : EngineFault) : Type 0 where
  pub causes : IsUpgradeFault fault
  pub disk : fault ≡ engine.Disk → Rose old.faults new.faults
  pub foreign : IsTrue readable → fault ≡ engine.NotAStore → StandsForNeither old.seen × IsForeign old.seen
  pub bad : IsTrue readable → (at : ℕ) → fault ≡ engine.BadJournal at → StandsForNeither old.seen × IsBad old.seen at
  pub damaged : IsTrue readable → (damage : Damage) → fault ≡ engine.Damaged damage → StandsForNeither old.seen × IsUpgradeDamage damage old.seen
  pub room : IsTrue readable → fault ≡ engine.NoRoom → IsOpenableVersion1 old.seen

-- how it ends: by the disk, whose count rose, by want of memory or of room, or by a store that is broken so
abbrev pub IsRefusal : Bool → World → World → Ended → Type 0
IsRefusal readable old new ends.Disk = Rose old.faults new.faults
IsRefusal readable old new ends.Memory = Unit {0}
IsRefusal readable old new (ends.Store fault) = (fault ≢ stores.Version1) × (IsTrue readable → IsBrokenForUpgrade fault old.seen)
IsRefusal readable old new (ends.Limit fault) = (fault ≡ limits.NoRoom) × (IsTrue readable → IsOpenableVersion1 old.seen)
IsRefusal readable old new _ = ⊥

pub fault-refusal : (readable : Bool) (old new : World) (fault : EngineFault) → RefusesUpgrade readable old new fault → IsRefusal readable old new (end_of_engine fault)
fault-refusal readable old new engine.Disk refuses = refuses.disk refl
fault-refusal readable old new engine.NotAStore refuses = ((λ e. cc), λ t. refuses.foreign t refl)
fault-refusal readable old new (engine.BadJournal at) refuses = ((λ e. cc), λ t. refuses.bad t at refl)
fault-refusal readable old new (engine.Damaged damage) refuses = ((λ e. cc), λ t. refuses.damaged t damage refl)
fault-refusal readable old new engine.NoRoom refuses = (refl, λ t. refuses.room t refl)
fault-refusal readable old new engine.Memory refuses = tt
fault-refusal readable old new engine.Full refuses = absurd refuses.causes
fault-refusal readable old new engine.Worn refuses = absurd refuses.causes
fault-refusal readable old new engine.Stopped refuses = absurd refuses.causes
fault-refusal readable old new engine.Version1 refuses = absurd refuses.causes

module _ (readable : Bool) (old new : World) where
  -- it is an end of an upgrade
  pub refusal-ends : (end : Ended) → IsRefusal readable old new end → IsUpgradeEnd end
  refusal-ends ends.Disk is = tt
  refusal-ends ends.Memory is = tt
  refusal-ends (ends.Store fault) is = is.0
  refusal-ends (ends.Limit fault) is = is.0
  refusal-ends ends.Done is = absurd is
  refusal-ends ends.Words is = absurd is
  refusal-ends ends.Source is = absurd is
  refusal-ends ends.Sink is = absurd is
  refusal-ends (ends.Input fault) is = absurd is

  -- where no room was left, the store is of version 1
  pub refusal-opened : (end : Ended) → IsRefusal readable old new end → IsTrue readable → IsUpgradeOpened end old.seen
  refusal-opened ends.Disk is t = tt
  refusal-opened ends.Memory is t = tt
  refusal-opened (ends.Store fault) is t = tt
  refusal-opened (ends.Limit fault) is t = is.1 t
  refusal-opened ends.Done is t = absurd is
  refusal-opened ends.Words is t = absurd is
  refusal-opened ends.Source is t = absurd is
  refusal-opened ends.Sink is t = absurd is
  refusal-opened (ends.Input fault) is t = absurd is

  -- where the image stands for a state and the disk didn't fail, room or memory ran out
  pub refusal-complete : (end : Ended) → IsRefusal readable old new end → IsTrue readable → (state : Contents) → StandsEither state old.seen → (Rose old.faults new.faults → ⊥) → IsCompleteUpgrade end
  refusal-complete ends.Disk is t state stands disk = absurd (disk is)
  refusal-complete ends.Memory is t state stands disk = tt
  refusal-complete (ends.Store stores.NotAStore) is t state stands disk = absurd ((is.1 t).0 state stands)
  refusal-complete (ends.Store (stores.BadJournal at)) is t state stands disk = absurd ((is.1 t).0 state stands)
  refusal-complete (ends.Store (stores.Damaged damage)) is t state stands disk = absurd ((is.1 t).0 state stands)
  refusal-complete (ends.Store stores.Version1) is t state stands disk = absurd (is.0 refl)
  refusal-complete (ends.Limit fault) is t state stands disk = is.0
  refusal-complete ends.Done is t state stands disk = absurd is
  refusal-complete ends.Words is t state stands disk = absurd is
  refusal-complete ends.Source is t state stands disk = absurd is
  refusal-complete ends.Sink is t state stands disk = absurd is
  refusal-complete (ends.Input fault) is t state stands disk = absurd is

-- a refused upgrade leaves the store alone
pub refusal-left : (old new : World) (fault : EngineFault) → IsUpgradeFault fault → LeavesUnchanged fault old new → ((fault ≡ engine.Disk → ⊥) → LeavesOnly old new (StandsAlike old)) → new.said ≡ old.said
    → LeavesAloneByUpgrade (end_of_engine fault) old new
refusal-left old new engine.Disk causes left alike said = tt
refusal-left old new engine.NotAStore causes left alike said = record { recovered = left; alike = alike (λ e. cc); said = said }
refusal-left old new (engine.BadJournal at) causes left alike said = left
refusal-left old new (engine.Damaged damage) causes left alike said = record { recovered = left; alike = alike (λ e. cc); said = said }
refusal-left old new engine.NoRoom causes left alike said = record { recovered = left; alike = alike (λ e. cc); said = said }
refusal-left old new engine.Memory causes left alike said = tt
refusal-left old new engine.Full causes left alike said = absurd causes
refusal-left old new engine.Worn causes left alike said = absurd causes
refusal-left old new engine.Stopped causes left alike said = absurd causes
refusal-left old new engine.Version1 causes left alike said = absurd causes

-- where no room was left, the upgrade was refused for that
pub room-refusal : (fault : EngineFault) → IsUpgradeFault fault → end_of_engine fault ≡ ends.Limit limits.NoRoom → fault ≡ engine.NoRoom
room-refusal engine.NoRoom causes is = refl
room-refusal engine.Disk causes is = absurd (cc)
room-refusal engine.NotAStore causes is = absurd (cc)
room-refusal (engine.BadJournal at) causes is = absurd (cc)
room-refusal (engine.Damaged damage) causes is = absurd (cc)
room-refusal engine.Memory causes is = absurd (cc)
room-refusal engine.Full causes is = absurd causes
room-refusal engine.Worn causes is = absurd causes
room-refusal engine.Stopped causes is = absurd causes
room-refusal engine.Version1 causes is = absurd causes

-- an end of the printing leaves nothing to say of a refusal
pub ended-left : (end : Ended) (old new : World) → IsLineEnd end → LeavesAloneByUpgrade end old new
ended-left ends.Memory old new is = tt
ended-left ends.Sink old new is = tt
ended-left ends.Done old new is = absurd is
ended-left ends.Words old new is = absurd is
ended-left ends.Disk old new is = absurd is
ended-left ends.Source old new is = absurd is
ended-left (ends.Input fault) old new is = absurd is
ended-left (ends.Store fault) old new is = absurd is
ended-left (ends.Limit fault) old new is = absurd is

-- ---- an end that no fault causes

-- an upgrade ends by no source, and otherwise by no fault but the disk's and the sink's
pub settled-upgrade : (end : Ended) → IsUpgradeEnd end → (end ≡ ends.Disk → ⊥) → (end ≡ ends.Sink → ⊥) → IsSettled end
settled-upgrade ends.Disk is disk sink = absurd (disk refl)
settled-upgrade ends.Sink is disk sink = absurd (sink refl)
settled-upgrade ends.Source is disk sink = absurd is
settled-upgrade ends.Done is disk sink = tt
settled-upgrade ends.Memory is disk sink = tt
settled-upgrade ends.Words is disk sink = tt
settled-upgrade (ends.Input fault) is disk sink = tt
settled-upgrade (ends.Store fault) is disk sink = tt
settled-upgrade (ends.Limit fault) is disk sink = tt
