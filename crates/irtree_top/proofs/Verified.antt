-- What a check says, from its opening to its end.
use Rattle.std.proofs.Common.{◌≡◌, inl, inr, ◌++◌, List, ℕ, refl, sym, ap, subst, ◌∙◌}
use Rattle.std.specs.Prelude.{Bool, IsTrue, Err}
use Rattle.disk_model.specs.World.{World}
use Rattle.page_face.specs.declared.fault.Damage.{Damage}
use Rattle.page_journal.specs.Record.{StandsFor, applied}
use Rattle.page_store.specs.Contents as stores
use Rattle.page_store.specs.Opening.{head_damage}
use Rattle.store_model.specs.Stands.{Stands}
use Rattle.place_values.specs.State.{Contents}
use Rattle.store_verify.specs.Breaks.{IsBroken}
use Rattle.irtree_engine.specs.Faults.{IsReadFault}
use Rattle.irtree_engine.specs.Holding.{HasBrokenHead}
use Rattle.irtree_engine.specs.Verified.{HoldsSome}
use Rattle.irtree_engine.specs.declared.fault.EngineFault.{EngineFault}
use Rattle.irtree_engine.specs.declared.fault.EngineFault.TheVariants as engine
use Rattle.run_outcome.specs.Causes.{end_of_engine}
use Rattle.run_outcome.specs.Ended.{broken_line}
use Rattle.run_outcome.specs.declared.ended.Ended.{Ended}
use Rattle.run_outcome.specs.declared.ended.Ended.TheVariants as ends
use Rattle.run_outcome.specs.declared.ended.StoreFault.TheVariants as stores_faults
use Rattle.irtree_top.specs.Run.{IsUnreadEnd}
use Rattle.irtree_top.specs.Upgrade.{IsUpgradeEnd}
use Rattle.irtree_top.specs.Verify.{EndsVerify, SaysBroken, TellsBroken, whole_line}
use Rattle.irtree_top.proofs.Fronts.{none-said}
use Rattle.irtree_top.proofs.Openings.{Refuses}

module _ (old mid : World) (stands : StandsFor old.seen (applied mid.seen)) where
  -- what stands for a state behind the opening stood for it before
  pub some-opened : HoldsSome mid.seen → HoldsSome old.seen
  some-opened held =
      let was : Stands mid.seen held.0 = held.1 in (
        held.0,
        record {
          contents = was.contents;
          holds = record { area = was.holds.area; stands = (stands.0, was.holds.stands.1 ∙ stands.1); holds = was.holds.holds; page = was.holds.page; version1 = was.holds.version1 };
          stand = was.stand;
        },
      )

  -- and what is broken behind it was broken before
  pub broken-opened : (new : World) → mid.said ≡ old.said → (damage : Damage) → SaysBroken damage mid new → SaysBroken damage old new
  broken-opened new same damage says = (
    subst (λ (held : stores.Contents). IsBroken held.block held.pages damage) (ap stores.contents_in stands.1) says.0,
    says.1 ∙ ap (λ (s : List ℕ). s ++ broken_line damage) same,
  )

-- an opening that is refused by damage says that page 0 breaks the rule Head, and nothing was said
pub refused-tells : (readable : Bool) (old new : World) (fault : EngineFault) → IsTrue readable → Refuses readable old new fault → new.said ≡ old.said
    → (damage : Damage) → end_of_engine fault ≡ ends.Store (stores_faults.Damaged damage) → TellsBroken damage old new
refused-tells readable old new (engine.Damaged found) told refuses said damage is =
    let same : found ≡ damage = cc in
    inl (subst (λ (d : Damage). TellsHead d) same (let head = refuses.head told found refl in (head.0, head.1, said)))
  where
    TellsHead : Damage → Type 0
    TellsHead d = (d ≡ head_damage) × HasBrokenHead old.seen × (new.said ≡ old.said)
refused-tells readable old new engine.Disk told refuses said damage is = absurd (cc)
refused-tells readable old new engine.NotAStore told refuses said damage is = absurd (cc)
refused-tells readable old new engine.Version1 told refuses said damage is = absurd (cc)
refused-tells readable old new (engine.BadJournal at) told refuses said damage is = absurd (cc)
refused-tells readable old new engine.Full told refuses said damage is = absurd (cc)
refused-tells readable old new engine.Worn told refuses said damage is = absurd (cc)
refused-tells readable old new engine.NoRoom told refuses said damage is = absurd (cc)
refused-tells readable old new engine.Stopped told refuses said damage is = absurd (cc)
refused-tells readable old new engine.Memory told refuses said damage is = absurd (cc)

-- what a check that failed leaves said: nothing
pub fault-told : (T : Type 0) → (state : Contents) (old new : World) (fault : EngineFault) → IsReadFault fault → ((damage : Damage) → ¬ (fault ≡ engine.Damaged damage)) → new.said ≡ old.said
    → EndsVerify {T = T} state old new (Err (end_of_engine fault))
fault-told T state old new engine.Disk reads whole said = none-said whole_line old.said new.said said
fault-told T state old new engine.Stopped reads whole said = none-said whole_line old.said new.said said
fault-told T state old new engine.Memory reads whole said = none-said whole_line old.said new.said said
fault-told T state old new (engine.Damaged damage) reads whole said = absurd (whole damage refl)
fault-told T state old new engine.NotAStore reads whole said = absurd reads
fault-told T state old new engine.Version1 reads whole said = absurd reads
fault-told T state old new (engine.BadJournal at) reads whole said = absurd reads
fault-told T state old new engine.Full reads whole said = absurd reads
fault-told T state old new engine.Worn reads whole said = absurd reads
fault-told T state old new engine.NoRoom reads whole said = absurd reads

-- an upgrade ends by no input
pub upgrade-unread : (end : Ended) → IsUpgradeEnd end → IsUnreadEnd end
upgrade-unread ends.Done is = tt
upgrade-unread ends.Memory is = tt
upgrade-unread ends.Words is = absurd is
upgrade-unread ends.Disk is = tt
upgrade-unread ends.Source is = absurd is
upgrade-unread ends.Sink is = tt
upgrade-unread (ends.Input fault) is = absurd is
upgrade-unread (ends.Store fault) is = tt
upgrade-unread (ends.Limit fault) is = tt
