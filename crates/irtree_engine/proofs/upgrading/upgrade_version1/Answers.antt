use Rattle.std.proofs.Common.{◌≡◌, true, inr, rules, sym, ap, subst, ◌∙◌}
use Rattle.std.specs.Prelude.{IfOk, IsErrOf, length}
use Rattle.disk_model.specs.World.{LeavesOnly}
use Rattle.disk_model.proofs.Moments.{then, within}
use Rattle.page_store.specs.declared.opening.OpenFault.TheVariants.{NotAStore, BadJournal}
use Rattle.irtree_engine.specs.Holding.{HoldsState}
use Rattle.irtree_engine.specs.Opening.{IsRecovered}
use Rattle.irtree_engine.specs.Upgrades.{IsOpenableVersion1, LeavesEither}
use Rattle.irtree_engine.proofs.Openings.{bad-journal}
use Rattle.irtree_engine.proofs.Upgrades.{given-back, magic-then, on-ok, opened-openable, opening-cause, opening-version1, store-version1}
use Rattle.irtree_engine.proofs.upgrading.upgrade_version1.Goals.{In-Ok}
use Rattle.irtree_engine.proofs.upgrading.upgrade_version1.Given as given
use Rattle.irtree_engine.proofs.upgrading.upgrade_version1.Goals as goal

pub returns-in-Err-clause-causes : goal.returns-in-Err-clause-causes
returns-in-Err-clause-causes g c = λ t.
    let old = g.D.Disk.world c.args.disk.now in
    let mid = g.D.Disk.world c.recover_version1.new.disk in
    let ready = c.requires.magic t in
    rw c.opening_fault.ensures (opening-cause c.in-Err.fault
    (λ is.
    let named : IsErrOf c.recover_version1.result NotAStore = cc in
    let refused = c.recover_version1.ensures.not_a_store t named in
    refused.page.1 (magic-then old mid ready refused.stands))
    (λ at is.
    let named : IsErrOf c.recover_version1.result (BadJournal at) = cc in
    bad-journal old.seen at (c.recover_version1.ensures.bad t at named) ready.ready.journal)
    (λ is. c.recover_version1.ensures.version1 (cc)))

-- the journal is recovered
recovered : (g : given.Over) (c : In-Ok g) → g.D.Disk.readable ≡ true → IsRecovered (g.D.Disk.world c.args.disk.now) (g.D.Disk.world c.recover_version1.new.disk)
recovered g c t = let opened = c.in-Ok.ensures.opened t in record { ready = opened.committed.ready; stands = opened.stands }

-- the image is opened by version 1
openable : (g : given.Over) (c : In-Ok g) → g.D.Disk.readable ≡ true → IsOpenableVersion1 (g.D.Disk.world c.args.disk.now).seen
openable g c t =
    let opened = c.in-Ok.ensures.opened t in
    opened-openable (g.D.Disk.world c.args.disk.now) (g.D.Disk.world c.recover_version1.new.disk) (c.requires.magic t) opened.stands opened.page

pub returns-clause-upgraded : goal.returns-clause-upgraded
returns-clause-upgraded g c = λ t state stands.
    let at = goal.at.returns-clause-upgraded g c in
    given-back (λ disk. IfOk c.carry_store-end.result (λ count. (count ≡ length state.places) × HoldsState (g.D.Disk.world disk) state)) c.carry_store-end.new.store.disk.now _ (search rules)
    (c.carry_store-end.ensures.upgraded t state (store-version1 g.D.Disk.world c.over-store.result.disk.now c.recover_version1.new.disk (g.D.Disk.world c.args.disk.now) state c.over-store.ensures.disk (recovered g at.In-Ok t) stands))

pub returns-clause-any_moment : goal.returns-clause-any_moment
returns-clause-any_moment g c = λ t state stands.
    let world = g.D.Disk.world in
    let at = goal.at.returns-clause-any_moment g c in
    let old = world c.args.disk.now in
    let first = opening-version1 old (world c.recover_version1.new.disk) state stands (c.in-Ok.ensures.any_moment t) in
    let quiet = ap (λ disk. (world disk).said) c.over-store.ensures.disk ∙ (c.in-Ok.ensures.quiet t).said in
    let second = within (c.carry_store-end.ensures.any_moment t state (store-version1 g.D.Disk.world c.over-store.result.disk.now c.recover_version1.new.disk (g.D.Disk.world c.args.disk.now) state c.over-store.ensures.disk (recovered g at.In-Ok t) stands)) (λ image said left. (left.0, left.1 ∙ quiet)) in
    given-back (λ disk. LeavesOnly old (world disk) (LeavesEither state old)) c.carry_store-end.new.store.disk.now _ (search rules)
    ((then) (subst (λ disk. LeavesOnly old (world disk) (LeavesEither state old)) (sym c.over-store.ensures.disk) first) second)

pub returns-clause-opened : goal.returns-clause-opened
returns-clause-opened g c = λ t. on-ok c.carry_store-end.result (openable g (goal.at.returns-clause-opened g c).In-Ok t)

pub returns-clause-room_left : goal.returns-clause-room_left
returns-clause-room_left g c = λ t is. openable g (goal.at.returns-clause-room_left g c).In-Ok t

pub returns-clause-damaged : goal.returns-clause-damaged
returns-clause-damaged g c = λ t damage is.
    let at = goal.at.returns-clause-damaged g c in (
      λ state stands. c.carry_store-end.ensures.no_false_damage t state (store-version1 g.D.Disk.world c.over-store.result.disk.now c.recover_version1.new.disk (g.D.Disk.world c.args.disk.now) state c.over-store.ensures.disk (recovered g at.In-Ok t) stands) damage is,
      inr (c.carry_store-end.ensures.no_head t damage is, openable g at.In-Ok t),
    )

pub returns-clause-unopened : goal.returns-clause-unopened
returns-clause-unopened g c = λ t closed. absurd (closed (openable g (goal.at.returns-clause-unopened g c).In-Ok t))
