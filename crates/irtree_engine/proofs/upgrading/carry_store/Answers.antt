use Rattle.std.proofs.Common.{◌≡◌, true, true≢false, sym, ap, subst, ◌∙◌, arith}
use Rattle.std.specs.Prelude.{IsErrOf}
use Rattle.disk_model.specs.World.{LeavesOnly}
use Rattle.disk_model.proofs.Moments.{rested, then, within}
use Rattle.page_face.specs.declared.head.Head.{Head}
use Rattle.page_journal.specs.Record.{applied}
use Rattle.page_store.specs.Contents.{counted_pages, shown}
use Rattle.page_store.specs.Store.{Kept, rests_then}
use Rattle.page_store.specs.declared.superblock.Superblock.{Superblock}
use Rattle.page_face.specs.declared.fault.PageFault.TheVariants as pages
use Rattle.place_values.specs.State as states
use Rattle.store_model.specs.Stands.{PagesStand}
use Rattle.store_model.proofs.Changes.{live-before}
use Rattle.table_updates.specs.Version1.{PagesStandVersion1, StandsVersion1}
use Rattle.irtree_engine.specs.Changes.{block_with}
use Rattle.irtree_engine.specs.Upgrades.{LeavesEither}
use Rattle.irtree_engine.specs.declared.fault.EngineFault.TheVariants as engine
use Rattle.irtree_engine.proofs.Standing.{store-told}
use Rattle.irtree_engine.proofs.Upgrades.{committed-version1, lacks-carrying, rest-version1, wanted-cause, wanted-damage}
use Rattle.irtree_engine.proofs.upgrading.carry_store.Goals.{After-carry_over, After-commit_carried}
use Rattle.irtree_engine.proofs.upgrading.carry_store.Given as given
use Rattle.irtree_engine.proofs.upgrading.carry_store.Goals as goal

-- the pages stand for the state by version 1 as the places are carried over
standing : (g : given.Over) (c : After-carry_over g) → g.D.Disk.readable ≡ true → (state : states.Contents) → StandsVersion1 (g.D.Disk.world c.args.store.now.disk.now).seen state
    → PagesStandVersion1 (block_with c.args.store.now.current.counted c.args.store.now.current.first_free c.head-head.result)
    (counted_pages c.args.store.now.current.counted (shown g.D.Disk.readable (applied (g.D.Disk.world c.args.store.now.disk.now).seen) c.args.store.now.overlay)) state
standing g c t state stands =
    let store = c.args.store.now in
    subst (λ (h : Head). PagesStandVersion1 (block_with store.current.counted store.current.first_free h) (counted_pages store.current.counted (shown g.D.Disk.readable (applied (g.D.Disk.world store.disk.now).seen) store.overlay)) state) (sym c.head-head.ensures)
    (committed-version1 g.D.Disk.readable (g.D.Disk.world store.disk.now) store.overlay store.current store.last store.end state t c.requires.clean c.requires.settled (store.ready t c.requires.on) stands)

-- a crash while they are carried over leaves the state by version 1
carrying : (g : given.Over) (c : After-carry_over g) → g.D.Disk.readable ≡ true → (state : states.Contents)
    → LeavesOnly (g.D.Disk.world c.args.store.now.disk.now) (g.D.Disk.world c.carry_over.new.pages.disk.now) (LeavesEither state (g.D.Disk.world c.args.store.now.disk.now))
carrying g c t state = rested (c.carry_over.ensures.frame.follows.rests t).adds

-- and so does one while that is made safe, or by version 2
storing : (g : given.Over) (c : After-commit_carried g) → g.D.Disk.readable ≡ true → (state : states.Contents) → StandsVersion1 (g.D.Disk.world c.args.store.now.disk.now).seen state
    → LeavesOnly (g.D.Disk.world c.args.store.now.disk.now) (g.D.Disk.world c.carry_over.new.pages.disk.now) (LeavesEither state (g.D.Disk.world c.args.store.now.disk.now))
    → PagesStand (block_with c.carry_over.new.pages.current.counted c.carry_over.new.pages.current.first_free c.carry_over.new.head)
    (counted_pages c.carry_over.new.pages.current.counted (shown g.D.Disk.readable (applied (g.D.Disk.world c.carry_over.new.pages.disk.now).seen) c.carry_over.new.pages.overlay)) state
    → LeavesOnly (g.D.Disk.world c.args.store.now.disk.now) (g.D.Disk.world c.commit_carried.new.store.disk.now) (LeavesEither state (g.D.Disk.world c.args.store.now.disk.now))
storing g c t state stands first stand =
    let rests = c.carry_over.ensures.frame.follows.rests t in
    let mid = rest-version1 (g.D.Disk.world c.args.store.now.disk.now) (g.D.Disk.world c.carry_over.new.pages.disk.now) state rests.seen stands in
    (then) first (within (c.commit_carried.ensures.any_moment t state mid stand) (λ image said left. (left.0, left.1 ∙ rests.said)))

-- ---- no page was left

pub returns-in-Err-NoRoom-clause-any_moment : goal.returns-in-Err-NoRoom-clause-any_moment
returns-in-Err-NoRoom-clause-any_moment g c = λ t state stands. rested (rests_then (c.carry_over.ensures.frame.follows.rests t) (c.want_room.ensures.rests t)).adds

pub returns-in-Err-NoRoom-clause-no_false_damage : goal.returns-in-Err-NoRoom-clause-no_false_damage
returns-in-Err-NoRoom-clause-no_false_damage g c = λ t state stands damage is. wanted-damage c.want_room.result damage c.want_room.ensures.cause (cc)

pub returns-in-Err-NoRoom-clause-no_head : goal.returns-in-Err-NoRoom-clause-no_head
returns-in-Err-NoRoom-clause-no_head g c = λ t damage is. absurd (wanted-damage c.want_room.result damage c.want_room.ensures.cause (cc))

pub returns-in-Err-NoRoom-clause-causes : goal.returns-in-Err-NoRoom-clause-causes
returns-in-Err-NoRoom-clause-causes g c = wanted-cause c.want_room.result c.want_room.ensures.cause

pub returns-in-Err-NoRoom-clause-rests : goal.returns-in-Err-NoRoom-clause-rests
returns-in-Err-NoRoom-clause-rests g c = λ t other. rests_then (c.carry_over.ensures.frame.follows.rests t) (c.want_room.ensures.rests t)

pub returns-in-Err-NoRoom-clause-lacks : goal.returns-in-Err-NoRoom-clause-lacks
returns-in-Err-NoRoom-clause-lacks g c = λ t is.
    let old = c.args.store.now in
    let mid = c.carry_over.new.pages in
    let new = c.want_room.new.store in
    let named : IsErrOf c.carry_over.result pages.NoRoom = cc in
    let wanted : c.want_room.result ≡ engine.NoRoom = cc in
    let full = c.carry_over.ensures.at_most.full named in
    let most = c.carry_over.ensures.at_most.count in
    let last = ap (λ (k : Kept). k.last) c.carry_over.ensures.frame.follows.kept in
    let current : new.current ≡ old.current = c.want_room.ensures.current ∙ last ∙ sym c.requires.settled in
    let counted : new.current.counted ≡ old.current.counted = ap (λ (b : Superblock). b.counted) current in
    let live : new.current.head.live ≡ c.head-head.result.live = ap (λ (b : Superblock). b.head.live) current ∙ sym (ap (λ (h : Head). h.live) c.head-head.ensures) in
    let rooms : g.D.Disk.room_of new.disk.now ≡ g.D.Disk.room_of old.disk.now = c.want_room.ensures.room ∙ c.carry_over.ensures.frame.room in
    let on = c.want_room.ensures.stopped ∙ c.carry_over.ensures.frame.goes_on ∙ c.requires.on in
    let was = c.counted-counted.ensures in
    let as_live = c.from-most.ensures in
    lacks-carrying g.D.Disk.readable (g.D.Disk.world new.disk.now) new.overlay new.current new.last new.end (g.D.Disk.room_of new.disk.now) t c.want_room.ensures.clean
    (c.want_room.ensures.current ∙ sym c.want_room.ensures.last) (new.ready t on)
    (omega (arith, full, most, counted, live, rooms))
    (λ free list. let left = c.want_room.ensures.free_left wanted free list in omega (arith, full, left, counted, live, rooms, was, as_live))

-- ---- carrying over was refused otherwise

pub returns-in-Err-Damaged-clause-any_moment : goal.returns-in-Err-Damaged-clause-any_moment
returns-in-Err-Damaged-clause-any_moment g c = λ t state stands. rested (c.carry_over.ensures.frame.follows.rests t).adds

pub returns-in-Err-Memory-clause-any_moment : goal.returns-in-Err-Memory-clause-any_moment
returns-in-Err-Memory-clause-any_moment g c = λ t state stands. rested (c.carry_over.ensures.frame.follows.rests t).adds

pub returns-in-Err-Disk-clause-any_moment : goal.returns-in-Err-Disk-clause-any_moment
returns-in-Err-Disk-clause-any_moment g c = λ t state stands. rested (c.carry_over.ensures.frame.follows.rests t).adds

pub returns-in-Err-Stopped-clause-any_moment : goal.returns-in-Err-Stopped-clause-any_moment
returns-in-Err-Stopped-clause-any_moment g c = λ t state stands. rested (c.carry_over.ensures.frame.follows.rests t).adds

pub returns-in-Err-Damaged-clause-no_false_damage : goal.returns-in-Err-Damaged-clause-no_false_damage
returns-in-Err-Damaged-clause-no_false_damage g c = λ t state stands damage is.
    let store = c.args.store.now in
    let named : IsErrOf c.carry_over.result (pages.Damaged damage) = cc in
    c.carry_over.ensures.no_false_damage state (standing g (goal.at.returns-in-Err-Damaged-clause-no_false_damage g c).After-carry_over t state stands)
    (store-told g.D.Disk.readable (applied (g.D.Disk.world store.disk.now).seen) store.overlay store.current.counted t store.sized) damage named

pub returns-in-Err-Damaged-clause-no_head : goal.returns-in-Err-Damaged-clause-no_head
returns-in-Err-Damaged-clause-no_head g c = λ t damage is.
    let named : IsErrOf c.carry_over.result (pages.Damaged damage) = cc in
    c.carry_over.ensures.no_head (λ p. store-told g.D.Disk.readable (applied (g.D.Disk.world p.disk.now).seen) p.overlay p.current.counted t p.sized) damage named

pub returns-in-Err-Stopped-clause-causes : goal.returns-in-Err-Stopped-clause-causes
returns-in-Err-Stopped-clause-causes g c =
    let named : IsErrOf c.carry_over.result pages.Stopped = cc in
    true≢false (sym (c.carry_over.ensures.fails.stopped named) ∙ c.requires.on)

-- ---- the places were carried over

pub returns-in_err-commit_carried-clause-any_moment : goal.returns-in_err-commit_carried-clause-any_moment
returns-in_err-commit_carried-clause-any_moment g c = λ t state stands.
    let at = goal.at.returns-in_err-commit_carried-clause-any_moment g c in
    storing g at.After-commit_carried t state stands (carrying g at.After-carry_over t state) (c.in-Ok.ensures.carried state (standing g at.After-carry_over t state stands))

pub returns-clause-any_moment : goal.returns-clause-any_moment
returns-clause-any_moment g c = λ t state stands.
    let at = goal.at.returns-clause-any_moment g c in
    storing g at.After-commit_carried t state stands (carrying g at.After-carry_over t state) (c.in-Ok.ensures.carried state (standing g at.After-carry_over t state stands))

pub returns-clause-upgraded : goal.returns-clause-upgraded
returns-clause-upgraded g c = λ t state stands.
    let stand = c.in-Ok.ensures.carried state (standing g (goal.at.returns-clause-upgraded g c).After-carry_over t state stands) in
    (sym (live-before _ _ state stand), c.in_ok-commit_carried.ensures.stored t state stand)
