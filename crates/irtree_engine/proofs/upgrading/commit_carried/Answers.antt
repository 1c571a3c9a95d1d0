use Rattle.std.proofs.Common.{◌≡◌, true, false, sym, subst, ◌∙◌}
use Rattle.disk_model.specs.World.{LeavesOnly}
use Rattle.page_journal.specs.Record.{applied}
use Rattle.page_store.specs.Contents.{Contents, HoldsOneOf, contents_in, contents_of, counted_pages, shown}
use Rattle.page_store.specs.declared.superblock.Superblock.{Superblock}
use Rattle.place_values.specs.State as states
use Rattle.store_model.specs.Stands.{PagesStand, Stands}
use Rattle.table_updates.specs.Version1.{StandsVersion1}
use Rattle.irtree_engine.specs.Changes.{block_with}
use Rattle.irtree_engine.specs.Upgrades.{LeavesEither}
use Rattle.irtree_engine.proofs.Commits.{commit-stands, told-stand}
use Rattle.irtree_engine.proofs.Openings.{pages-stand, settling-leaves}
use Rattle.irtree_engine.proofs.Upgrades.{commit-either, either-then}
use Rattle.irtree_engine.proofs.upgrading.commit_carried.Goals.{After-commit_all, In_ok-commit_all, After-settle}
use Rattle.irtree_engine.proofs.upgrading.commit_carried.Given as given
use Rattle.irtree_engine.proofs.upgrading.commit_carried.Goals as goal

-- a crash while the commit is made leaves the state by version 1 or by version 2
committing : (g : given.Over) (c : After-commit_all g) → g.D.Disk.readable ≡ true → (state : states.Contents) → StandsVersion1 (g.D.Disk.world c.args.store.now.disk.now).seen state
    → PagesStand (block_with c.args.store.now.current.counted c.args.store.now.current.first_free c.args.head.now)
    (counted_pages c.args.store.now.current.counted (shown g.D.Disk.readable (applied (g.D.Disk.world c.args.store.now.disk.now).seen) c.args.store.now.overlay)) state
    → LeavesOnly (g.D.Disk.world c.args.store.now.disk.now) (g.D.Disk.world c.commit_all.new.self.disk.now) (LeavesEither state (g.D.Disk.world c.args.store.now.disk.now))
committing g c t state stands stand =
    let store = c.args.store.now in
    let block : Superblock = block_with store.current.counted store.current.first_free c.args.head.now in
    let area = applied (g.D.Disk.world store.disk.now).seen in
    let same : contents_of area c.set_head.new.self.overlay c.set_head.new.self.current ≡ contents_of area store.overlay block =
    λ i. contents_of area (c.set_head.ensures.overlay i) (c.set_head.ensures.current i) in
    commit-either store.last store.end (g.D.Disk.world store.disk.now) (g.D.Disk.world c.commit_all.new.self.disk.now) (contents_of area store.overlay block) state
    (store.ready t c.requires.on) stands (told-stand g.D.Disk.readable area store.overlay block state t stand)
    (subst (λ (contents : Contents). LeavesOnly (g.D.Disk.world store.disk.now) (g.D.Disk.world c.commit_all.new.self.disk.now) (HoldsOneOf (contents_in area) contents (g.D.Disk.world store.disk.now))) same
    (subst (λ disk. LeavesOnly (g.D.Disk.world disk) (g.D.Disk.world c.commit_all.new.self.disk.now) (HoldsOneOf (contents_in (applied (g.D.Disk.world disk).seen)) (contents_of (applied (g.D.Disk.world disk).seen) c.set_head.new.self.overlay c.set_head.new.self.current) (g.D.Disk.world disk))) (λ i. (c.set_head.ensures.disk i).now) (c.commit_all.ensures.any_moment t)))

-- the store goes on after the commit
going : (g : given.Over) (c : In_ok-commit_all g) → c.commit_all.new.self.stopped ≡ false
going g c = c.in_ok-commit_all.ensures.goes_on (λ e. absurd (cc)) ∙ c.set_head.ensures.stopped ∙ c.requires.on

-- after the commit the disk stands for the state
committed : (g : given.Over) (c : In_ok-commit_all g) → g.D.Disk.readable ≡ true → (state : states.Contents)
    → PagesStand (block_with c.args.store.now.current.counted c.args.store.now.current.first_free c.args.head.now)
    (counted_pages c.args.store.now.current.counted (shown g.D.Disk.readable (applied (g.D.Disk.world c.args.store.now.disk.now).seen) c.args.store.now.overlay)) state
    → Stands (g.D.Disk.world c.commit_all.new.self.disk.now).seen state
committed g c t state stand =
    let store = c.args.store.now in
    let block : Superblock = block_with store.current.counted store.current.first_free c.args.head.now in
    let area = applied (g.D.Disk.world store.disk.now).seen in
    let same : contents_of (applied (g.D.Disk.world c.set_head.new.self.disk.now).seen) c.set_head.new.self.overlay c.set_head.new.self.current ≡ contents_of area store.overlay block =
    λ i. contents_of (applied (g.D.Disk.world (c.set_head.ensures.disk i).now).seen) (c.set_head.ensures.overlay i) (c.set_head.ensures.current i) in
    commit-stands _ _ (g.D.Disk.world c.commit_all.new.self.disk.now) (contents_of area store.overlay block) state
    (c.commit_all.new.self.ready t (going g c)) (c.in_ok-commit_all.ensures.committed t ∙ same) (told-stand g.D.Disk.readable area store.overlay block state t stand)

-- a crash while it is brought to its place leaves the same
settling : (g : given.Over) (c : After-settle g) → g.D.Disk.readable ≡ true → (state : states.Contents)
    → LeavesOnly (g.D.Disk.world c.args.store.now.disk.now) (g.D.Disk.world c.commit_all.new.self.disk.now) (LeavesEither state (g.D.Disk.world c.args.store.now.disk.now))
    → Stands (g.D.Disk.world c.commit_all.new.self.disk.now).seen state → c.commit_all.new.self.stopped ≡ false
    → LeavesOnly (g.D.Disk.world c.args.store.now.disk.now) (g.D.Disk.world c.settle.new.self.disk.now) (LeavesEither state (g.D.Disk.world c.args.store.now.disk.now))
settling g c t state first holds on =
    let mid = g.D.Disk.world c.commit_all.new.self.disk.now in
    let quiet = (c.commit_all.ensures.quiet t).said ∙ (λ i. (g.D.Disk.world (c.set_head.ensures.disk i).now).said) in
    either-then (g.D.Disk.world c.args.store.now.disk.now) mid (g.D.Disk.world c.settle.new.self.disk.now) state quiet first
    (settling-leaves mid (g.D.Disk.world c.settle.new.self.disk.now) state holds (c.settle.ensures.any_moment t on))

pub returns-in_err-commit_all-clause-any_moment : goal.returns-in_err-commit_all-clause-any_moment
returns-in_err-commit_all-clause-any_moment g c = committing g (goal.at.returns-in_err-commit_all-clause-any_moment g c).After-commit_all

pub returns-in_err-settle-clause-any_moment : goal.returns-in_err-settle-clause-any_moment
returns-in_err-settle-clause-any_moment g c = λ t state stands stand.
    let at = goal.at.returns-in_err-settle-clause-any_moment g c in
    settling g at.After-settle t state (committing g at.After-commit_all t state stands stand) (committed g at.In_ok-commit_all t state stand) (going g at.In_ok-commit_all)

pub returns-clause-any_moment : goal.returns-clause-any_moment
returns-clause-any_moment g c = λ t state stands stand.
    let at = goal.at.returns-clause-any_moment g c in
    settling g at.After-settle t state (committing g at.After-commit_all t state stands stand) (committed g at.In_ok-commit_all t state stand) (going g at.In_ok-commit_all)

pub returns-clause-stored : goal.returns-clause-stored
returns-clause-stored g c = λ t state stand.
    let at = goal.at.returns-clause-stored g c in
    let on = c.in_ok-settle.ensures.goes_on (λ e. absurd (cc)) ∙ going g at.In_ok-commit_all in
    let ready = (c.settle.new.self.ready t on).ready in
    pages-stand (g.D.Disk.world c.commit_all.new.self.disk.now).seen (g.D.Disk.world c.settle.new.self.disk.now).seen state (ready.journal, sym (c.in_ok-settle.ensures.same t))
    (committed g at.In_ok-commit_all t state stand)
