use Rattle.std.proofs.Common.{◌≡◌, inl, inr, sym, ap, subst, ◌∙◌, arith}
use Rattle.disk_model.specs.World.{LeavesOnly}
use Rattle.page_journal.specs.Record.{applied}
use Rattle.page_face.specs.declared.head.Head.{Head}
use Rattle.page_store.specs.Store.{Rests, rests_still}
use Rattle.page_store.specs.Superblock.{IsInRange}
use Rattle.page_store.specs.declared.superblock.Superblock.{Superblock}
use Rattle.page_store.specs.Contents.{Contents, HoldsOneOf, contents_in, contents_of}
use Rattle.irtree_engine.specs.Changes.{block_with}
use Rattle.irtree_engine.specs.Updates.{LeavesOneOf}
use Rattle.irtree_engine.proofs.Commits.{commit-leaves, commit-stands, told-stand}
use Rattle.irtree_engine.proofs.updating.commit.Goals as goal

pub returns-in-Ok-clause-stored : goal.returns-in-Ok-clause-stored
returns-in-Ok-clause-stored g c = λ t before after holds stand later.
    let store = c.args.store.now in
    let block : Superblock = block_with store.current.counted store.current.first_free c.args.head.now in
    let on : c.commit_all.new.self.stopped ≡ c.set_head.new.self.stopped = c.in-Ok.ensures.goes_on (λ e. absurd (cc)) in
    let area = applied (g.D.Disk.world store.disk.now).seen in
    let same : contents_of (applied (g.D.Disk.world c.set_head.new.self.disk.now).seen) c.set_head.new.self.overlay c.set_head.new.self.current ≡ contents_of area store.overlay block =
    λ i. contents_of (applied (g.D.Disk.world (c.set_head.ensures.disk i).now).seen) (c.set_head.ensures.overlay i) (c.set_head.ensures.current i) in
    commit-stands _ _ (g.D.Disk.world c.commit_all.new.self.disk.now) (contents_of area store.overlay block) after
    (c.commit_all.new.self.ready t (on ∙ c.set_head.ensures.stopped ∙ c.requires.on)) (c.in-Ok.ensures.committed t ∙ same) (told-stand g.D.Disk.readable area store.overlay block after t stand)

pub returns-in-Ok-clause-any_moment : goal.returns-in-Ok-clause-any_moment
returns-in-Ok-clause-any_moment g c = λ t before after holds stand.
    let store = c.args.store.now in
    let block : Superblock = block_with store.current.counted store.current.first_free c.args.head.now in
    let area = applied (g.D.Disk.world store.disk.now).seen in
    let same : contents_of area c.set_head.new.self.overlay c.set_head.new.self.current ≡ contents_of area store.overlay block =
    λ i. contents_of area (c.set_head.ensures.overlay i) (c.set_head.ensures.current i) in
    commit-leaves store.last store.end (g.D.Disk.world store.disk.now) (g.D.Disk.world c.commit_all.new.self.disk.now) (contents_of area store.overlay block) before after
    (store.ready t c.requires.on) holds (told-stand g.D.Disk.readable area store.overlay block after t stand)
    (subst (λ (contents : Contents). LeavesOnly (g.D.Disk.world store.disk.now) (g.D.Disk.world c.commit_all.new.self.disk.now) (HoldsOneOf (contents_in area) contents (g.D.Disk.world store.disk.now))) same
    (subst (λ disk. LeavesOnly (g.D.Disk.world disk) (g.D.Disk.world c.commit_all.new.self.disk.now) (HoldsOneOf (contents_in (applied (g.D.Disk.world disk).seen)) (contents_of (applied (g.D.Disk.world disk).seen) c.set_head.new.self.overlay c.set_head.new.self.current) (g.D.Disk.world disk))) (λ i. (c.set_head.ensures.disk i).now) (c.commit_all.ensures.any_moment t)))

pub returns-in-Err-clause-any_moment : goal.returns-in-Err-clause-any_moment
returns-in-Err-clause-any_moment g c = λ t before after holds stand.
    let store = c.args.store.now in
    let block : Superblock = block_with store.current.counted store.current.first_free c.args.head.now in
    let area = applied (g.D.Disk.world store.disk.now).seen in
    let same : contents_of area c.set_head.new.self.overlay c.set_head.new.self.current ≡ contents_of area store.overlay block =
    λ i. contents_of area (c.set_head.ensures.overlay i) (c.set_head.ensures.current i) in
    subst (λ disk. LeavesOnly (g.D.Disk.world store.disk.now) (g.D.Disk.world disk) (LeavesOneOf before after (g.D.Disk.world store.disk.now))) (λ i. (sym c.abandon-in-Err.ensures.disk i).now)
    (commit-leaves store.last store.end (g.D.Disk.world store.disk.now) (g.D.Disk.world c.commit_all.new.self.disk.now) (contents_of area store.overlay block) before after
    (store.ready t c.requires.on) holds (told-stand g.D.Disk.readable area store.overlay block after t stand)
    (subst (λ (contents : Contents). LeavesOnly (g.D.Disk.world store.disk.now) (g.D.Disk.world c.commit_all.new.self.disk.now) (HoldsOneOf (contents_in area) contents (g.D.Disk.world store.disk.now))) same
    (subst (λ disk. LeavesOnly (g.D.Disk.world disk) (g.D.Disk.world c.commit_all.new.self.disk.now) (HoldsOneOf (contents_in (applied (g.D.Disk.world disk).seen)) (contents_of (applied (g.D.Disk.world disk).seen) c.set_head.new.self.overlay c.set_head.new.self.current) (g.D.Disk.world disk))) (λ i. (c.set_head.ensures.disk i).now) (c.commit_all.ensures.any_moment t))))

pub returns-then-head-clause-new_head : goal.returns-then-head-clause-new_head
returns-then-head-clause-new_head g c = inr (ap (λ (b : Superblock). b.head) c.abandon.ensures.current)

pub returns-in-Ok-clause-new_head : goal.returns-in-Ok-clause-new_head
returns-in-Ok-clause-new_head g c = inl (ap (λ (b : Superblock). b.head) (c.commit_all.ensures.current ∙ c.set_head.ensures.current))

pub returns-in-Err-clause-new_head : goal.returns-in-Err-clause-new_head
returns-in-Err-clause-new_head g c = inr (ap (λ (b : Superblock). b.head) (c.abandon-in-Err.ensures.current ∙ c.in-Err.ensures.kept ∙ c.set_head.ensures.last))

pub returns-then-head-clause-in_range : goal.returns-then-head-clause-in_range
returns-then-head-clause-in_range g c = subst IsInRange (sym c.abandon.ensures.current) c.requires.last

pub returns-in-Ok-clause-in_range : goal.returns-in-Ok-clause-in_range
returns-in-Ok-clause-in_range g c = subst IsInRange (sym (c.commit_all.ensures.current ∙ c.set_head.ensures.current)) c.requires.in_range

pub returns-in-Err-clause-in_range : goal.returns-in-Err-clause-in_range
returns-in-Err-clause-in_range g c = subst IsInRange (sym (c.abandon-in-Err.ensures.current ∙ c.in-Err.ensures.kept ∙ c.set_head.ensures.last)) c.requires.last

-- ---- nothing to commit

pub returns-then-head-clause-idle : goal.returns-then-head-clause-idle
returns-then-head-clause-idle g c = λ t same.
    let old = g.D.Disk.world c.args.store.now.disk.now in
    subst (λ disk. Rests old (g.D.Disk.world disk)) (λ i. (sym c.abandon.ensures.disk i).now) (rests_still old)

pub returns-in-Ok-clause-idle : goal.returns-in-Ok-clause-idle
returns-in-Ok-clause-idle g c = λ t same. absurd (omega (arith, same, c.if-head.false, ap (λ (h : Head). h.number) c.head.ensures))

pub returns-in-Err-clause-idle : goal.returns-in-Err-clause-idle
returns-in-Err-clause-idle g c = λ t same. absurd (omega (arith, same, c.if-head.false, ap (λ (h : Head). h.number) c.head.ensures))
