use Rattle.std.proofs.Common.{length, ◌∙◌, ap, sym, subst, rules}
use Rattle.std.proofs.lemmas.Result.{on_ok_weaker}
use Rattle.disk_model.specs.World.{LeavesOnly}
use Rattle.page_journal.specs.Record.{applied}
use Rattle.page_face.specs.FreeList.{PageMap}
use Rattle.page_face.specs.declared.head.Head.{Head}
use Rattle.page_store.specs.declared.superblock.Superblock.{Superblock}
use Rattle.page_store.specs.Store.{Kept}
use Rattle.page_store.specs.Superblock.{IsInRange}
use Rattle.page_store.specs.Takes.{counts_of}
use Rattle.page_store.specs.Contents.{Overlay, counted_pages, shown}
use Rattle.store_model.specs.Stands.{PagesStand}
use Rattle.irtree_engine.specs.Changes.{AreHeadNumbers, block_with}
use Rattle.irtree_engine.specs.Holding.{HoldsState}
use Rattle.irtree_engine.specs.Updates.{LeavesAllOrNone, most_takes, state_after_all}
use Rattle.irtree_engine.proofs.Batches.{all-rise, leaves-all, outcome-is, outcome-stands}
use Rattle.irtree_engine.proofs.Commits.{rest-leaves, rest-stands}
use Rattle.irtree_engine.proofs.Heads.{head-rises, head-stays, made-from}
use Rattle.irtree_engine.proofs.Standing.{committed-stand, store-told}
use Rattle.irtree_engine.proofs.Takes.{room-left}
use Rattle.irtree_engine.proofs.updating.Engine+D.apply_batch.Goals as goal

pub returns-in-Err-update_all-clause-due : goal.returns-in-Err-update_all-clause-due
returns-in-Err-update_all-clause-due g c = λ t state holds.
    let on = c.begin.ensures.as_before ∙ sym c.args.self.now.stops ∙ c.in-Ok.ensures.on in
    let clean = ap (λ (o : Overlay). o.entries) c.begin.ensures.overlay ∙ c.args.self.now.clean in
    let settled = c.begin.ensures.current ∙ c.args.self.now.settled ∙ sym c.begin.ensures.last in
    let here = subst (λ disk. HoldsState (g.D.Disk.world disk) state) (λ i. (sym c.begin.ensures.disk i).now) holds in
    let store = c.begin.new.store in
    let held : PageMap = counted_pages store.current.counted (shown g.D.Disk.readable (applied (g.D.Disk.world store.disk.now).seen) store.overlay) in
    let committed = committed-stand g.D.Disk.readable (g.D.Disk.world store.disk.now) store.overlay store.current store.last store.end state t clean settled (store.ready t on) here in
    let stand : PagesStand (block_with store.current.counted store.current.first_free c.head-head.result) held state =
    subst (λ (h : Head). PagesStand (block_with store.current.counted store.current.first_free h) held state) (sym c.head-head.ensures) committed in
    c.in-Err-update_all.ensures.due state stand (λ p. store-told g.D.Disk.readable (applied (g.D.Disk.world p.disk.now).seen) p.overlay p.current.counted t p.sized)

pub returns-clause-applied : goal.returns-clause-applied
returns-clause-applied g c = λ t state holds.
    let on = c.begin.ensures.as_before ∙ sym c.args.self.now.stops ∙ c.in-Ok.ensures.on in
    let clean = ap (λ (o : Overlay). o.entries) c.begin.ensures.overlay ∙ c.args.self.now.clean in
    let settled = c.begin.ensures.current ∙ c.args.self.now.settled ∙ sym c.begin.ensures.last in
    let here = subst (λ disk. HoldsState (g.D.Disk.world disk) state) (λ i. (sym c.begin.ensures.disk i).now) holds in
    let store = c.begin.new.store in
    let held : PageMap = counted_pages store.current.counted (shown g.D.Disk.readable (applied (g.D.Disk.world store.disk.now).seen) store.overlay) in
    let committed = committed-stand g.D.Disk.readable (g.D.Disk.world store.disk.now) store.overlay store.current store.last store.end state t clean settled (store.ready t on) here in
    let stand : PagesStand (block_with store.current.counted store.current.first_free c.head-head.result) held state =
    subst (λ (h : Head). PagesStand (block_with store.current.counted store.current.first_free h) held state) (sym c.head-head.ensures) committed in
    let mid = c.update_all.new.pages in
    let rests = c.update_all.ensures.frame.follows.rests t in
    let holds_mid = rest-stands (g.D.Disk.world store.disk.now) (g.D.Disk.world mid.disk.now) state rests here in
    let outcome = outcome-is (state_after_all state c.args.updates.now) (block_with mid.current.counted mid.current.first_free c.update_all.new.head) (counted_pages mid.current.counted (shown g.D.Disk.readable (applied (g.D.Disk.world mid.disk.now).seen) mid.overlay)) (c.in-Ok-update_all.ensures.updated state stand) in
    on_ok_weaker c.commit.result (outcome-stands (state_after_all state c.args.updates.now) outcome.0 (g.D.Disk.world c.commit.new.store.disk.now).seen outcome.1)
    (c.commit.ensures.stored t state outcome.0 holds_mid outcome.2 (all-rise state c.args.updates.now outcome.0 outcome.1).same)

pub returns-clause-any_moment : goal.returns-clause-any_moment
returns-clause-any_moment g c = λ t state holds.
    let on = c.begin.ensures.as_before ∙ sym c.args.self.now.stops ∙ c.in-Ok.ensures.on in
    let clean = ap (λ (o : Overlay). o.entries) c.begin.ensures.overlay ∙ c.args.self.now.clean in
    let settled = c.begin.ensures.current ∙ c.args.self.now.settled ∙ sym c.begin.ensures.last in
    let here = subst (λ disk. HoldsState (g.D.Disk.world disk) state) (λ i. (sym c.begin.ensures.disk i).now) holds in
    let store = c.begin.new.store in
    let held : PageMap = counted_pages store.current.counted (shown g.D.Disk.readable (applied (g.D.Disk.world store.disk.now).seen) store.overlay) in
    let committed = committed-stand g.D.Disk.readable (g.D.Disk.world store.disk.now) store.overlay store.current store.last store.end state t clean settled (store.ready t on) here in
    let stand : PagesStand (block_with store.current.counted store.current.first_free c.head-head.result) held state =
    subst (λ (h : Head). PagesStand (block_with store.current.counted store.current.first_free h) held state) (sym c.head-head.ensures) committed in
    let mid = c.update_all.new.pages in
    let rests = c.update_all.ensures.frame.follows.rests t in
    let holds_mid = rest-stands (g.D.Disk.world store.disk.now) (g.D.Disk.world mid.disk.now) state rests here in
    let outcome = outcome-is (state_after_all state c.args.updates.now) (block_with mid.current.counted mid.current.first_free c.update_all.new.head) (counted_pages mid.current.counted (shown g.D.Disk.readable (applied (g.D.Disk.world mid.disk.now).seen) mid.overlay)) (c.in-Ok-update_all.ensures.updated state stand) in
    subst (λ disk. LeavesOnly (g.D.Disk.world disk) (g.D.Disk.world c.commit.new.store.disk.now) (LeavesAllOrNone state c.args.updates.now (g.D.Disk.world disk))) (λ i. (c.begin.ensures.disk i).now)
    (leaves-all (g.D.Disk.world store.disk.now) (g.D.Disk.world c.commit.new.store.disk.now) state c.args.updates.now outcome.0 outcome.1
    (rest-leaves (g.D.Disk.world store.disk.now) (g.D.Disk.world mid.disk.now) (g.D.Disk.world c.commit.new.store.disk.now) state outcome.0 rests
    (c.commit.ensures.any_moment t state outcome.0 holds_mid outcome.2)))

pub returns-in-Err-clause-rises : goal.returns-in-Err-clause-rises
returns-in-Err-clause-rises g c =
    let both = head-stays (length c.args.updates.now) _ _ (ap (λ (b : Superblock). b.head) c.begin.ensures.current) in
    record { live = both.0; number = both.1 }

pub returns-in-Err-update_all-clause-rises : goal.returns-in-Err-update_all-clause-rises
returns-in-Err-update_all-clause-rises g c =
    let last = ap (λ (k : Kept). k.last) c.update_all.ensures.frame.follows.kept ∙ c.begin.ensures.last ∙ sym c.args.self.now.settled in
    let both = head-stays (length c.args.updates.now) _ _ (ap (λ (b : Superblock). b.head) (c.abandon.ensures.current ∙ last)) in
    record { live = both.0; number = both.1 }

pub returns-clause-rises : goal.returns-clause-rises
returns-clause-rises g c =
    let last = ap (λ (k : Kept). k.last) c.update_all.ensures.frame.follows.kept ∙ c.begin.ensures.last ∙ sym c.args.self.now.settled in
    let from = c.head-head.ensures ∙ ap (λ (b : Superblock). b.head) c.begin.ensures.current in
    let old = c.args.self.now.store.current.head in
    let within = made-from (length c.args.updates.now) old c.head-head.result c.update_all.new.head from c.update_all.ensures.one_more_each in
    let both = head-rises (length c.args.updates.now) old c.update_all.new.pages.last.head c.update_all.new.head c.commit.new.store.current.head (ap (λ (b : Superblock). b.head) last) within c.commit.ensures.new_head in
    record { live = both.0; number = both.1 }

pub update_all-requires-clause-numbers : goal.update_all-requires-clause-numbers
update_all-requires-clause-numbers g c = subst AreHeadNumbers (sym (c.head-head.ensures ∙ ap (λ (b : Superblock). b.head) c.begin.ensures.current)) c.args.self.now.numbers

pub returns-in-Err-update_all-clause-fails : goal.returns-in-Err-update_all-clause-fails
returns-in-Err-update_all-clause-fails g c =
    let old = c.args.self.now.store in
    let allowed = c.begin.new.store in
    let mid = c.update_all.new.pages in
    record {
      causes = search rules;
      stopped = search rules;
      emptied = search rules;
      disk = search rules;
      stays = search rules;
      no_head = λ t damage is. c.in-Err-update_all.ensures.no_head (λ p. store-told g.D.Disk.readable (applied (g.D.Disk.world p.disk.now).seen) p.overlay p.current.counted t p.sized) damage is;
      no_room = search rules;
      room_left = λ is. room-left (g.D.Disk.room_of old.disk.now) old.current.counted old.refused (most_takes (length c.args.updates.now) old.current.counted) (g.D.Disk.room_of allowed.disk.now)
          (counts_of allowed.current.counted allowed.takes_left allowed.refused) (counts_of mid.current.counted mid.takes_left mid.refused)
          (λ i. g.D.Disk.room_of (c.begin.ensures.disk i).now) (λ i. (c.begin.ensures.current i).counted) c.begin.ensures.refused c.in-Ok.ensures.takes
          c.update_all.ensures.frame.follows.takes c.in-Ok.ensures.counts (c.in-Err-update_all.ensures.fails.full is);
      free_left = search rules;
    }

pub returns-in-Err-update_all-clause-refused : goal.returns-in-Err-update_all-clause-refused
returns-in-Err-update_all-clause-refused g c = record {
  goes_on = search rules;
  rests = search rules;
  as_before = λ is. c.abandon.ensures.current ∙ ap (λ (k : Kept). k.last) c.update_all.ensures.frame.follows.kept ∙ c.begin.ensures.last ∙ sym c.args.self.now.settled;
}

pub commit-requires-clause-last : goal.commit-requires-clause-last
commit-requires-clause-last g c =
    let last = ap (λ (k : Kept). k.last) c.update_all.ensures.frame.follows.kept ∙ c.begin.ensures.last ∙ sym c.args.self.now.settled in
    subst IsInRange (sym last) c.args.self.now.in_range

pub commit-requires-clause-in_range : goal.commit-requires-clause-in_range
commit-requires-clause-in_range g c = c.in-Ok-update_all.ensures.in_range
