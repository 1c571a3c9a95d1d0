use Rattle.std.proofs.Common.{◌≡◌, ◌∙◌, ap, sym, subst, rules}
use Rattle.disk_model.specs.World.{LeavesOnly}
use Rattle.page_journal.specs.Record.{applied}
use Rattle.page_face.specs.FreeList.{PageMap}
use Rattle.page_face.specs.declared.head.Head.{Head}
use Rattle.page_store.specs.declared.superblock.Superblock.{Superblock}
use Rattle.page_store.specs.Store.{Kept, Rests, rests_then}
use Rattle.page_store.specs.Superblock.{IsInRange}
use Rattle.page_store.specs.Takes.{counts_of}
use Rattle.page_store.specs.Contents.{Overlay, counted_pages, shown}
use Rattle.place_values.specs.Update.{effect_of}
use Rattle.store_model.specs.Stands.{PagesStand}
use Rattle.irtree_engine.specs.Changes.{AreHeadNumbers, block_with}
use Rattle.irtree_engine.specs.Holding.{HoldsState}
use Rattle.irtree_engine.specs.Updates.{LeavesOneOf, most_takes}
use Rattle.irtree_engine.proofs.Batches.{effect-rises}
use Rattle.irtree_engine.proofs.Commits.{rest-leaves, rest-stands}
use Rattle.irtree_engine.proofs.Heads.{head-rises, head-stays, made-from}
use Rattle.irtree_engine.proofs.Standing.{committed-stand, store-told}
use Rattle.irtree_engine.proofs.Takes.{room-left}
use Rattle.irtree_engine.proofs.updating.Engine+D.apply.Goals as goal

pub returns-in-Err-update-clause-due : goal.returns-in-Err-update-clause-due
returns-in-Err-update-clause-due g c = λ t state holds.
    let on = c.begin.ensures.as_before ∙ sym c.args.self.now.stops ∙ c.in-Ok.ensures.on in
    let clean = ap (λ (o : Overlay). o.entries) c.begin.ensures.overlay ∙ c.args.self.now.clean in
    let settled = c.begin.ensures.current ∙ c.args.self.now.settled ∙ sym c.begin.ensures.last in
    let here = subst (λ disk. HoldsState (g.D.Disk.world disk) state) (λ i. (sym c.begin.ensures.disk i).now) holds in
    let store = c.begin.new.store in
    let held : PageMap = counted_pages store.current.counted (shown g.D.Disk.readable (applied (g.D.Disk.world store.disk.now).seen) store.overlay) in
    let committed = committed-stand g.D.Disk.readable (g.D.Disk.world store.disk.now) store.overlay store.current store.last store.end state t clean settled (store.ready t on) here in
    let stand : PagesStand (block_with store.current.counted store.current.first_free c.head-head.result) held state =
    subst (λ (h : Head). PagesStand (block_with store.current.counted store.current.first_free h) held state) (sym c.head-head.ensures) committed in
    c.in-Err-update.ensures.due state stand (store-told g.D.Disk.readable (applied (g.D.Disk.world store.disk.now).seen) store.overlay store.current.counted t store.sized)

pub returns-in-Ok-commit-clause-applied : goal.returns-in-Ok-commit-clause-applied
returns-in-Ok-commit-clause-applied g c = λ t state holds.
    let on = c.begin.ensures.as_before ∙ sym c.args.self.now.stops ∙ c.in-Ok.ensures.on in
    let clean = ap (λ (o : Overlay). o.entries) c.begin.ensures.overlay ∙ c.args.self.now.clean in
    let settled = c.begin.ensures.current ∙ c.args.self.now.settled ∙ sym c.begin.ensures.last in
    let here = subst (λ disk. HoldsState (g.D.Disk.world disk) state) (λ i. (sym c.begin.ensures.disk i).now) holds in
    let store = c.begin.new.store in
    let held : PageMap = counted_pages store.current.counted (shown g.D.Disk.readable (applied (g.D.Disk.world store.disk.now).seen) store.overlay) in
    let committed = committed-stand g.D.Disk.readable (g.D.Disk.world store.disk.now) store.overlay store.current store.last store.end state t clean settled (store.ready t on) here in
    let stand : PagesStand (block_with store.current.counted store.current.first_free c.head-head.result) held state =
    subst (λ (h : Head). PagesStand (block_with store.current.counted store.current.first_free h) held state) (sym c.head-head.ensures) committed in
    let mid = c.update.new.pages in
    let rests = c.update.ensures.frame.follows.rests t in
    let holds_mid = rest-stands (g.D.Disk.world store.disk.now) (g.D.Disk.world mid.disk.now) state rests here in
    let updated = c.in-Ok-update.ensures.updated state stand in
    (updated.0, c.in-Ok-commit.ensures.stored t state (effect_of state c.args.update.now).state holds_mid updated.1 (effect-rises state c.args.update.now).same)

pub returns-in-Ok-commit-clause-any_moment : goal.returns-in-Ok-commit-clause-any_moment
returns-in-Ok-commit-clause-any_moment g c = λ t state holds.
    let on = c.begin.ensures.as_before ∙ sym c.args.self.now.stops ∙ c.in-Ok.ensures.on in
    let clean = ap (λ (o : Overlay). o.entries) c.begin.ensures.overlay ∙ c.args.self.now.clean in
    let settled = c.begin.ensures.current ∙ c.args.self.now.settled ∙ sym c.begin.ensures.last in
    let here = subst (λ disk. HoldsState (g.D.Disk.world disk) state) (λ i. (sym c.begin.ensures.disk i).now) holds in
    let store = c.begin.new.store in
    let held : PageMap = counted_pages store.current.counted (shown g.D.Disk.readable (applied (g.D.Disk.world store.disk.now).seen) store.overlay) in
    let committed = committed-stand g.D.Disk.readable (g.D.Disk.world store.disk.now) store.overlay store.current store.last store.end state t clean settled (store.ready t on) here in
    let stand : PagesStand (block_with store.current.counted store.current.first_free c.head-head.result) held state =
    subst (λ (h : Head). PagesStand (block_with store.current.counted store.current.first_free h) held state) (sym c.head-head.ensures) committed in
    let mid = c.update.new.pages in
    let rests = c.update.ensures.frame.follows.rests t in
    let holds_mid = rest-stands (g.D.Disk.world store.disk.now) (g.D.Disk.world mid.disk.now) state rests here in
    let updated = c.in-Ok-update.ensures.updated state stand in
    subst (λ disk. LeavesOnly (g.D.Disk.world disk) (g.D.Disk.world c.commit.new.store.disk.now) (LeavesOneOf state (effect_of state c.args.update.now).state (g.D.Disk.world disk))) (λ i. (c.begin.ensures.disk i).now)
    (rest-leaves (g.D.Disk.world store.disk.now) (g.D.Disk.world mid.disk.now) (g.D.Disk.world c.commit.new.store.disk.now) state (effect_of state c.args.update.now).state rests
    (c.commit.ensures.any_moment t state (effect_of state c.args.update.now).state holds_mid updated.1))

pub returns-in-Err-commit-clause-any_moment : goal.returns-in-Err-commit-clause-any_moment
returns-in-Err-commit-clause-any_moment g c = λ t state holds.
    let on = c.begin.ensures.as_before ∙ sym c.args.self.now.stops ∙ c.in-Ok.ensures.on in
    let clean = ap (λ (o : Overlay). o.entries) c.begin.ensures.overlay ∙ c.args.self.now.clean in
    let settled = c.begin.ensures.current ∙ c.args.self.now.settled ∙ sym c.begin.ensures.last in
    let here = subst (λ disk. HoldsState (g.D.Disk.world disk) state) (λ i. (sym c.begin.ensures.disk i).now) holds in
    let store = c.begin.new.store in
    let held : PageMap = counted_pages store.current.counted (shown g.D.Disk.readable (applied (g.D.Disk.world store.disk.now).seen) store.overlay) in
    let committed = committed-stand g.D.Disk.readable (g.D.Disk.world store.disk.now) store.overlay store.current store.last store.end state t clean settled (store.ready t on) here in
    let stand : PagesStand (block_with store.current.counted store.current.first_free c.head-head.result) held state =
    subst (λ (h : Head). PagesStand (block_with store.current.counted store.current.first_free h) held state) (sym c.head-head.ensures) committed in
    let mid = c.update.new.pages in
    let rests = c.update.ensures.frame.follows.rests t in
    let holds_mid = rest-stands (g.D.Disk.world store.disk.now) (g.D.Disk.world mid.disk.now) state rests here in
    let updated = c.in-Ok-update.ensures.updated state stand in
    subst (λ disk. LeavesOnly (g.D.Disk.world disk) (g.D.Disk.world c.commit.new.store.disk.now) (LeavesOneOf state (effect_of state c.args.update.now).state (g.D.Disk.world disk))) (λ i. (c.begin.ensures.disk i).now)
    (rest-leaves (g.D.Disk.world store.disk.now) (g.D.Disk.world mid.disk.now) (g.D.Disk.world c.commit.new.store.disk.now) state (effect_of state c.args.update.now).state rests
    (c.commit.ensures.any_moment t state (effect_of state c.args.update.now).state holds_mid updated.1))

pub returns-in-Err-clause-rises : goal.returns-in-Err-clause-rises
returns-in-Err-clause-rises g c =
    let both = head-stays 1 _ _ (ap (λ (b : Superblock). b.head) c.begin.ensures.current) in
    record { live = both.0; number = both.1 }

pub returns-in-Err-update-clause-rises : goal.returns-in-Err-update-clause-rises
returns-in-Err-update-clause-rises g c =
    let last = ap (λ (k : Kept). k.last) c.update.ensures.frame.follows.kept ∙ c.begin.ensures.last ∙ sym c.args.self.now.settled in
    let both = head-stays 1 _ _ (ap (λ (b : Superblock). b.head) (c.abandon.ensures.current ∙ last)) in
    record { live = both.0; number = both.1 }

pub returns-in-Ok-commit-clause-rises : goal.returns-in-Ok-commit-clause-rises
returns-in-Ok-commit-clause-rises g c =
    let last = ap (λ (k : Kept). k.last) c.update.ensures.frame.follows.kept ∙ c.begin.ensures.last ∙ sym c.args.self.now.settled in
    let from = c.head-head.ensures ∙ ap (λ (b : Superblock). b.head) c.begin.ensures.current in
    let old = c.args.self.now.store.current.head in
    let within = made-from 1 old c.head-head.result c.update.new.head from c.update.ensures.one_more in
    let both = head-rises 1 old c.update.new.pages.last.head c.update.new.head c.commit.new.store.current.head (ap (λ (b : Superblock). b.head) last) within c.commit.ensures.new_head in
    record { live = both.0; number = both.1 }

pub returns-in-Err-commit-clause-rises : goal.returns-in-Err-commit-clause-rises
returns-in-Err-commit-clause-rises g c =
    let last = ap (λ (k : Kept). k.last) c.update.ensures.frame.follows.kept ∙ c.begin.ensures.last ∙ sym c.args.self.now.settled in
    let from = c.head-head.ensures ∙ ap (λ (b : Superblock). b.head) c.begin.ensures.current in
    let old = c.args.self.now.store.current.head in
    let within = made-from 1 old c.head-head.result c.update.new.head from c.update.ensures.one_more in
    let both = head-rises 1 old c.update.new.pages.last.head c.update.new.head c.commit.new.store.current.head (ap (λ (b : Superblock). b.head) last) within c.commit.ensures.new_head in
    record { live = both.0; number = both.1 }

pub update-requires-clause-numbers : goal.update-requires-clause-numbers
update-requires-clause-numbers g c = subst AreHeadNumbers (sym (c.head-head.ensures ∙ ap (λ (b : Superblock). b.head) c.begin.ensures.current)) c.args.self.now.numbers

pub returns-in-Err-update-clause-fails : goal.returns-in-Err-update-clause-fails
returns-in-Err-update-clause-fails g c =
    let old = c.args.self.now.store in
    let allowed = c.begin.new.store in
    let mid = c.update.new.pages in
    record {
      causes = search rules;
      stopped = search rules;
      emptied = search rules;
      disk = search rules;
      stays = search rules;
      no_head = λ t damage is. c.in-Err-update.ensures.no_head (λ p. store-told g.D.Disk.readable (applied (g.D.Disk.world p.disk.now).seen) p.overlay p.current.counted t p.sized) damage is;
      no_room = search rules;
      room_left = λ is. room-left (g.D.Disk.room_of old.disk.now) old.current.counted old.refused (most_takes 1 old.current.counted) (g.D.Disk.room_of allowed.disk.now)
          (counts_of allowed.current.counted allowed.takes_left allowed.refused) (counts_of mid.current.counted mid.takes_left mid.refused)
          (λ i. g.D.Disk.room_of (c.begin.ensures.disk i).now) (λ i. (c.begin.ensures.current i).counted) c.begin.ensures.refused c.in-Ok.ensures.takes
          c.update.ensures.frame.follows.takes c.in-Ok.ensures.counts (c.in-Err-update.ensures.fails.full is);
      free_left = search rules;
    }

pub returns-in-Err-update-clause-refused : goal.returns-in-Err-update-clause-refused
returns-in-Err-update-clause-refused g c = record {
  goes_on = search rules;
  rests = search rules;
  as_before = λ is. c.abandon.ensures.current ∙ ap (λ (k : Kept). k.last) c.update.ensures.frame.follows.kept ∙ c.begin.ensures.last ∙ sym c.args.self.now.settled;
}

pub returns-in-Ok-commit-clause-absent : goal.returns-in-Ok-commit-clause-absent
returns-in-Ok-commit-clause-absent g c = λ t is.
    let new = g.D.Disk.world c.commit.new.store.disk.now in
    let follows = c.update.ensures.frame.follows in
    let same : c.update.new.head ≡ c.update.new.pages.current.head = c.in-Ok-update.ensures.absent is ∙ c.head-head.ensures ∙ ap (λ (k : Kept). k.head) (sym follows.kept) in
    subst (λ disk. Rests (g.D.Disk.world disk) new) (λ i. (c.begin.ensures.disk i).now)
    (rests_then (follows.rests t) (c.commit.ensures.idle t (ap (λ (h : Head). h.number) same)))

pub commit-requires-clause-last : goal.commit-requires-clause-last
commit-requires-clause-last g c =
    let last = ap (λ (k : Kept). k.last) c.update.ensures.frame.follows.kept ∙ c.begin.ensures.last ∙ sym c.args.self.now.settled in
    subst IsInRange (sym last) c.args.self.now.in_range

pub commit-requires-clause-in_range : goal.commit-requires-clause-in_range
commit-requires-clause-in_range g c = c.in-Ok-update.ensures.in_range
