use Rattle.std.proofs.Common.{◌≡◌, ℕ, Option, List, refl, ap, subst, sym, ◌∙◌, rules, arith}
use Rattle.page_journal.specs.Record.{applied, batch_of, given, with_batch}
use Rattle.page_cache.specs.Pages.{first_page, page_in}
use Rattle.page_cache.specs.Rooms.{ordered_page}
use Rattle.page_store.specs.declared.superblock.Superblock.{Superblock}
use Rattle.page_store.specs.Contents.{Overlay, contents_in, shown, counted_pages, IsCommitted}
use Rattle.page_store.proofs.Committed.{says_then}
use Rattle.page_store.proofs.Overlays.{committed_by, committed_contents, committed_pages, commit_leaves, cleared_sized, whole_of}
use Rattle.page_cache.proofs.Sealed.{moved_keeps, true_moved, true_pages}
use Rattle.page_store.proofs.Holds.{cached_later}
use Rattle.page_store.proofs.Kept.{kept_after, images_after}
use Rattle.page_store.proofs.store.Store.commit_all.Goals as goal

pub returns-in_default-append-clause-any_moment : goal.returns-in_default-append-clause-any_moment
returns-in_default-append-clause-any_moment g c = λ t.
    let put = c.in_ok-write.ensures in
    let r = c.in-Ok.ensures.gathered in
    let whole = whole_of c.args.self.now.overlay c.write.new.overlay c.encode.result _ put.sized put.put put.others r in
    commit_leaves c.args.self.now.overlay r.ordered c.args.self.now.current c.args.self.now.last c.encode.result c.args.self.now.end _ (g.D.Disk.world c.make_room.new.self.disk.now) _
    r.ascends whole.sized whole.at_0 c.encode.ensures.block whole.others c.encode.ensures.store c.encode.ensures.version1
    (c.args.self.now.ready t c.if-self.false) (c.make_room.ensures.any_moment t) (c.in_ok-make_room.ensures.same t) (c.make_room.ensures.quiet t).said
    (c.append.ensures.any_moment t (given r.ordered.entries) r.are)

pub returns-in_default-append-clause-quiet : goal.returns-in_default-append-clause-quiet
returns-in_default-append-clause-quiet g c = λ t. says_then (c.make_room.ensures.quiet t) (c.append.ensures.quiet t)

pub returns-clause-quiet : goal.returns-clause-quiet
returns-clause-quiet g c = λ t. says_then (c.make_room.ensures.quiet t) (c.append.ensures.quiet t)

pub invariant_of-self-2 : goal.invariant_of-self-2
invariant_of-self-2 g c =
    let self = c.args.self.now in
    let put = c.in_ok-write.ensures in
    record {
      current_first = self.current_first;
      last_first = self.last_first;
      few = omega (arith, put.few, c.gather.ensures.few);
      sized = λ n page is. put.sized n page (sym (c.gather.ensures.same n) ∙ is);
      in_order = self.in_order;
      bare = self.bare;
      ready = self.ready;
      images = self.images;
      cached = self.cached;
      sealed = true_pages c.write.new.seals c.write.new.overlay c.gather.new.overlay self.journal self.cache c.gather.ensures.same (put.sealed self.journal self.cache self.sealed);
      lies = λ ne. absurd (ne refl);
    }

pub invariant_of-self-3 : goal.invariant_of-self-3
invariant_of-self-3 g c =
    let put = c.in_ok-write.ensures in
    let r = c.in-Ok.ensures.gathered in
    let whole = whole_of c.args.self.now.overlay c.write.new.overlay c.encode.result _ put.sized put.put put.others r in
    let mid = c.make_room.new.self in
    let journal = c.move_all.new.to in
    let keeps = c.move_all.ensures.moved in
    let from_whole : (n : ℕ) → page_in journal n ≡ first_page (ordered_page r.ordered n) (page_in mid.journal n) =
    λ n. keeps n ∙ ap (λ (o : Option (List ℕ)). first_page o (page_in mid.journal n)) (ap (λ (o : Overlay). page_in o n) c.make_room.ensures.overlay ∙ c.gather.ensures.same n ∙ sym (r.same n)) in
    record {
      current_first = mid.current_first;
      last_first = mid.current_first;
      few = search rules;
      sized = cleared_sized c.move_all.new.from c.move_all.ensures.empty;
      in_order = kept_after mid.overlay mid.journal journal mid.rooms mid.sized c.in_ok-make_room.ensures.has_rooms mid.in_order keeps;
      bare = λ on. mid.bare c.in_ok-make_room.ensures.on;
      ready = λ t on. subst (λ (b : Superblock). IsCommitted b c.in-Ok-append.end (g.D.Disk.world c.append.new.disk)) (sym c.make_room.ensures.current)
          (committed_by r.ordered (applied (g.D.Disk.world mid.disk.now).seen) c.args.self.now.current c.encode.result _ _ r.ascends whole.sized whole.at_0 c.encode.ensures.block c.encode.ensures.store c.encode.ensures.version1
          (c.in-Ok-append.ensures.ready t (given r.ordered.entries) r.are) (c.in-Ok-append.ensures.appended t (given r.ordered.entries) r.are));
      images = λ t on. images_after r.ordered mid.journal journal _ _ r.ascends whole.sized from_whole (mid.images t c.in_ok-make_room.ensures.on)
          (c.in-Ok-append.ensures.appended t (given r.ordered.entries) r.are) (c.append.ensures.area t) (c.in-Ok-append.ensures.overwritten t (given r.ordered.entries) r.are);
      cached = λ t on. cached_later mid.journal journal mid.cache _ _ (moved_keeps mid.overlay mid.journal journal keeps) (c.append.ensures.area t) (mid.cached t c.in_ok-make_room.ensures.on);
      sealed = true_moved mid.seals mid.overlay c.move_all.new.from mid.journal journal mid.cache c.move_all.ensures.empty keeps mid.sealed;
      lies = λ ne. absurd (ne refl);
    }

pub returns-clause-any_moment : goal.returns-clause-any_moment
returns-clause-any_moment g c = λ t.
    let put = c.in_ok-write.ensures in
    let r = c.in-Ok.ensures.gathered in
    let whole = whole_of c.args.self.now.overlay c.write.new.overlay c.encode.result _ put.sized put.put put.others r in
    commit_leaves c.args.self.now.overlay r.ordered c.args.self.now.current c.args.self.now.last c.encode.result c.args.self.now.end _ (g.D.Disk.world c.make_room.new.self.disk.now) _
    r.ascends whole.sized whole.at_0 c.encode.ensures.block whole.others c.encode.ensures.store c.encode.ensures.version1
    (c.args.self.now.ready t c.if-self.false) (c.make_room.ensures.any_moment t) (c.in_ok-make_room.ensures.same t) (c.make_room.ensures.quiet t).said
    (c.append.ensures.any_moment t (given r.ordered.entries) r.are)

pub returns-clause-committed : goal.returns-clause-committed
returns-clause-committed g c = λ t.
    let put = c.in_ok-write.ensures in
    let r = c.in-Ok.ensures.gathered in
    let whole = whole_of c.args.self.now.overlay c.write.new.overlay c.encode.result _ put.sized put.put put.others r in
    ap contents_in (c.in-Ok-append.ensures.appended t (given r.ordered.entries) r.are ∙ ap (λ (p : ℕ → ℕ). with_batch (batch_of (given r.ordered.entries)) p) (c.in_ok-make_room.ensures.same t))
    ∙ committed_contents c.args.self.now.overlay r.ordered (applied (g.D.Disk.world c.args.self.now.disk.now).seen) c.args.self.now.current c.encode.result r.ascends whole.sized whole.at_0 c.encode.ensures.block whole.others

pub returns-clause-pages : goal.returns-clause-pages
returns-clause-pages g c = λ t fine.
    let put = c.in_ok-write.ensures in
    let r = c.in-Ok.ensures.gathered in
    let whole = whole_of c.args.self.now.overlay c.write.new.overlay c.encode.result _ put.sized put.put put.others r in
    let cleared = c.move_all.new.from in
    ap (λ (b : Superblock). counted_pages b.counted (shown g.D.Disk.readable (applied (g.D.Disk.world c.append.new.disk).seen) cleared)) c.make_room.ensures.current
    ∙ ap (λ (area : ℕ → ℕ). counted_pages c.args.self.now.current.counted (shown g.D.Disk.readable area cleared))
    (c.in-Ok-append.ensures.appended t (given r.ordered.entries) r.are ∙ ap (λ (p : ℕ → ℕ). with_batch (batch_of (given r.ordered.entries)) p) (c.in_ok-make_room.ensures.same t))
    ∙ committed_pages g.D.Disk.readable cleared c.args.self.now.overlay r.ordered (applied (g.D.Disk.world c.args.self.now.disk.now).seen) c.args.self.now.current.counted t c.move_all.ensures.empty r.ascends whole.sized whole.others
