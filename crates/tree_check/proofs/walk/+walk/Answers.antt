use Rattle.std.proofs.Common.{arith, ◌≡◌, ℕ, suc, ◌-◌, List, Err, sym, ap, ◌∙◌, refl}
use Rattle.page_face.specs.FreeList.{PageMap}
use Rattle.page_face.proofs.Frames.{reads_then}
use Rattle.btree_nodes.proofs.Walks.{same-fault}
use Rattle.page_walks.specs.Met.{held}
use Rattle.page_walks.proofs.Misuses.{same-damage}
use Rattle.page_walks.proofs.Chains.{readable}
use Rattle.rtree_nodes.specs.Slots.{tops}
use Rattle.rtree_nodes.specs.Reach.{child_item, reach_of}
use Rattle.rtree_nodes.specs.Pages.{slots_in}
use Rattle.tree_check.proofs.Slots.{walked-none, walked-more_on, walked-leaf_at, slot-walked, node-walked, node-broken, slots-broken_on, enter-broken, below-broken, rect-broken}
use Rattle.tree_check.proofs.walk.+walk.Goals as goal

pub walk_node-returns-in-Err-walk_slots-clause-damaged : goal.walk_node-returns-in-Err-walk_slots-clause-damaged
walk_node-returns-in-Err-walk_slots-clause-damaged g t c = λ told damage e.
    let p = g.P.Pages in
    node-broken (p.pages c.args.pages.now) (p.count c.args.pages.now) c.args.least c.args.level c.args.page c.args.bytes.now (c.requires.bytes told) (held c.args.met.now)
    damage (c.in-Err-walk_slots.ensures.damaged told damage (ap Err (same-fault _ _ e)))

pub walk_node-returns-in-Ok-push-clause-walked : goal.walk_node-returns-in-Ok-push-clause-walked
walk_node-returns-in-Ok-push-clause-walked g t c = λ told.
    let p = g.P.Pages in
    node-walked (p.pages c.args.pages.now) (p.count c.args.pages.now) c.args.least c.args.level c.args.page c.args.bytes.now (c.requires.bytes told) (held c.args.met.now) (held c.walk_slots.new.met)
    c.args.list.now.items c.walk_slots.new.list.items c.push.new.self.items c.in-Ok.ensures.placed (c.in-Ok-walk_slots.ensures.walked told) c.in-Ok-push.ensures.items

pub walk_slots-returns-then-level-eq0-clause-walked : goal.walk_slots-returns-then-level-eq0-clause-walked
walk_slots-returns-then-level-eq0-clause-walked g t c = λ told.
    let p = g.P.Pages in
    walked-leaf_at (p.pages c.args.pages.now) (p.count c.args.pages.now) c.args.level (slots_in c.args.bytes.now) (held c.args.met.now) c.args.list.now.items c.if-level-eq0.true

pub walk_slots-loop-at-init : goal.walk_slots-loop-at-init
walk_slots-loop-at-init g t c =
    let p = g.P.Pages in
    record {
      frame = record {
        pages = refl;
        count = refl;
        first = refl;
        room = refl;
        faults = omega arith;
        refused = refl;
        goes_on = refl;
        only_reads = g.met.P.Pages.reads_nothing _;
        follows = g.met.P.Pages.stays _;
      };
      faults = refl;
      walked = λ told. walked-none (p.pages c.args.pages.now) (p.count c.args.pages.now) c.args.level (slots_in c.args.bytes.now) (held c.args.met.now) c.args.list.now.items;
    }

pub walk_slots-loop-at-preserved : goal.walk_slots-loop-at-preserved
walk_slots-loop-at-preserved g t c =
    let p = g.P.Pages in
    let f = c.loop-at.invariant.frame in
    record {
      frame = reads_then p g.met.P.Pages.goes_further g.met.P.Pages.reads_further _ _ _ f c.in-Ok.ensures.frame;
      faults = c.in-Ok.ensures.fails.hides_none ∙ c.loop-at.invariant.faults;
      walked = λ told.
          walked-more_on (p.pages c.args.pages.now) (p.pages c.loop-at.pages) (p.count c.args.pages.now) (p.count c.loop-at.pages) f.pages f.count c.args.level (slots_in c.args.bytes.now)
          (held c.args.met.now) (held c.loop-at.met) (held c.walk_slot.new.met) c.args.list.now.items c.loop-at.list.items c.walk_slot.new.list.items c.loop-at.at (c.loop-at.invariant.walked told)
          (c.in-Ok.ensures.walked (readable (p.pages c.args.pages.now) (p.pages c.loop-at.pages) (p.count c.args.pages.now) (p.count c.loop-at.pages) f.pages f.count told));
    }

pub walk_slots-returns-in-Err-clause-damaged : goal.walk_slots-returns-in-Err-clause-damaged
walk_slots-returns-in-Err-clause-damaged g t c = λ told damage e.
    let p = g.P.Pages in
    let f = c.loop-at.invariant.frame in
    slots-broken_on (p.pages c.args.pages.now) (p.pages c.loop-at.pages) (p.count c.args.pages.now) (p.count c.loop-at.pages) f.pages f.count c.args.level c.args.page (slots_in c.args.bytes.now)
    (held c.args.met.now) (held c.loop-at.met) c.args.list.now.items c.loop-at.list.items c.loop-at.at (c.loop-at.invariant.walked told) (omega arith) damage
    (c.in-Err.ensures.damaged (readable (p.pages c.args.pages.now) (p.pages c.loop-at.pages) (p.count c.args.pages.now) (p.count c.loop-at.pages) f.pages f.count told) damage e)

pub walk_slot-returns-in-Err-clause-damaged : goal.walk_slot-returns-in-Err-clause-damaged
walk_slot-returns-in-Err-clause-damaged g t c = λ told damage e.
    let p = g.P.Pages in
    let child = c.in-Some.child in
    let l : ℕ = c.args.level - 1 in
    let up : c.args.level ≡ suc l = let a = c.requires.level in let b = c.requires.inner in omega arith in
    enter-broken (p.pages c.args.pages.now) (p.count c.args.pages.now) c.args.level l c.args.page up (slots_in c.args.bytes.now c.args.at) (child_item child.rect child.page) c.in-Some.ensures
    (held c.args.met.now) damage (c.in-Err.ensures.damaged damage e)

pub walk_slot-returns-in-Err-walk_node-clause-damaged : goal.walk_slot-returns-in-Err-walk_node-clause-damaged
walk_slot-returns-in-Err-walk_node-clause-damaged g t c = λ told damage e.
    let p = g.P.Pages in
    let f = c.in-Ok.ensures.frame in
    let child = c.in-Some.child in
    let l : ℕ = c.args.level - 1 in
    let up : c.args.level ≡ suc l = let a = c.requires.level in let b = c.requires.inner in omega arith in
    below-broken (p.pages c.args.pages.now) (p.pages c.enter.new.pages) (p.count c.args.pages.now) (p.count c.enter.new.pages) f.pages f.count c.args.level l c.args.page up
    (slots_in c.args.bytes.now c.args.at) (child_item child.rect child.page) c.in-Some.ensures (held c.args.met.now) (held c.enter.new.met) c.in-Ok.ensures.met damage
    (c.in-Err-walk_node.ensures.damaged (readable (p.pages c.args.pages.now) (p.pages c.enter.new.pages) (p.count c.args.pages.now) (p.count c.enter.new.pages) f.pages f.count told) damage (ap Err (same-fault _ _ e)))

pub walk_slot-returns-then-is_same-clause-walked : goal.walk_slot-returns-then-is_same-clause-walked
walk_slot-returns-then-is_same-clause-walked g t c = λ told.
    let p = g.P.Pages in
    let f = c.in-Ok.ensures.frame in
    let child = c.in-Some.child in
    let l : ℕ = c.args.level - 1 in
    let up : c.args.level ≡ suc l = let a = c.requires.level in let b = c.requires.inner in omega arith in
    let pages : PageMap = p.pages c.args.pages.now in
    let told' = readable pages (p.pages c.enter.new.pages) (p.count c.args.pages.now) (p.count c.enter.new.pages) f.pages f.count told in
    let inside : c.looked.result.now ≡ pages child.page = c.looked.ensures ∙ c.in-Ok.ensures.looked told in
    slot-walked pages (p.pages c.enter.new.pages) (p.count c.args.pages.now) (p.count c.enter.new.pages) f.pages f.count c.args.level l up
    (slots_in c.args.bytes.now c.args.at) (child_item child.rect child.page) c.in-Some.ensures (held c.args.met.now) (held c.enter.new.met) (held c.walk_node.new.met) c.args.list.now.items c.walk_node.new.list.items
    c.in-Ok.ensures.counted c.in-Ok.ensures.met
    (λ d. ap (λ r. reach_of r d) (c.is_same.ensures.same c.if-is_same.true) ∙ c.in-Ok-walk_node.ensures.rect d ∙ ap (λ (b : List ℕ). tops d (slots_in b)) inside)
    (c.in-Ok-walk_node.ensures.walked told')

pub walk_slot-returns-else-is_same-clause-damaged : goal.walk_slot-returns-else-is_same-clause-damaged
walk_slot-returns-else-is_same-clause-damaged g t c = λ told damage e.
    let p = g.P.Pages in
    let f = c.in-Ok.ensures.frame in
    let child = c.in-Some.child in
    let l : ℕ = c.args.level - 1 in
    let up : c.args.level ≡ suc l = let a = c.requires.level in let b = c.requires.inner in omega arith in
    let pages : PageMap = p.pages c.args.pages.now in
    let told' = readable pages (p.pages c.enter.new.pages) (p.count c.args.pages.now) (p.count c.enter.new.pages) f.pages f.count told in
    let inside : c.looked.result.now ≡ pages child.page = c.looked.ensures ∙ c.in-Ok.ensures.looked told in
    rect-broken pages (p.pages c.enter.new.pages) (p.count c.args.pages.now) (p.count c.enter.new.pages) f.pages f.count c.args.level l c.args.page up
    (slots_in c.args.bytes.now c.args.at) (child_item child.rect child.page) c.in-Some.ensures (held c.args.met.now) (held c.enter.new.met) (held c.walk_node.new.met) c.args.list.now.items c.walk_node.new.list.items
    (c.in-Ok-walk_node.ensures.walked told')
    (λ all. c.is_same.ensures.apart c.if-is_same.false (λ d. all d ∙ sym (c.in-Ok-walk_node.ensures.rect d ∙ ap (λ (b : List ℕ). tops d (slots_in b)) inside)))
    damage (same-damage _ _ (sym c.damaged.ensures ∙ same-fault _ _ e))
