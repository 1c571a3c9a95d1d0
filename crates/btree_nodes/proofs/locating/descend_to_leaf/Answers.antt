use Rattle.std.proofs.Common.{arith, ◌≡◌, ◌-◌, ◌<◌, ℕ, ◌∙◌, sym, ap, List, subst, refl, ◌++◌, ◌∷◌, [], Err, length}
use Rattle.page_face.specs.FreeList.{PageMap}
use Rattle.page_face.specs.Causes.{IsUncounted, asked_after}
use Rattle.page_face.specs.Number.{number}
use Rattle.page_face.proofs.Frames.{reads_then}
use Rattle.btree_nodes.specs.Bounds.{upper_of}
use Rattle.btree_nodes.specs.Damages.{AskedSince}
use Rattle.btree_nodes.specs.Nodes.{rows_in}
use Rattle.btree_nodes.specs.Rows.{IsWithin}
use Rattle.btree_nodes.proofs.Walks.{same-fault}
use Rattle.btree_nodes.specs.Steps.{low_of, high_of}
use Rattle.btree_nodes.specs.declared.locating.Leaf.{Leaf}
use Rattle.btree_nodes.proofs.Descents.{descends-start, descends-step, damaged-link, named-link, own-link, leaf-lies, leaf-read, leaf-way}
use Rattle.btree_nodes.proofs.locating.descend_to_leaf.Goals as goal

pub down-init : goal.down-init
down-init g c = record {
  descends = descends-start c.args.form (g.P.Pages.pages c.args.pages.now) (g.P.Pages.count c.args.pages.now) (number c.args.key.now) c.args.least c.args.level c.args.page
      (low_of c.args.form c.args.bounds.now) (high_of c.args.form c.args.bounds.now) (g.P.Pages.looked c.args.pages.now) (g.P.Pages.asked c.args.pages.now) c.requires.least c.requires.counted c.requires.from c.requires.to;
  top = c.requires.top;
  frame = record {
    pages = refl;
    count = refl;
    first = refl;
    room = refl;
    faults = omega arith;
    refused = refl;
    goes_on = refl;
    only_reads = g.met.P.Pages.reads_nothing c.args.pages.now;
    follows = g.met.P.Pages.stays c.args.pages.now;
  };
  faults = refl;
}

pub returns-in-Err-look-clause-damaged : goal.returns-in-Err-look-clause-damaged
returns-in-Err-look-clause-damaged g c = λ told is damage e.
    let m = reads_then g.P.Pages g.met.P.Pages.goes_further g.met.P.Pages.reads_further _ _ _ c.down.invariant.frame c.in-Ok.ensures.frame in
    let d = c.look.ensures.damaged damage (c.in-Err-look.is ∙ ap Err (same-fault {T = Leaf} _ _ e)) in
    damaged-link c.down.invariant.descends (c.down.height - 1) (omega arith) c.in-Ok.ensures.steps damage is told d.0 (subst (λ (n : ℕ). IsUncounted n c.in-Ok.child) m.count d.1)

pub returns-in-Err-look-clause-named : goal.returns-in-Err-look-clause-named
returns-in-Err-look-clause-named g c = λ before asked damage e.
    let was = c.in-Err-look.is ∙ ap Err (same-fault {T = Leaf} _ _ e) in
    let d = c.look.ensures.damaged damage was in
    named-link c.down.invariant.descends (c.down.height - 1) (omega arith) c.in-Ok.ensures.steps c.look.result _ before damage asked (c.look.ensures.asked ∙ ap (asked_after c.look.result c.in-Ok.child) c.in-Ok.ensures.asked) was d.0

pub returns-in-Err-look-clause-own : goal.returns-in-Err-look-clause-own
returns-in-Err-look-clause-own g c = λ before asked told is.
    own-link c.down.invariant.descends (c.down.height - 1) (omega arith) c.in-Ok.ensures.steps c.look.result _ before asked is told (c.look.ensures.asked ∙ ap (asked_after c.look.result c.in-Ok.child) c.in-Ok.ensures.asked)

pub returns-in-Err-look-clause-frame : goal.returns-in-Err-look-clause-frame
returns-in-Err-look-clause-frame g c =
    let further = g.met.P.Pages.goes_further in
    let more = g.met.P.Pages.reads_further in
    let m = reads_then g.P.Pages further more _ _ _ c.down.invariant.frame c.in-Ok.ensures.frame in
    reads_then g.P.Pages further more _ _ _ m (let f = c.look.ensures in
    record { pages = f.pages; count = f.count; first = f.first; room = f.room; faults = f.faults; refused = f.refused; goes_on = f.goes_on; only_reads = f.only_reads; follows = f.follows })

pub down-preserved : goal.down-preserved
down-preserved g c =
    let further = g.met.P.Pages.goes_further in
    let more = g.met.P.Pages.reads_further in
    let m = reads_then g.P.Pages further more _ _ _ c.down.invariant.frame c.in-Ok.ensures.frame in
    record {
      descends = descends-step c.down.invariant.descends (c.down.height - 1) (omega arith) c.in-Ok.ensures.steps c.least_at-fill.result _ _ c.in-Ok.ensures.sound c.in-Ok.ensures.order c.least_at-fill.ensures.is c.least_at-fill.ensures.some
          (subst (λ (x : PageMap). 0 < length (x c.in-Ok.child) → g.P.Pages.looked c.look.new.self ≡ x c.in-Ok.child) m.pages c.in-Ok-look.ensures.gives)
          (λ u. let f = c.in-Ok-look.ensures.uncounted (subst (λ (n : ℕ). IsUncounted n c.in-Ok.child) (sym m.count) u) in cc)
          (c.in-Ok-look.ensures.asked ∙ ap (λ (x : List ℕ). x ++ c.in-Ok.child ∷ []) c.in-Ok.ensures.asked);
      top = c.step_down.ensures.top;
      frame = reads_then g.P.Pages further more _ _ _ m (let f = c.look.ensures in
          record { pages = f.pages; count = f.count; first = f.first; room = f.room; faults = f.faults; refused = f.refused; goes_on = f.goes_on; only_reads = f.only_reads; follows = f.follows });
      faults = c.in-Ok-look.ensures.hides_none ∙ c.in-Ok.ensures.faults ∙ c.down.invariant.faults;
    }

pub returns-in-Ok-leaf_count-clause-located : goal.returns-in-Ok-leaf_count-clause-located
returns-in-Ok-leaf_count-clause-located g c = λ is tree.
    let l = leaf-lies c.down.invariant.descends (omega arith) is tree in
    (c.leaf_count.ensures.looked ∙ l.0, l.1)

pub returns-in-Ok-leaf_count-clause-read : goal.returns-in-Ok-leaf_count-clause-read
returns-in-Ok-leaf_count-clause-read g c = λ before asked told is.
    let l = leaf-read c.down.invariant.descends before asked is told in
    (subst (λ (x : List ℕ). AskedSince before x c.down.here) (sym c.leaf_count.ensures.asked) l.0, c.leaf_count.ensures.looked ∙ l.1)

pub returns-in-Ok-leaf_count-clause-way : goal.returns-in-Ok-leaf_count-clause-way
returns-in-Ok-leaf_count-clause-way g c = λ told is.
    let rows = rows_in c.args.form (g.P.Pages.looked c.down.pages) in
    leaf-way c.down.invariant.descends (omega arith) is told c.in-Ok-leaf_count.ensures.sound
    (subst (λ (x : List ℕ). IsWithin (number x) (high_of c.args.form c.down.bounds) rows) c.low.ensures.is
    (subst (λ (x : List ℕ). IsWithin (number c.low.result.now) (upper_of c.args.form.key x) rows) c.high.ensures.is c.in-Ok-leaf_count.ensures.order))
