use Rattle.std.proofs.Common.{◌≡◌, ℕ, suc, ◌-◌, ◌<◌, List, length, Some, None, Err, Bool, arith, refl, sym, ap, ◌∙◌, subst, slice_index_or, get_or-set_same, get_or-set_other, below_more}
use Rattle.std.specs.Prelude.{◌≢◌, slice_set}
use Rattle.page_face.specs.FreeList.{PageMap}
use Rattle.page_face.specs.Calls.{Reads}
use Rattle.page_face.specs.declared.fault.Damage.{Damage}
use Rattle.page_face.specs.declared.fault.PageFault.TheVariants.{Damaged}
use Rattle.page_face.proofs.Frames.{reads_then}
use Rattle.btree_nodes.specs.Damages.{AreReadable, AskedSince, AsksOnly}
use Rattle.btree_nodes.proofs.Harms.{asked-from, asks-further}
use Rattle.btree_nodes.proofs.Walks.{same-fault}
use Rattle.rtree_nodes.specs.Slots.{NodeMap, IsChildAt, got}
use Rattle.rtree_nodes.specs.Trees.{below, node_below}
use Rattle.rtree_nodes.specs.Made.{nodes_in}
use Rattle.rtree_nodes.specs.Loose.{Leads}
use Rattle.rtree_nodes.specs.Pages.{level_in, is_form, stored_in, node_of}
use Rattle.rtree_nodes.specs.Reach.{place_item}
use Rattle.rtree_nodes.specs.Entries.{is_entry, IsRound}
use Rattle.rtree_nodes.specs.Subtrees.{IsNodeAt, AreCounted, Finds}
use Rattle.rtree_nodes.specs.Harms.{BreaksPlace, IsHarm}
use Rattle.rtree_nodes.specs.Ways.{IsWay}
use Rattle.rtree_nodes.proofs.Subtrees.{node-read, place-fine, page-counted, leaf-finds, node-absent, passed-short, child-here, child-node, child-counted, child-leads, passed-child}
use Rattle.rtree_nodes.proofs.Rounds.{no-child}
use Rattle.rtree_nodes.proofs.Harms.{harm-child}
use Rattle.rtree_nodes.proofs.Ways.{way-leaf, way-child}
use Rattle.rtree_nodes.proofs.finding.+seek.Goals as goal
use Rattle.rtree_nodes.proofs.finding.+seek.Goals.{in-Some+in-Ok-enter_child+in-Ok-false, in_default}

pub returns-then-level-eq0-clause-finds : goal.returns-then-level-eq0-clause-finds
returns-then-level-eq0-clause-finds g t c = λ is node.
    let old : PageMap = g.P.Pages.pages c.args.pages.now in
    let nodes : NodeMap = nodes_in node_of old in
    let page : ℕ = c.args.page in
    let bytes : List ℕ = c.looked.result.now in
    let r = node-read old c.args.level page node in
    let leaf : level_in bytes ≡ 0 = ap level_in c.looked.ensures ∙ sym c.requires.level ∙ c.if-level-eq0.true in
    let slots : (nodes page).slots ≡ stored_in bytes = r.slots ∙ ap stored_in (sym (c.looked.ensures ∙ is)) in
    subst (λ (k : ℕ). Finds nodes k page c.args.point.now c.args.key.now c.seek_in_leaf.new.path c.seek_in_leaf.result) (sym c.if-level-eq0.true)
    (leaf-finds nodes page (stored_in bytes) c.args.point.now c.args.key.now c.seek_in_leaf.new.path c.seek_in_leaf.result slots (c.seek_in_leaf.ensures.found leaf) (c.seek_in_leaf.ensures.absent leaf))

pub returns-in-Err-clause-no_false_damage : goal.returns-in-Err-clause-no_false_damage
returns-in-Err-clause-no_false_damage g t c = λ is node counted damage e.
    let old : PageMap = g.P.Pages.pages c.args.pages.now in
    let r = node-read old c.args.level c.args.page node in
    let k = c.in-Err.ensures.ok (ap is_form (c.looked-2.ensures ∙ is) ∙ r.form) in
    absurd (cc)

pub returns-in-Err-enter_child-clause-no_false_damage : goal.returns-in-Err-enter_child-clause-no_false_damage
returns-in-Err-enter_child-clause-no_false_damage g t c = λ is node counted damage e.
    let old : PageMap = g.P.Pages.pages c.args.pages.now in
    let count : ℕ = g.P.Pages.count c.args.pages.now in
    let nodes : NodeMap = nodes_in node_of old in
    let level : ℕ = c.args.level in
    let l : ℕ = level - 1 in
    let up : level ≡ suc l = omega arith in
    let page : ℕ = c.args.page in
    let at : ℕ = c.loop-at.at in
    let child : ℕ = c.in-Some.child in
    let within : at < 32 = omega arith in
    let bytes : List ℕ = c.looked-2.result.now in
    let inner : 0 < level_in bytes = let a : level ≡ level_in bytes = c.requires.level ∙ ap level_in (sym c.looked-2.ensures) in omega arith in
    let there = child-here old level page at child c.args.point.now bytes (slice_index_or c.in-Ok.children at None) (c.looked-2.ensures ∙ is) node (c.in-Ok.ensures.round inner at within) c.in-Some.is in
    let m = c.loop-at.invariant.frame in
    let d = c.enter_child.ensures.damaged damage (c.in-Err-enter_child.is ∙ ap Err (same-fault {T = Bool} _ _ e)) in
    let broken : BreaksPlace damage.rule old count child (λ found. found ≢ l) =
    subst (λ (k : ℕ). BreaksPlace damage.rule old k child (λ found. found ≢ l)) m.count (subst (λ (x : PageMap). BreaksPlace damage.rule x (g.P.Pages.count c.loop-at.pages) child (λ found. found ≢ l)) m.pages d.2) in
    let at_child = child-node nodes level l page at child up within node there in
    place-fine damage.rule old count l child (λ found. found ≢ l) at_child
    (page-counted nodes count l child (child-counted nodes level l page at child up within node there count counted)) (λ wrong. wrong refl) broken

pub returns-in-Err-enter_child-clause-damaged : goal.returns-in-Err-enter_child-clause-damaged
returns-in-Err-enter_child-clause-damaged g t c = λ before root told asked damage e.
    let old : PageMap = g.P.Pages.pages c.args.pages.now in
    let count : ℕ = g.P.Pages.count c.args.pages.now in
    let level : ℕ = c.args.level in
    let l : ℕ = level - 1 in
    let up : level ≡ suc l = omega arith in
    let page : ℕ = c.args.page in
    let at : ℕ = c.loop-at.at in
    let child : ℕ = c.in-Some.child in
    let within : at < 32 = omega arith in
    let bytes : List ℕ = c.looked-2.result.now in
    let level_is : level ≡ level_in bytes = c.requires.level ∙ ap level_in (sym c.looked-2.ensures) in
    let inner : 0 < level_in bytes = omega arith in
    let kept : IsRound (stored_in bytes) c.args.point.now at (Some child) = subst (IsRound (stored_in bytes) c.args.point.now at) c.in-Some.is (c.in-Ok.ensures.round inner at within) in
    let m = c.loop-at.invariant.frame in
    let middle : List ℕ = g.P.Pages.asked c.loop-at.pages in
    let after : List ℕ = g.P.Pages.asked c.enter_child.new.pages in
    let d = c.enter_child.ensures.damaged damage (c.in-Err-enter_child.is ∙ ap Err (same-fault {T = Bool} _ _ e)) in
    let broken : BreaksPlace damage.rule old count child (λ found. found ≢ l) =
    subst (λ (k : ℕ). BreaksPlace damage.rule old k child (λ found. found ≢ l)) m.count (subst (λ (x : PageMap). BreaksPlace damage.rule x (g.P.Pages.count c.loop-at.pages) child (λ found. found ≢ l)) m.pages d.2) in
    let mid = c.loop-at.invariant.keeps before page asked in
    harm-child old count root before middle after bytes level l page at child damage up level_is (λ some. c.looked-2.ensures ∙ told some) kept mid (c.enter_child.ensures.keeps before page mid) (d.0, d.1, broken)

pub returns-in-Ok-true-clause-finds : goal.returns-in-Ok-true-clause-finds
returns-in-Ok-true-clause-finds g t c = λ is node.
    let old : PageMap = g.P.Pages.pages c.args.pages.now in
    let nodes : NodeMap = nodes_in node_of old in
    let level : ℕ = c.args.level in
    let l : ℕ = level - 1 in
    let up : level ≡ suc l = omega arith in
    let page : ℕ = c.args.page in
    let at : ℕ = c.loop-at.at in
    let child : ℕ = c.in-Some.child in
    let within : at < 32 = omega arith in
    let bytes : List ℕ = c.looked-2.result.now in
    let inner : 0 < level_in bytes = let a : level ≡ level_in bytes = c.requires.level ∙ ap level_in (sym c.looked-2.ensures) in omega arith in
    let there = child-here old level page at child c.args.point.now bytes (slice_index_or c.in-Ok.children at None) (c.looked-2.ensures ∙ is) node (c.in-Ok.ensures.round inner at within) c.in-Some.is in
    let m = c.loop-at.invariant.frame in
    let f = c.enter_child.ensures.frame in
    let point = c.args.point.now in
    let key : List ℕ = c.args.key.now in
    let path : List ℕ = c.seek.new.path in
    let at_child = child-node nodes level l page at child up within node there in
    let looked : g.P.Pages.looked c.enter_child.new.pages ≡ old child =
    (subst (λ (x : PageMap). 0 < length (x child) → g.P.Pages.looked c.enter_child.new.pages ≡ x child) m.pages c.in-Ok-enter_child.ensures.gives) (let q = node-read old l child at_child in q.told) in
    let claim = subst (λ (x : PageMap). g.P.Pages.looked c.enter_child.new.pages ≡ x child → IsNodeAt (nodes_in node_of x) l child → Finds (nodes_in node_of x) l child point key path c.in-Ok-true.field-0) (f.pages ∙ m.pages) c.in-Ok-true.ensures.finds in
    let leads : Leads nodes path l child (place_item point key) = subst (Finds nodes l child point key path) c.in-Ok-true.field-0-test (claim looked at_child) in
    let long : level < length path = let n = c.seek.array_long in let b = c.requires.low in omega arith in
    child-leads nodes level l page at child up within node there point key path (slice_set path level at) leads
    (get_or-set_same path level at 0 long) (λ i less. get_or-set_other path level i at 0 (λ same. absurd (omega arith)))

pub returns-in-Err-seek-clause-no_false_damage : goal.returns-in-Err-seek-clause-no_false_damage
returns-in-Err-seek-clause-no_false_damage g t c = λ is node counted damage e.
    let old : PageMap = g.P.Pages.pages c.args.pages.now in
    let count : ℕ = g.P.Pages.count c.args.pages.now in
    let nodes : NodeMap = nodes_in node_of old in
    let level : ℕ = c.args.level in
    let l : ℕ = level - 1 in
    let up : level ≡ suc l = omega arith in
    let page : ℕ = c.args.page in
    let at : ℕ = c.loop-at.at in
    let child : ℕ = c.in-Some.child in
    let within : at < 32 = omega arith in
    let bytes : List ℕ = c.looked-2.result.now in
    let inner : 0 < level_in bytes = let a : level ≡ level_in bytes = c.requires.level ∙ ap level_in (sym c.looked-2.ensures) in omega arith in
    let there = child-here old level page at child c.args.point.now bytes (slice_index_or c.in-Ok.children at None) (c.looked-2.ensures ∙ is) node (c.in-Ok.ensures.round inner at within) c.in-Some.is in
    let m = c.loop-at.invariant.frame in
    let f = c.enter_child.ensures.frame in
    let at_child = child-node nodes level l page at child up within node there in
    let looked : g.P.Pages.looked c.enter_child.new.pages ≡ old child =
    (subst (λ (x : PageMap). 0 < length (x child) → g.P.Pages.looked c.enter_child.new.pages ≡ x child) m.pages c.in-Ok-enter_child.ensures.gives) (let q = node-read old l child at_child in q.told) in
    let claim = subst (λ (k : ℕ). g.P.Pages.looked c.enter_child.new.pages ≡ old child → IsNodeAt nodes l child → AreCounted nodes k l child → (harm : Damage) → c.seek.result ≡ Err (Damaged harm) → ⊥) (f.count ∙ m.count)
    (subst (λ (x : PageMap). g.P.Pages.looked c.enter_child.new.pages ≡ x child → IsNodeAt (nodes_in node_of x) l child → AreCounted (nodes_in node_of x) (g.P.Pages.count c.enter_child.new.pages) l child → (harm : Damage) → c.seek.result ≡ Err (Damaged harm) → ⊥)
    (f.pages ∙ m.pages) c.seek.ensures.no_false_damage) in
    claim looked at_child (child-counted nodes level l page at child up within node there count counted) damage (c.in-Err-seek.is ∙ e)

pub returns-in-Err-seek-clause-damaged : goal.returns-in-Err-seek-clause-damaged
returns-in-Err-seek-clause-damaged g t c = λ before root told asked damage e.
    let old : PageMap = g.P.Pages.pages c.args.pages.now in
    let child : ℕ = c.in-Some.child in
    let page : ℕ = c.args.page in
    let last : List ℕ = g.P.Pages.asked c.seek.new.pages in
    let m = c.loop-at.invariant.frame in
    let f = c.enter_child.ensures.frame in
    let gives = subst (λ (x : PageMap). 0 < length (x child) → g.P.Pages.looked c.enter_child.new.pages ≡ x child) (sym f.pages) c.in-Ok-enter_child.ensures.gives in
    let seen : AskedSince before (g.P.Pages.asked c.enter_child.new.pages) child =
    asked-from before (g.P.Pages.asked c.loop-at.pages) (g.P.Pages.asked c.enter_child.new.pages) page child (c.loop-at.invariant.keeps before page asked) c.in-Ok-enter_child.ensures.here in
    let harm = c.seek.ensures.damaged before root gives seen damage (c.in-Err-seek.is ∙ e) in
    subst (λ (k : ℕ). IsHarm old k root before last damage) (f.count ∙ m.count)
    (subst (λ (x : PageMap). IsHarm x (g.P.Pages.count c.enter_child.new.pages) root before last damage) (f.pages ∙ m.pages) harm)

pub returns-clause-finds : goal.returns-clause-finds
returns-clause-finds g t c = λ is node.
    node-absent (nodes_in node_of (g.P.Pages.pages c.args.pages.now)) c.args.level c.args.page c.args.point.now c.args.key.now c.loop-at.path
    (λ i less. c.loop-at.invariant.passed is node i (omega arith))

pub loop-at-preserved : goal.loop-at-preserved
loop-at-preserved g t c =
    let further = g.met.P.Pages.goes_further in
    let more = g.met.P.Pages.reads_further in
    let old : PageMap = g.P.Pages.pages c.args.pages.now in
    let nodes : NodeMap = nodes_in node_of old in
    let level : ℕ = c.args.level in
    let l : ℕ = level - 1 in
    let up : level ≡ suc l = omega arith in
    let page : ℕ = c.args.page in
    let at : ℕ = c.loop-at.at in
    let within : at < 32 = omega arith in
    let point = c.args.point.now in
    let key : List ℕ = c.args.key.now in
    let bytes : List ℕ = c.looked-2.result.now in
    let inner : 0 < level_in bytes = let a : level ≡ level_in bytes = c.requires.level ∙ ap level_in (sym c.looked-2.ensures) in omega arith in
    let kept : IsRound (stored_in bytes) point at (slice_index_or c.in-Ok.children at None) = c.in-Ok.ensures.round inner at within in
    let m = c.loop-at.invariant.frame in
    let slots : g.P.Pages.looked c.args.pages.now ≡ old page → IsNodeAt nodes level page → (nodes page).slots ≡ stored_in bytes =
    λ is node. let r = node-read old level page node in r.slots ∙ ap stored_in (sym (c.looked-2.ensures ∙ is)) in
    elim c.match-children-at.branch [
      | in-Some+in-Ok-enter_child+in-Ok-false w ↦
          let child : ℕ = w.in-Some.child in
          let f = w.enter_child.ensures.frame in
          record {
            frame = subst (λ (x : g.row.P.Denot). Reads g.P.Pages c.args.pages.now x) (sym w.pages-is)
                (reads_then g.P.Pages further more _ _ _ (reads_then g.P.Pages further more _ _ _ m f) w.seek.ensures.frame);
            faults = subst (λ (x : g.row.P.Denot). g.P.Pages.faults x ≡ g.P.Pages.faults c.args.pages.now) (sym w.pages-is)
                (w.in-Ok-false.ensures.fails.hides_none ∙ w.in-Ok-enter_child.ensures.fails.hides_none ∙ c.loop-at.invariant.faults);
            keeps = λ before n a. subst (λ (x : g.row.P.Denot). AskedSince before (g.P.Pages.asked x) n) (sym w.pages-is)
                (w.seek.ensures.keeps before n (w.enter_child.ensures.keeps before n (c.loop-at.invariant.keeps before n a)));
            more = subst (λ (x : g.row.P.Denot). AsksOnly (λ _. 1) (g.P.Pages.asked c.args.pages.now) (g.P.Pages.asked x)) (sym w.pages-is)
                (asks-further (λ _. 1) _ _ _ (asks-further (λ _. 1) _ _ _ c.loop-at.invariant.more w.enter_child.ensures.more) w.seek.ensures.more);
            passed = λ is node. below_more (λ i. got (λ y. below nodes (is_entry point key) level y) ((nodes page).slots i) ≡ 0) at (c.loop-at.invariant.passed is node)
                (let there = child-here old level page at child point bytes (slice_index_or c.in-Ok.children at None) (c.looked-2.ensures ∙ is) node kept w.in-Some.is in
                let at_child = child-node nodes level l page at child up within node there in
                let looked : g.P.Pages.looked w.enter_child.new.pages ≡ old child =
                (subst (λ (x : PageMap). 0 < length (x child) → g.P.Pages.looked w.enter_child.new.pages ≡ x child) m.pages w.in-Ok-enter_child.ensures.gives) (let q = node-read old l child at_child in q.told) in
                let claim = subst (λ (x : PageMap). g.P.Pages.looked w.enter_child.new.pages ≡ x child → IsNodeAt (nodes_in node_of x) l child → Finds (nodes_in node_of x) l child point key w.seek.new.path w.in-Ok-false.field-0) (f.pages ∙ m.pages) w.in-Ok-false.ensures.finds in
                let none : node_below nodes (is_entry point key) l child ≡ 0 = subst (Finds nodes l child point key w.seek.new.path) w.in-Ok-false.field-0-test (claim looked at_child) in
                passed-child nodes level l page at child up within node there point key none);
          }
      | in_default w ↦
          record {
            frame = subst (λ (x : g.row.P.Denot). Reads g.P.Pages c.args.pages.now x) (sym w.pages-is) m;
            faults = subst (λ (x : g.row.P.Denot). g.P.Pages.faults x ≡ g.P.Pages.faults c.args.pages.now) (sym w.pages-is) c.loop-at.invariant.faults;
            keeps = λ before n a. subst (λ (x : g.row.P.Denot). AskedSince before (g.P.Pages.asked x) n) (sym w.pages-is) (c.loop-at.invariant.keeps before n a);
            more = subst (λ (x : g.row.P.Denot). AsksOnly (λ _. 1) (g.P.Pages.asked c.args.pages.now) (g.P.Pages.asked x)) (sym w.pages-is) c.loop-at.invariant.more;
            passed = λ is node. below_more (λ i. got (λ y. below nodes (is_entry point key) level y) ((nodes page).slots i) ≡ 0) at (c.loop-at.invariant.passed is node)
                (passed-short nodes level page at (stored_in bytes) point key (slots is node) node within
                (subst (IsRound (stored_in bytes) point at) (no-child (slice_index_or c.in-Ok.children at None) w.in_default.not-Some) kept));
          }
    ]

pub returns-then-level-eq0-clause-way : goal.returns-then-level-eq0-clause-way
returns-then-level-eq0-clause-way g t c = λ is told found.
    let bytes : List ℕ = c.looked.result.now in
    let level_is : c.args.level ≡ level_in bytes = c.requires.level ∙ ap level_in (sym c.looked.ensures) in
    way-leaf (g.P.Pages.pages c.args.pages.now) c.seek_in_leaf.new.path bytes c.args.level c.args.page (place_item c.args.point.now c.args.key.now) c.if-level-eq0.true level_is (c.looked.ensures ∙ is)
    (c.seek_in_leaf.ensures.found (sym level_is ∙ c.if-level-eq0.true) found)

pub returns-in-Ok-true-clause-way : goal.returns-in-Ok-true-clause-way
returns-in-Ok-true-clause-way g t c = λ is told found.
    let old : PageMap = g.P.Pages.pages c.args.pages.now in
    let count : ℕ = g.P.Pages.count c.args.pages.now in
    let level : ℕ = c.args.level in
    let l : ℕ = level - 1 in
    let up : level ≡ suc l = omega arith in
    let at : ℕ = c.loop-at.at in
    let child : ℕ = c.in-Some.child in
    let within : at < 32 = omega arith in
    let bytes : List ℕ = c.looked-2.result.now in
    let level_is : level ≡ level_in bytes = c.requires.level ∙ ap level_in (sym c.looked-2.ensures) in
    let inner : 0 < level_in bytes = omega arith in
    let there : IsChildAt (stored_in bytes) at child = subst (IsRound (stored_in bytes) c.args.point.now at) c.in-Some.is (c.in-Ok.ensures.round inner at within) in
    let m = c.loop-at.invariant.frame in
    let f = c.enter_child.ensures.frame in
    let path : List ℕ = c.seek.new.path in
    let told_there : AreReadable (g.P.Pages.pages c.loop-at.pages) (g.P.Pages.count c.loop-at.pages) =
    subst (λ (x : PageMap). AreReadable x (g.P.Pages.count c.loop-at.pages)) (sym m.pages) (subst (λ (k : ℕ). AreReadable old k) (sym m.count) told) in
    let told_child : AreReadable (g.P.Pages.pages c.enter_child.new.pages) (g.P.Pages.count c.enter_child.new.pages) =
    subst (λ (x : PageMap). AreReadable x (g.P.Pages.count c.enter_child.new.pages)) (sym f.pages) (subst (λ (k : ℕ). AreReadable (g.P.Pages.pages c.loop-at.pages) k) (sym f.count) told_there) in
    let looked : g.P.Pages.looked c.enter_child.new.pages ≡ g.P.Pages.pages c.enter_child.new.pages child =
    c.in-Ok-enter_child.ensures.bytes told_there ∙ ap (λ (x : PageMap). x child) (sym f.pages) in
    let way : IsWay old path l child = subst (λ (x : PageMap). IsWay x path l child) (f.pages ∙ m.pages) (c.in-Ok-true.ensures.way looked told_child c.in-Ok-true.field-0-test) in
    let long : level < length path = let n = c.seek.array_long in let b = c.requires.low in omega arith in
    way-child old path (slice_set path level at) bytes level l c.args.page at child up level_is (c.looked-2.ensures ∙ is) there
    (get_or-set_same path level at 0 long) (λ i less. get_or-set_other path level i at 0 (λ same. absurd (omega arith))) way

pub returns-clause-way : goal.returns-clause-way
returns-clause-way g t c = λ is told found. absurd (cc)
