use Rattle.std.proofs.Common.{◌≡◌, ℕ, ◌<◌, List, length, Option, Err, false, true, arith, sym, ap, ◌∙◌, subst}
use Rattle.page_face.specs.FreeList.{PageMap}
use Rattle.page_face.specs.declared.fault.Damage.{Damage}
use Rattle.page_face.specs.declared.fault.PageFault.TheVariants.{Damaged}
use Rattle.btree_nodes.specs.Damages.{AreReadable}
use Rattle.btree_nodes.proofs.Walks.{same-fault}
use Rattle.spatial_base.specs.Key.{form_of}
use Rattle.rtree_nodes.specs.Slots.{NodeMap}
use Rattle.rtree_nodes.specs.Made.{nodes_in}
use Rattle.rtree_nodes.specs.Whole.{level_at}
use Rattle.rtree_nodes.specs.Pages.{level_in, node_of}
use Rattle.rtree_nodes.specs.Entries.{is_entry}
use Rattle.rtree_nodes.specs.Subtrees.{IsNodeAt, AreCounted, Finds}
use Rattle.rtree_nodes.specs.Harms.{IsHarm}
use Rattle.rtree_nodes.specs.Ways.{IsWay}
use Rattle.rtree_nodes.proofs.Subtrees.{node-read}
use Rattle.rtree_nodes.proofs.Roots.{well-node, well-level, well-sum, whole-counted, root-fine}
use Rattle.rtree_nodes.proofs.Harms.{harm-root}
use Rattle.rtree_nodes.proofs.finding.find.Goals as goal

pub returns-in-Err-clause-no_false_damage : goal.returns-in-Err-clause-no_false_damage
returns-in-Err-clause-no_false_damage g c = λ rows free whole damage e.
    let was = c.in-Err.is ∙ ap Err (same-fault {T = Option ℕ} _ _ e) in
    let d = c.enter_root.ensures.damaged damage was in
    root-fine damage.rule (g.P.Pages.pages c.args.pages.now) rows (g.P.Pages.count c.args.pages.now) (g.P.Pages.first c.args.pages.now) free c.args.root (omega arith) whole
    (c.enter_root.ensures.counted damage was) d.2

pub returns-in-Err-clause-damaged : goal.returns-in-Err-clause-damaged
returns-in-Err-clause-damaged g c = λ damage e.
    harm-root (g.P.Pages.pages c.args.pages.now) (g.P.Pages.count c.args.pages.now) c.args.root (g.P.Pages.asked c.args.pages.now) (g.P.Pages.asked c.enter_root.new.pages) damage
    (c.enter_root.ensures.damaged damage (c.in-Err.is ∙ ap Err (same-fault {T = Option ℕ} _ _ e)))

pub returns-in-Ok-true-clause-found : goal.returns-in-Ok-true-clause-found
returns-in-Ok-true-clause-found g c = λ well.
    let old : PageMap = g.P.Pages.pages c.args.pages.now in
    let nodes : NodeMap = nodes_in node_of old in
    let root : ℕ = c.args.root in
    let point = c.args.point.now in
    let some : 0 < root = omega arith in
    let node = well-node old root some well in
    let r = node-read old (level_at node_of old root) root node in
    let looked = c.in-Ok.ensures.gives r.told in
    let level : c.in-Ok.level ≡ level_at node_of old root = c.in-Ok.ensures.level ∙ ap level_in looked ∙ sym r.level ∙ well-level old root some in
    let f = c.enter_root.ensures.frame in
    let path : List ℕ = c.seek.new.path in
    let claim = subst (λ (x : PageMap). g.P.Pages.looked c.enter_root.new.pages ≡ x root → IsNodeAt (nodes_in node_of x) c.in-Ok.level root → Finds (nodes_in node_of x) c.in-Ok.level root point c.bytes.result path c.in-Ok-true.field-0) f.pages c.in-Ok-true.ensures.finds in
    let found : Finds nodes c.in-Ok.level root point c.bytes.result path c.in-Ok-true.field-0 = claim looked (subst (λ (k : ℕ). IsNodeAt nodes k root) (sym level) node) in
    (subst (λ (k : List ℕ). Finds nodes c.in-Ok.level root point k path true) c.bytes.ensures.form (subst (Finds nodes c.in-Ok.level root point c.bytes.result path) c.in-Ok-true.field-0-test found), level)

pub returns-in-Ok-false-clause-absent : goal.returns-in-Ok-false-clause-absent
returns-in-Ok-false-clause-absent g c = λ well e.
    let old : PageMap = g.P.Pages.pages c.args.pages.now in
    let nodes : NodeMap = nodes_in node_of old in
    let root : ℕ = c.args.root in
    let point = c.args.point.now in
    let some : 0 < root = omega arith in
    let node = well-node old root some well in
    let r = node-read old (level_at node_of old root) root node in
    let looked = c.in-Ok.ensures.gives r.told in
    let level : c.in-Ok.level ≡ level_at node_of old root = c.in-Ok.ensures.level ∙ ap level_in looked ∙ sym r.level ∙ well-level old root some in
    let f = c.enter_root.ensures.frame in
    let path : List ℕ = c.seek.new.path in
    let claim = subst (λ (x : PageMap). g.P.Pages.looked c.enter_root.new.pages ≡ x root → IsNodeAt (nodes_in node_of x) c.in-Ok.level root → Finds (nodes_in node_of x) c.in-Ok.level root point c.bytes.result path c.in-Ok-false.field-0) f.pages c.in-Ok-false.ensures.finds in
    let found : Finds nodes (level_at node_of old root) root point c.bytes.result path c.in-Ok-false.field-0 =
    subst (λ (k : ℕ). Finds nodes k root point c.bytes.result path c.in-Ok-false.field-0) level (claim looked (subst (λ (k : ℕ). IsNodeAt nodes k root) (sym level) node)) in
    well-sum old root (is_entry point (form_of c.args.key.now)) some
    ∙ subst (λ (k : List ℕ). Finds nodes (level_at node_of old root) root point k path false) c.bytes.ensures.form (subst (Finds nodes (level_at node_of old root) root point c.bytes.result path) c.in-Ok-false.field-0-test found)

pub returns-in-Err-seek-clause-no_false_damage : goal.returns-in-Err-seek-clause-no_false_damage
returns-in-Err-seek-clause-no_false_damage g c = λ rows free whole damage e.
    let old : PageMap = g.P.Pages.pages c.args.pages.now in
    let count : ℕ = g.P.Pages.count c.args.pages.now in
    let nodes : NodeMap = nodes_in node_of old in
    let root : ℕ = c.args.root in
    let some : 0 < root = omega arith in
    let node = well-node old root some whole.tree in
    let r = node-read old (level_at node_of old root) root node in
    let looked = c.in-Ok.ensures.gives r.told in
    let level : c.in-Ok.level ≡ level_at node_of old root = c.in-Ok.ensures.level ∙ ap level_in looked ∙ sym r.level ∙ well-level old root some in
    let counted = whole-counted old rows count (g.P.Pages.first c.args.pages.now) free root some whole in
    let f = c.enter_root.ensures.frame in
    let claim = subst (λ (k : ℕ). g.P.Pages.looked c.enter_root.new.pages ≡ old root → IsNodeAt nodes c.in-Ok.level root → AreCounted nodes k c.in-Ok.level root → (harm : Damage) → c.seek.result ≡ Err (Damaged harm) → ⊥) f.count
    (subst (λ (x : PageMap). g.P.Pages.looked c.enter_root.new.pages ≡ x root → IsNodeAt (nodes_in node_of x) c.in-Ok.level root → AreCounted (nodes_in node_of x) (g.P.Pages.count c.enter_root.new.pages) c.in-Ok.level root → (harm : Damage) → c.seek.result ≡ Err (Damaged harm) → ⊥)
    f.pages c.seek.ensures.no_false_damage) in
    claim looked (subst (λ (k : ℕ). IsNodeAt nodes k root) (sym level) node) (subst (λ (k : ℕ). AreCounted nodes count k root) (sym level) counted) damage
    (c.in-Err-seek.is ∙ ap Err (same-fault {T = Option ℕ} _ _ e))

pub returns-in-Err-seek-clause-damaged : goal.returns-in-Err-seek-clause-damaged
returns-in-Err-seek-clause-damaged g c = λ damage e.
    let root : ℕ = c.args.root in
    let asked : List ℕ = g.P.Pages.asked c.args.pages.now in
    let last : List ℕ = g.P.Pages.asked c.seek.new.pages in
    let f = c.enter_root.ensures.frame in
    let gives = subst (λ (x : PageMap). 0 < length (x root) → g.P.Pages.looked c.enter_root.new.pages ≡ x root) (sym f.pages) c.in-Ok.ensures.gives in
    let harm = c.seek.ensures.damaged asked root gives c.in-Ok.ensures.here damage (c.in-Err-seek.is ∙ ap Err (same-fault {T = Option ℕ} _ _ e)) in
    subst (λ (k : ℕ). IsHarm (g.P.Pages.pages c.args.pages.now) k root asked last damage) f.count
    (subst (λ (x : PageMap). IsHarm x (g.P.Pages.count c.enter_root.new.pages) root asked last damage) f.pages harm)

pub returns-in-Ok-true-clause-way : goal.returns-in-Ok-true-clause-way
returns-in-Ok-true-clause-way g c = λ told.
    let old : PageMap = g.P.Pages.pages c.args.pages.now in
    let root : ℕ = c.args.root in
    let f = c.enter_root.ensures.frame in
    let path : List ℕ = c.seek.new.path in
    let told_there : AreReadable (g.P.Pages.pages c.enter_root.new.pages) (g.P.Pages.count c.enter_root.new.pages) =
    subst (λ (x : PageMap). AreReadable x (g.P.Pages.count c.enter_root.new.pages)) (sym f.pages) (subst (λ (k : ℕ). AreReadable old k) (sym f.count) told) in
    let looked : g.P.Pages.looked c.enter_root.new.pages ≡ g.P.Pages.pages c.enter_root.new.pages root = c.in-Ok.ensures.bytes told ∙ ap (λ (x : PageMap). x root) (sym f.pages) in
    subst (λ (x : PageMap). IsWay x path c.in-Ok.level root) f.pages (c.in-Ok-true.ensures.way looked told_there c.in-Ok-true.field-0-test)
