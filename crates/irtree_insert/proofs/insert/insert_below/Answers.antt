use Rattle.std.proofs.Common.{◌∙◌, ℕ, suc, Err, Some, ap, arith, refl, sym, ◌≡◌, inr}
use Rattle.std.proofs.lemmas.Result.{IfOk-weaker, err_from_is_err_and}
use Rattle.page_face.specs.FreeList.{PageMap}
use Rattle.btree_nodes.proofs.Walks.{same-fault}
use Rattle.rtree_nodes.specs.Slots.{Item, NodeMap}
use Rattle.rtree_nodes.specs.Trees.{root_least}
use Rattle.rtree_nodes.specs.Stock.{View, view}
use Rattle.rtree_nodes.proofs.Plants.{least-some}
use Rattle.rtree_nodes.specs.Pages.{node_of}
use Rattle.rtree_nodes.specs.Reach.{item_of}
use Rattle.node_rows.specs.Impacts.{impact_in}
use Rattle.irtree_shape.specs.Words.{worded}
use Rattle.irtree_shape.specs.Steps.{bounding_child}
use Rattle.irtree_shape.specs.Made.{nodes_in}
use Rattle.irtree_shape.specs.Whole.{level_at}
use Rattle.irtree_shape.proofs.Plants.{planted_same, to_raise, planted_raised}
use Rattle.irtree_shape.proofs.Replants.{standing_open, standing_put, standing_raise, standing_raised}
use Rattle.irtree_shape.proofs.Tolds.{told-made}
use Rattle.irtree_insert.specs.Grown.{beside_item}
use Rattle.irtree_insert.proofs.Loads.{some-told}
use Rattle.irtree_insert.proofs.Lands.{both-ok, root-open, puts-as, beside-is, beside-none, raised-of-level, made-of-level}
use Rattle.page_face.specs.declared.fault.PageFault.TheVariants.{Damaged}
use Rattle.btree_nodes.proofs.Harms.{asks-further}
use Rattle.node_rows.proofs.Harms.{harm-later}
use Rattle.irtree_insert.proofs.insert.insert_below.Goals as goal

pub returns-in_err-climbed-clause-no_false_damage : goal.returns-in_err-climbed-clause-no_false_damage
returns-in_err-climbed-clause-no_false_damage g c =
    let passed = err_from_is_err_and c.from_residual.result c.from_residual.ensures.1 in
    rw (passed.1, passed.2) (λ free low some fits whole told damage e.
    let old : PageMap = g.P.Pages.pages c.args.pages.now in
    let rows : ℕ = c.args.tree.now.rows in
    let before : View = view old rows (g.P.Pages.count c.args.pages.now) (g.P.Pages.first c.args.pages.now) free in
    let x : Item = worded (impact_in c.args.words.now) (item_of c.args.slot.now) in
    let root : ℕ = c.args.tree.now.root in
    let level : ℕ = level_at (nodes_in node_of old rows) root in
    c.climb.ensures.no_false_damage (root_least level) level free (root-open before root c.args.goal x low some whole) fits told damage (c.in_err-climbed.was ∙ ap Err (same-fault {T = ℕ} _ _ e)))

pub returns-in_err-climbed-clause-no_false_damage_standing : goal.returns-in_err-climbed-clause-no_false_damage_standing
returns-in_err-climbed-clause-no_false_damage_standing g c =
    let passed = err_from_is_err_and c.from_residual.result c.from_residual.ensures.1 in
    rw (passed.1, passed.2) (λ before free level rest mine sums start standing fits told damage e.
    let old : PageMap = g.P.Pages.pages c.args.pages.now in
    let rows : ℕ = c.args.tree.now.rows in
    let now : View = view old rows (g.P.Pages.count c.args.pages.now) (g.P.Pages.first c.args.pages.now) free in
    let x : Item = worded (impact_in c.args.words.now) (item_of c.args.slot.now) in
    let root : ℕ = c.args.tree.now.root in
    let opened = standing_open node_of before now level root (c.args.goal, x) rest mine sums standing start in
    c.climb.ensures.no_false_damage 1 level free opened fits told damage (c.in_err-climbed.was ∙ ap Err (same-fault {T = ℕ} _ _ e)))

pub returns-in-None-clause-planted : goal.returns-in-None-clause-planted
returns-in-None-clause-planted g c = λ free low some fits whole.
    let old : PageMap = g.P.Pages.pages c.args.pages.now in
    let rows : ℕ = c.args.tree.now.rows in
    let before : View = view old rows (g.P.Pages.count c.args.pages.now) (g.P.Pages.first c.args.pages.now) free in
    let x : Item = worded (impact_in c.args.words.now) (item_of c.args.slot.now) in
    let root : ℕ = c.args.tree.now.root in
    let mid : PageMap = g.P.Pages.pages c.climb.new.pages in
    let mr : ℕ = c.climb.new.tree.rows in
    let mc : ℕ = g.P.Pages.count c.climb.new.pages in
    let mf : ℕ = g.P.Pages.first c.climb.new.pages in
    let nodes : NodeMap = nodes_in node_of mid mr in
    let level : ℕ = level_at (nodes_in node_of old rows) root in
    let m = c.in_ok-climbed.ensures.made (root_least level) level free (root-open before root c.args.goal x low some whole) fits in
    planted_same node_of before mid mr mc mf root x _ _ some whole (puts-as x low (beside-none nodes c.in_ok-climbed.climbed.grown.more c.in-None.is) m.1)

pub returns-in-None-clause-standing : goal.returns-in-None-clause-standing
returns-in-None-clause-standing g c = λ before free level rest mine sums start standing fits.
    let old : PageMap = g.P.Pages.pages c.args.pages.now in
    let rows : ℕ = c.args.tree.now.rows in
    let now : View = view old rows (g.P.Pages.count c.args.pages.now) (g.P.Pages.first c.args.pages.now) free in
    let x : Item = worded (impact_in c.args.words.now) (item_of c.args.slot.now) in
    let root : ℕ = c.args.tree.now.root in
    let mid : PageMap = g.P.Pages.pages c.climb.new.pages in
    let mr : ℕ = c.climb.new.tree.rows in
    let mc : ℕ = g.P.Pages.count c.climb.new.pages in
    let mf : ℕ = g.P.Pages.first c.climb.new.pages in
    let nodes : NodeMap = nodes_in node_of mid mr in
    let opened = standing_open node_of before now level root (c.args.goal, x) rest mine sums standing start in
    let m = c.in_ok-climbed.ensures.made 1 level free opened fits in
    let put = puts-as x refl (beside-none nodes c.in_ok-climbed.climbed.grown.more c.in-None.is) m.1 in
    record {
      free = put.free;
      level = level;
      standing = standing_put node_of before now level root (c.args.goal, x) rest mine sums standing mid mr mc mf _ _ put;
    }

pub returns-in-Some-clause-planted : goal.returns-in-Some-clause-planted
returns-in-Some-clause-planted g c = λ free low some fits whole.
    let old : PageMap = g.P.Pages.pages c.args.pages.now in
    let rows : ℕ = c.args.tree.now.rows in
    let before : View = view old rows (g.P.Pages.count c.args.pages.now) (g.P.Pages.first c.args.pages.now) free in
    let x : Item = worded (impact_in c.args.words.now) (item_of c.args.slot.now) in
    let root : ℕ = c.args.tree.now.root in
    let mid : PageMap = g.P.Pages.pages c.climb.new.pages in
    let mr : ℕ = c.climb.new.tree.rows in
    let mc : ℕ = g.P.Pages.count c.climb.new.pages in
    let mf : ℕ = g.P.Pages.first c.climb.new.pages in
    let nodes : NodeMap = nodes_in node_of mid mr in
    let y : Item = bounding_child nodes (beside_item c.in-Some.more) in
    let level : ℕ = level_at (nodes_in node_of old rows) root in
    let m = c.in_ok-climbed.ensures.made (root_least level) level free (root-open before root c.args.goal x low some whole) fits in
    let put = puts-as x low (beside-is nodes c.in_ok-climbed.climbed.grown.more c.in-Some.more c.in-Some.is) m.1 in
    let raised = to_raise node_of before mid mr mc mf root x y _ _ some whole put in
    let is = m.0 in
    both-ok c.raise_root.result _ _ _
    (λ top made l. planted_raised node_of before mid mr mc mf root x y _ _ some whole put (g.P.Pages.pages c.raise_root.new.pages) c.raise_root.new.tree.rows (g.P.Pages.count c.raise_root.new.pages) (g.P.Pages.first c.raise_root.new.pages) top _ l (made-of-level nodes root (Some y) is made))
    (c.raise_root.ensures.made put.free _ _ (root_least level) (raised-of-level (sym is) raised))
    c.raise_root.ensures.some

pub returns-in-Some-clause-standing : goal.returns-in-Some-clause-standing
returns-in-Some-clause-standing g c = λ before free level rest mine sums start standing fits.
    let old : PageMap = g.P.Pages.pages c.args.pages.now in
    let rows : ℕ = c.args.tree.now.rows in
    let now : View = view old rows (g.P.Pages.count c.args.pages.now) (g.P.Pages.first c.args.pages.now) free in
    let x : Item = worded (impact_in c.args.words.now) (item_of c.args.slot.now) in
    let root : ℕ = c.args.tree.now.root in
    let mid : PageMap = g.P.Pages.pages c.climb.new.pages in
    let mr : ℕ = c.climb.new.tree.rows in
    let mc : ℕ = g.P.Pages.count c.climb.new.pages in
    let mf : ℕ = g.P.Pages.first c.climb.new.pages in
    let nodes : NodeMap = nodes_in node_of mid mr in
    let y : Item = bounding_child nodes (beside_item c.in-Some.more) in
    let opened = standing_open node_of before now level root (c.args.goal, x) rest mine sums standing start in
    let m = c.in_ok-climbed.ensures.made 1 level free opened fits in
    let put = puts-as x refl (beside-is nodes c.in_ok-climbed.climbed.grown.more c.in-Some.more c.in-Some.is) m.1 in
    let raised = standing_raise node_of before now level root (c.args.goal, x) rest mine sums standing mid mr mc mf y _ _ put in
    let is = m.0 in
    IfOk-weaker c.raise_root.result _ _
    (λ top made. let h = made-of-level nodes root (Some y) is made in record {
      free = h.free;
      level = suc level;
      standing = standing_raised node_of before now level root (c.args.goal, x) rest mine sums standing mid mr mc mf y _ _ put (g.P.Pages.pages c.raise_root.new.pages) c.raise_root.new.tree.rows (g.P.Pages.count c.raise_root.new.pages) (g.P.Pages.first c.raise_root.new.pages) top _ _ _ _ h;
    })
    (c.raise_root.ensures.made put.free _ _ 1 (raised-of-level (sym is) raised))

pub returns-in-Some-clause-no_false_damage : goal.returns-in-Some-clause-no_false_damage
returns-in-Some-clause-no_false_damage g c = λ free low some fits whole told.
    let old : PageMap = g.P.Pages.pages c.args.pages.now in
    let rows : ℕ = c.args.tree.now.rows in
    let before : View = view old rows (g.P.Pages.count c.args.pages.now) (g.P.Pages.first c.args.pages.now) free in
    let x : Item = worded (impact_in c.args.words.now) (item_of c.args.slot.now) in
    let root : ℕ = c.args.tree.now.root in
    let mid : PageMap = g.P.Pages.pages c.climb.new.pages in
    let mr : ℕ = c.climb.new.tree.rows in
    let mc : ℕ = g.P.Pages.count c.climb.new.pages in
    let mf : ℕ = g.P.Pages.first c.climb.new.pages in
    let nodes : NodeMap = nodes_in node_of mid mr in
    let y : Item = bounding_child nodes (beside_item c.in-Some.more) in
    let level : ℕ = level_at (nodes_in node_of old rows) root in
    let m = c.in_ok-climbed.ensures.made (root_least level) level free (root-open before root c.args.goal x low some whole) fits in
    let put = puts-as x low (beside-is nodes c.in_ok-climbed.climbed.grown.more c.in-Some.more c.in-Some.is) m.1 in
    let raised = to_raise node_of before mid mr mc mf root x y _ _ some whole put in
    let is = m.0 in
    c.raise_root.ensures.no_false_damage put.free _ _ (root_least level) (raised-of-level (sym is) raised) (told-made node_of some-told (least-some level).0 put told)

pub returns-in-Some-clause-no_false_damage_standing : goal.returns-in-Some-clause-no_false_damage_standing
returns-in-Some-clause-no_false_damage_standing g c = λ before free level rest mine sums start standing fits told.
    let old : PageMap = g.P.Pages.pages c.args.pages.now in
    let rows : ℕ = c.args.tree.now.rows in
    let now : View = view old rows (g.P.Pages.count c.args.pages.now) (g.P.Pages.first c.args.pages.now) free in
    let x : Item = worded (impact_in c.args.words.now) (item_of c.args.slot.now) in
    let root : ℕ = c.args.tree.now.root in
    let mid : PageMap = g.P.Pages.pages c.climb.new.pages in
    let mr : ℕ = c.climb.new.tree.rows in
    let mc : ℕ = g.P.Pages.count c.climb.new.pages in
    let mf : ℕ = g.P.Pages.first c.climb.new.pages in
    let nodes : NodeMap = nodes_in node_of mid mr in
    let y : Item = bounding_child nodes (beside_item c.in-Some.more) in
    let opened = standing_open node_of before now level root (c.args.goal, x) rest mine sums standing start in
    let m = c.in_ok-climbed.ensures.made 1 level free opened fits in
    let put = puts-as x refl (beside-is nodes c.in_ok-climbed.climbed.grown.more c.in-Some.more c.in-Some.is) m.1 in
    let raised = standing_raise node_of before now level root (c.args.goal, x) rest mine sums standing mid mr mc mf y _ _ put in
    let is = m.0 in
    c.raise_root.ensures.no_false_damage put.free _ _ 1 (raised-of-level (sym is) raised) (told-made node_of some-told (omega arith) put told)

pub returns-in_err-climbed-clause-damaged : goal.returns-in_err-climbed-clause-damaged
returns-in_err-climbed-clause-damaged g c = λ told damage.
    let r = err_from_is_err_and c.from_residual.result c.from_residual.ensures.1 in
    λ e. (let same : c.in_err-climbed.field-0.0 ≡ Damaged damage = cc (r.1, r.2, e) in
    c.in_err-climbed.ensures.damaged told damage (ap Err same))

pub returns-in-Some-clause-damaged : goal.returns-in-Some-clause-damaged
returns-in-Some-clause-damaged g c = λ told damage e.
    let p = g.P.Pages in
    inr (harm-later c.raise_root.new.tree.rows (λ _. 1) (p.pages c.raise_root.new.pages) (p.count c.raise_root.new.pages) (p.first c.raise_root.new.pages) (p.asked c.args.pages.now) (p.asked c.climb.new.pages) (p.asked c.raise_root.new.pages) damage
    (c.climb.ensures.more told) (c.raise_root.ensures.damaged (c.in_ok-climbed.ensures.told told) damage e))

pub returns-in-Some-clause-told : goal.returns-in-Some-clause-told
returns-in-Some-clause-told g c = λ told. c.raise_root.ensures.told (c.in_ok-climbed.ensures.told told)

pub returns-in-Some-clause-more : goal.returns-in-Some-clause-more
returns-in-Some-clause-more g c = λ told. asks-further (λ _. 1) _ _ _ (c.climb.ensures.more told) (c.raise_root.ensures.more (c.in_ok-climbed.ensures.told told))
