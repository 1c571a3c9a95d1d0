use Rattle.std.proofs.Common.{◌≡◌, ℕ, suc, ◌+◌, ◌<◌, ◌≤◌, List, take, length, arith, Option, sym, ap, subst, ◌∙◌, Ok, Err, inl}
use Rattle.std.proofs.lemmas.List.{length-take-le}
use Rattle.std.specs.Prelude.{IfSome}
use Rattle.page_face.specs.FreeList.{PageMap}
use Rattle.page_face.specs.declared.fault.PageFault.TheVariants.{Damaged}
use Rattle.btree_nodes.specs.Damages.{AreReadable}
use Rattle.btree_nodes.proofs.Harms.{asks-further}
use Rattle.spatial_base.specs.Key.{form_of}
use Rattle.rtree_nodes.specs.Slots.{Item}
use Rattle.rtree_nodes.specs.Stock.{View, view}
use Rattle.rtree_nodes.specs.Made as bare_made
use Rattle.rtree_nodes.specs.Loose.{Leads}
use Rattle.rtree_nodes.specs.Whole as bare
use Rattle.rtree_nodes.proofs.Climbs.{view-same}
use Rattle.rtree_nodes.specs.Reach.{place_item}
use Rattle.rtree_nodes.specs.Pages.{node_of}
use Rattle.rtree_nodes.specs.Entries.{is_entry}
use Rattle.rtree_nodes.specs.Ways.{IsWay}
use Rattle.node_rows.specs.Impacts.{impact_in}
use Rattle.irtree_shape.specs.Words.{worded}
use Rattle.irtree_shape.specs.Made.{nodes_in}
use Rattle.irtree_shape.specs.Whole.{IsWhole, IsFelled, level_at}
use Rattle.split_condense.specs.Entries.{impact_of}
use Rattle.irtree_shape.specs.Damages.{IsTreeHarm}
use Rattle.irtree_shape.proofs.Harms.{tree-later, find-harm}
use Rattle.split_condense.proofs.Ways.{found-way, way-take}
use Rattle.split_condense.proofs.Plain.{level-plain, sum-plain, well-plain, whole-plain}
use Rattle.split_condense.proofs.Worded.{entry-blind, leads-entry, leads-has}
use Rattle.split_condense.proofs.deleting.delete.Goals as goal

pub returns-in-Ok-None-clause-absent : goal.returns-in-Ok-None-clause-absent
returns-in-Ok-None-clause-absent g c = λ free whole done.
    let pages : PageMap = g.P.Pages.pages c.args.pages.now in
    let rows : ℕ = c.args.tree.now.rows in
    let root : ℕ = c.args.tree.now.root in
    let entry = c.args.entry.now in
    sum-plain pages rows root (is_entry entry.point (form_of entry.key)) (entry-blind entry.point (form_of entry.key))
    ∙ c.in-Ok-None.ensures.absent (well-plain pages rows root whole.tree) (ap Ok c.in-Ok-None.field-0-is)

pub returns-in-Ok-clause-felled : goal.returns-in-Ok-clause-felled
returns-in-Ok-clause-felled g c = λ free whole worded_all done.
    let P = g.P.Pages in
    let old : PageMap = P.pages c.args.pages.now in
    let mid : PageMap = P.pages c.find.new.pages in
    let root : ℕ = c.args.tree.now.root in
    let rows : ℕ = c.args.tree.now.rows in
    let entry = c.args.entry.now in
    let f : ℕ → ℕ = impact_of entry in
    let x : Item = place_item entry.point (form_of entry.key) in
    let frame = c.find.ensures.frame in
    let v = view-same mid old rows (P.count c.find.new.pages) (P.count c.args.pages.now) (P.first c.find.new.pages) (P.first c.args.pages.now) free frame.pages frame.count frame.first in
    let way = found-way old c.find.new.path root x c.in-Ok-Some.field-0 c.in-Ok-Some.level c.in-Ok-Some.field-0-is (c.in-Ok-Some.ensures.found (well-plain old rows root whole.tree)) in
    let some : 0 < root = let n = c.if-tree-eq0.false in omega arith in
    let long : c.from.result + 1 ≡ suc (bare.level_at node_of old root) = let e = way.1 in let f = c.from.ensures in omega arith in
    let path : List ℕ = take (c.from.result + 1) c.find.new.path in
    let there : Leads (bare_made.nodes_in node_of old) path (bare.level_at node_of old root) root x =
    subst (λ (n : ℕ). Leads (bare_made.nodes_in node_of old) (take n c.find.new.path) (bare.level_at node_of old root) root x) (sym long) way.0 in
    let worded_there = leads-entry old rows root (bare.level_at node_of old root) path entry.point (form_of entry.key) f some worded_all (sym (level-plain old rows root)) there in
    let words : impact_in c.words.result.now ≡ f = ap impact_in c.words.ensures in
    let leads : Leads (nodes_in node_of mid rows) path (level_at (nodes_in node_of mid rows) root) root (worded (impact_in c.words.result.now) x)
    = subst (λ (p : PageMap). Leads (nodes_in node_of p rows) path (level_at (nodes_in node_of p rows) root) root (worded (impact_in c.words.result.now) x)) (sym frame.pages)
    (subst (λ (h : ℕ → ℕ). Leads (nodes_in node_of old rows) path (level_at (nodes_in node_of old rows) root) root (worded h x)) (sym words) worded_there) in
    let felled = c.in-Ok.ensures.felled free x (subst (λ (w : View). IsWhole node_of w root) (sym v) whole) leads in
    let before : View = view old rows (P.count c.args.pages.now) (P.first c.args.pages.now) free in
    subst (λ (h : ℕ → ℕ). IsFelled node_of before (P.pages c.remove_at.new.pages) c.remove_at.new.tree.rows (P.count c.remove_at.new.pages) (P.first c.remove_at.new.pages) root c.remove_at.new.tree.root (worded h x)) words
    (subst (λ (w : View). IsFelled node_of w (P.pages c.remove_at.new.pages) c.remove_at.new.tree.rows (P.count c.remove_at.new.pages) (P.first c.remove_at.new.pages) root c.remove_at.new.tree.root (worded (impact_in c.words.result.now) x)) v felled)

pub returns-in-Ok-clause-there : goal.returns-in-Ok-clause-there
returns-in-Ok-clause-there g c = λ free whole done.
    let old : PageMap = g.P.Pages.pages c.args.pages.now in
    let root : ℕ = c.args.tree.now.root in
    let rows : ℕ = c.args.tree.now.rows in
    let entry = c.args.entry.now in
    let x : Item = place_item entry.point (form_of entry.key) in
    let way = found-way old c.find.new.path root x c.in-Ok-Some.field-0 c.in-Ok-Some.level c.in-Ok-Some.field-0-is (c.in-Ok-Some.ensures.found (well-plain old rows root whole.tree)) in
    let some : 0 < root = let n = c.if-tree-eq0.false in omega arith in
    leads-has old rows root (bare.level_at node_of old root) (take (suc (bare.level_at node_of old root)) c.find.new.path) entry.point (form_of entry.key) some (sym (level-plain old rows root)) way.0

pub returns-in-Err-remove_at-clause-no_false_damage : goal.returns-in-Err-remove_at-clause-no_false_damage
returns-in-Err-remove_at-clause-no_false_damage g c = λ free whole worded_all told damage e.
    let P = g.P.Pages in
    let old : PageMap = P.pages c.args.pages.now in
    let mid : PageMap = P.pages c.find.new.pages in
    let root : ℕ = c.args.tree.now.root in
    let rows : ℕ = c.args.tree.now.rows in
    let entry = c.args.entry.now in
    let f : ℕ → ℕ = impact_of entry in
    let x : Item = place_item entry.point (form_of entry.key) in
    let frame = c.find.ensures.frame in
    let v = view-same mid old rows (P.count c.find.new.pages) (P.count c.args.pages.now) (P.first c.find.new.pages) (P.first c.args.pages.now) free frame.pages frame.count frame.first in
    let way = found-way old c.find.new.path root x c.in-Ok-Some.field-0 c.in-Ok-Some.level c.in-Ok-Some.field-0-is (c.in-Ok-Some.ensures.found (well-plain old rows root whole.tree)) in
    let some : 0 < root = let n = c.if-tree-eq0.false in omega arith in
    let long : c.from.result + 1 ≡ suc (bare.level_at node_of old root) = let e = way.1 in let f = c.from.ensures in omega arith in
    let path : List ℕ = take (c.from.result + 1) c.find.new.path in
    let there : Leads (bare_made.nodes_in node_of old) path (bare.level_at node_of old root) root x =
    subst (λ (n : ℕ). Leads (bare_made.nodes_in node_of old) (take n c.find.new.path) (bare.level_at node_of old root) root x) (sym long) way.0 in
    let worded_there = leads-entry old rows root (bare.level_at node_of old root) path entry.point (form_of entry.key) f some worded_all (sym (level-plain old rows root)) there in
    let words : impact_in c.words.result.now ≡ f = ap impact_in c.words.ensures in
    let leads : Leads (nodes_in node_of mid rows) path (level_at (nodes_in node_of mid rows) root) root (worded (impact_in c.words.result.now) x)
    = subst (λ (p : PageMap). Leads (nodes_in node_of p rows) path (level_at (nodes_in node_of p rows) root) root (worded (impact_in c.words.result.now) x)) (sym frame.pages)
    (subst (λ (h : ℕ → ℕ). Leads (nodes_in node_of old rows) path (level_at (nodes_in node_of old rows) root) root (worded h x)) (sym words) worded_there) in
    let low : c.in-Ok-Some.level ≤ 9 = subst (λ (o : Option ℕ). IfSome o (λ l. l ≤ 9)) c.in-Ok-Some.field-0-is c.in-Ok-Some.ensures.low in
    let ten : length c.find.new.path ≡ 10 = c.find.array_long in
    let short : length path ≡ c.from.result + 1 = length-take-le (c.from.result + 1) c.find.new.path (let f = c.from.ensures in omega arith) in
    let level_is : level_at (nodes_in node_of mid rows) root ≡ bare.level_at node_of old root = ap (λ (p : PageMap). level_at (nodes_in node_of p rows) root) frame.pages ∙ level-plain old rows root in
    let length_is : length path ≡ suc (level_at (nodes_in node_of mid rows) root) = omega arith in
    let told_there : AreReadable mid (P.count c.find.new.pages) = subst (λ (p : PageMap). AreReadable p (P.count c.find.new.pages)) (sym frame.pages) (subst (λ (n : ℕ). AreReadable old n) (sym frame.count) told) in
    let fault_is : c.in-Err-remove_at.fault ≡ Damaged damage = cc in
    c.remove_at.ensures.no_false_damage free x (subst (λ (w : View). IsWhole node_of w root) (sym v) whole) some leads length_is told_there damage (c.in-Err-remove_at.is ∙ ap Err fault_is)

pub returns-in-Err-clause-no_false_damage : goal.returns-in-Err-clause-no_false_damage
returns-in-Err-clause-no_false_damage g c = λ free whole worded_all told damage e.
    let pages : PageMap = g.P.Pages.pages c.args.pages.now in
    let rows : ℕ = c.args.tree.now.rows in
    let root : ℕ = c.args.tree.now.root in
    let fault_is : c.in-Err.fault ≡ Damaged damage = cc in
    c.in-Err.ensures.no_false_damage rows free (whole-plain _ root whole) damage (ap Err fault_is)

pub returns-in-Err-remove_at-clause-damaged : goal.returns-in-Err-remove_at-clause-damaged
returns-in-Err-remove_at-clause-damaged g c = λ told damage e.
    let P = g.P.Pages in
    let old : PageMap = P.pages c.args.pages.now in
    let mid : PageMap = P.pages c.find.new.pages in
    let root : ℕ = c.args.tree.now.root in
    let frame = c.find.ensures.frame in
    let level : ℕ = c.in-Ok-Some.level in
    let path : List ℕ = take (c.from.result + 1) c.find.new.path in
    let found : IsWay old c.find.new.path level root = subst (λ (o : Option ℕ). IfSome o (λ l. IsWay old c.find.new.path l root)) c.in-Ok-Some.field-0-is (c.in-Ok-Some.ensures.way told) in
    let low : level ≤ 9 = subst (λ (o : Option ℕ). IfSome o (λ l. l ≤ 9)) c.in-Ok-Some.field-0-is c.in-Ok-Some.ensures.low in
    let way : IsWay mid path level root = subst (λ (p : PageMap). IsWay p path level root) (sym frame.pages)
    (way-take old c.find.new.path (c.from.result + 1) level root (let f = c.from.ensures in omega arith) found) in
    let ten : length c.find.new.path ≡ 10 = c.find.array_long in
    let short : length path ≡ c.from.result + 1 = length-take-le (c.from.result + 1) c.find.new.path (let f = c.from.ensures in omega arith) in
    let length_is : length path ≡ suc level = let f = c.from.ensures in omega arith in
    let told_there : AreReadable mid (P.count c.find.new.pages) = subst (λ (p : PageMap). AreReadable p (P.count c.find.new.pages)) (sym frame.pages) (subst (λ (n : ℕ). AreReadable old n) (sym frame.count) told) in
    let fault_is : c.in-Err-remove_at.fault ≡ Damaged damage = cc in
    tree-later c.remove_at.new.tree.rows (λ _. 1) (P.pages c.remove_at.new.pages) (P.count c.remove_at.new.pages) (P.first c.remove_at.new.pages) (P.asked c.args.pages.now) (P.asked c.find.new.pages) (P.asked c.remove_at.new.pages) damage
    c.find.ensures.more (c.remove_at.ensures.damaged level told_there length_is low way damage (c.in-Err-remove_at.is ∙ ap Err fault_is))

pub returns-in-Err-clause-damaged : goal.returns-in-Err-clause-damaged
returns-in-Err-clause-damaged g c = λ told damage e.
    let P = g.P.Pages in
    let old : PageMap = P.pages c.args.pages.now in
    let before : List ℕ = P.asked c.args.pages.now in
    let after : List ℕ = P.asked c.find.new.pages in
    let first : ℕ = P.first c.find.new.pages in
    let frame = c.find.ensures.frame in
    let fault_is : c.in-Err.fault ≡ Damaged damage = cc in
    let harm = find-harm old (P.count c.args.pages.now) c.args.tree.now.root before after damage (c.find.ensures.damaged damage (c.in-Err.is ∙ ap Err fault_is)) in
    subst (λ (p : PageMap). IsTreeHarm p (P.count c.find.new.pages) first c.args.tree.now.rows before after damage) (sym frame.pages)
    (subst (λ (n : ℕ). IsTreeHarm old n first c.args.tree.now.rows before after damage) (sym frame.count) (inl harm))

pub returns-in-Ok-clause-told : goal.returns-in-Ok-clause-told
returns-in-Ok-clause-told g c = λ told.
    let P = g.P.Pages in
    let frame = c.find.ensures.frame in
    c.in-Ok.ensures.told (subst (λ (p : PageMap). AreReadable p (P.count c.find.new.pages)) (sym frame.pages) (subst (λ (n : ℕ). AreReadable (P.pages c.args.pages.now) n) (sym frame.count) told))

pub returns-in-Ok-clause-more : goal.returns-in-Ok-clause-more
returns-in-Ok-clause-more g c = λ told.
    let P = g.P.Pages in
    let frame = c.find.ensures.frame in
    let told_there : AreReadable (P.pages c.find.new.pages) (P.count c.find.new.pages) =
    subst (λ (p : PageMap). AreReadable p (P.count c.find.new.pages)) (sym frame.pages) (subst (λ (n : ℕ). AreReadable (P.pages c.args.pages.now) n) (sym frame.count) told) in
    asks-further (λ _. 1) _ _ _ c.find.ensures.more (c.remove_at.ensures.more told_there)

pub returns-in-Err-remove_at-clause-more : goal.returns-in-Err-remove_at-clause-more
returns-in-Err-remove_at-clause-more g c = λ told.
    let P = g.P.Pages in
    let frame = c.find.ensures.frame in
    let told_there : AreReadable (P.pages c.find.new.pages) (P.count c.find.new.pages) =
    subst (λ (p : PageMap). AreReadable p (P.count c.find.new.pages)) (sym frame.pages) (subst (λ (n : ℕ). AreReadable (P.pages c.args.pages.now) n) (sym frame.count) told) in
    asks-further (λ _. 1) _ _ _ c.find.ensures.more (c.remove_at.ensures.more told_there)
