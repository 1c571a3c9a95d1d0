use Rattle.std.proofs.Common.{◌≡◌, ℕ, ◌<◌, ◌∙◌, List, [], ◌∷◌, length, Vec, Global, inl, sym, subst, arith}
use Rattle.std.specs.Prelude.{IfOk}
use Rattle.page_face.specs.FreeList.{PageMap}
use Rattle.btree_nodes.specs.Damages.{AskedSince}
use Rattle.btree_nodes.specs.Tree.{map_uses}
use Rattle.btree_nodes.proofs.Harms.{asked-before}
use Rattle.rtree_nodes.specs.Stock.{rows_form}
use Rattle.rtree_nodes.specs.Pages.{level_in}
use Rattle.rtree_nodes.specs.Harms.{BreaksAlone}
use Rattle.node_rows.specs.Rows.{bytes_in}
use Rattle.best_first.specs.declared.item.Item.{Item}
use Rattle.best_first.specs.declared.item.Item.TheVariants.{Node}
use Rattle.best_first.specs.Items.{pages_of}
use Rattle.best_first.specs.Openings.{AsksNodes}
use Rattle.node_filter.specs.Numbers.{byte_of}
use Rattle.best_first.specs.Asks.{qualifies}
use Rattle.best_first.specs.NodeOpenings.{some_below, first_in}
use Rattle.best_first.specs.Harms.{IsNodePage}
use Rattle.best_first.proofs.Asking.{asks-both, asks-rows}
use Rattle.best_first.proofs.Outcomes.{ok-weaker, sound-alone}
use Rattle.best_first.proofs.Starts.{first-none, first-some, marked-same}
use Rattle.best_first.proofs.opening.started.Goals as goal

pub returns-then-not-has_any-clause-given : goal.returns-then-not-has_any-clause-given
returns-then-not-has_any-clause-given g c = λ map some.
    let F : ℕ → List ℕ → ℕ = byte_of c.args.ids.now (bytes_in (g.P.Pages.pages c.args.pages.now) c.args.tree.now.rows c.args.tree.now.root) in
    let none = sym (marked-same c.in-Ok.marks.slots (λ i. qualifies c.args.ask.now 1 (F i)) (c.in-Ok.ensures.slots map)) ∙ sym c.has_any.ensures ∙ c.if-not-has_any.true in
    c.new-then-not-has_any.ensures.items ∙ sym (first-none (some_below 32 (λ i. qualifies c.args.ask.now 1 (F i))) c.args.tree.now.root (level_in (g.P.Pages.pages c.args.pages.now c.args.tree.now.root)) none)

pub returns-then-not-has_any-clause-asks : goal.returns-then-not-has_any-clause-asks
returns-then-not-has_any-clause-asks g c = λ told. asks-rows (g.P.Pages.pages c.args.pages.now) c.args.tree.now.rows _ _ _ (c.marks.ensures.rows.own told)

pub returns-then-not-has_any-clause-asks_root : goal.returns-then-not-has_any-clause-asks_root
returns-then-not-has_any-clause-asks_root g c = λ told. asks-rows (g.P.Pages.pages c.args.pages.now) c.args.tree.now.rows _ _ _ (c.marks.ensures.rows.own told)

pub returns-clause-given : goal.returns-clause-given
returns-clause-given g c = λ map some.
    let old : PageMap = g.P.Pages.pages c.args.pages.now in
    let root : ℕ = c.args.tree.now.root in
    let F : ℕ → List ℕ → ℕ = byte_of c.args.ids.now (bytes_in old c.args.tree.now.rows root) in
    let positive : 0 < root = let k = c.if-tree-eq0.false in grind arith in
    let any = sym (marked-same c.in-Ok.marks.slots (λ i. qualifies c.args.ask.now 1 (F i)) (c.in-Ok.ensures.slots map)) ∙ sym c.has_any.ensures ∙ c.if-not-has_any.false in
    ok-weaker (λ (items : Vec Item Global). items.items ≡ Node root (level_in (old root)) 0 ∷ []) (λ (items : Vec Item Global). items.items ≡ first_in (some_below 32 (λ i. qualifies c.args.ask.now 1 (F i))) root (level_in (old root))) c.root_item.result
    (λ items e. e ∙ sym (first-some (some_below 32 (λ i. qualifies c.args.ask.now 1 (F i))) root (level_in (old root)) positive any))
    (subst (λ (p : PageMap). 0 < length (p root) → IfOk c.root_item.result (λ items. items.items ≡ Node root (level_in (p root)) 0 ∷ [])) c.marks.ensures.rows.frame.pages c.root_item.ensures.given (some positive))

pub returns-clause-asks : goal.returns-clause-asks
returns-clause-asks g c = λ told.
    let old : PageMap = g.P.Pages.pages c.args.pages.now in
    let rows : ℕ = c.args.tree.now.rows in
    let root : ℕ = c.args.tree.now.root in
    let both = asks-both old rows root (g.P.Pages.asked c.args.pages.now) (g.P.Pages.asked c.marks.new.pages) (g.P.Pages.asked c.root_item.new.pages) (c.marks.ensures.rows.own told) c.root_item.ensures.asks in
    ok-weaker _ (λ (items : Vec Item Global). AsksNodes (IsNodePage old rows) (pages_of items.items) (g.P.Pages.asked c.args.pages.now) (g.P.Pages.asked c.root_item.new.pages)) c.root_item.result
    (λ items e. subst (λ (ns : List ℕ). AsksNodes (IsNodePage old rows) ns (g.P.Pages.asked c.args.pages.now) (g.P.Pages.asked c.root_item.new.pages)) (sym e.1) both) c.root_item.ensures.alone

pub returns-clause-asks_root : goal.returns-clause-asks_root
returns-clause-asks_root g c = λ told. asks-both (g.P.Pages.pages c.args.pages.now) c.args.tree.now.rows c.args.tree.now.root _ _ _ (c.marks.ensures.rows.own told) c.root_item.ensures.asks

pub returns-clause-damaged : goal.returns-clause-damaged
returns-clause-damaged g c = λ told damage e.
    let old : PageMap = g.P.Pages.pages c.args.pages.now in
    let count : ℕ = g.P.Pages.count c.args.pages.now in
    let root : ℕ = c.args.tree.now.root in
    let f = c.marks.ensures.rows.frame in
    let d = c.root_item.ensures.damaged damage e in
    let there = asked-before (map_uses rows_form old c.args.tree.now.rows) (g.P.Pages.asked c.args.pages.now) (g.P.Pages.asked c.marks.new.pages) (g.P.Pages.asked c.root_item.new.pages) root (c.marks.ensures.rows.own told) d.1 in
    let broken : BreaksAlone damage.rule old count root =
    subst (λ (k : ℕ). BreaksAlone damage.rule old k root) f.count (subst (λ (x : PageMap). BreaksAlone damage.rule x (g.P.Pages.count c.marks.new.pages) root) f.pages d.2) in
    (subst (AskedSince (g.P.Pages.asked c.args.pages.now) (g.P.Pages.asked c.root_item.new.pages)) (sym d.0) there, inl (inl (subst (BreaksAlone damage.rule old count) (sym d.0) broken)))

pub returns-clause-no_false_damage : goal.returns-clause-no_false_damage
returns-clause-no_false_damage g c = λ map counted told sound damage e.
    let old : PageMap = g.P.Pages.pages c.args.pages.now in
    let count : ℕ = g.P.Pages.count c.args.pages.now in
    let root : ℕ = c.args.tree.now.root in
    let positive : 0 < root = let k = c.if-tree-eq0.false in grind arith in
    let f = c.marks.ensures.rows.frame in
    let d = c.root_item.ensures.damaged damage e in
    let broken : BreaksAlone damage.rule old count root =
    subst (λ (k : ℕ). BreaksAlone damage.rule old k root) f.count (subst (λ (x : PageMap). BreaksAlone damage.rule x (g.P.Pages.count c.marks.new.pages) root) f.pages d.2) in
    let s = sound positive in
    sound-alone damage.rule old count root s.0 s.1 broken
