use Rattle.std.proofs.Common.{◌≡◌, ℕ, ◌<◌, List, [], ◌∷◌, Err, Vec, Global, sym, ap, subst, ◌∙◌, arith}
use Rattle.std.specs.Prelude.{◌≢◌, IsErrOf}
use Rattle.std.specs.List.{flat_map}
use Rattle.page_face.specs.FreeList.{PageMap}
use Rattle.page_face.specs.declared.fault.Damage.{Damage}
use Rattle.page_face.specs.declared.fault.PageFault.TheVariants.{Damaged}
use Rattle.btree_nodes.specs.Damages.{AreReadable}
use Rattle.btree_nodes.specs.Tree.{map_uses}
use Rattle.btree_nodes.proofs.Walks.{same-fault}
use Rattle.place_values.specs.Members.{SameMembers, ranked_from_sorted, ranked_same}
use Rattle.place_values.specs.declared.hit.Hit.{Hit}
use Rattle.place_values.specs.Hit.{hits_linear}
use Rattle.rtree_nodes.specs.Stock.{rows_form}
use Rattle.rtree_nodes.specs.Pages.{level_in, node_of}
use Rattle.rtree_nodes.specs.Harms.{IfReadable}
use Rattle.rtree_nodes.proofs.Subtrees.{page-counted}
use Rattle.irtree_shape.specs.Made.{nodes_in}
use Rattle.irtree_shape.specs.Whole.{level_at}
use Rattle.best_first.specs.declared.item.Item.TheVariants.{Node}
use Rattle.best_first.specs.Leads.{leads}
use Rattle.node_filter.specs.Entries.{tree_places}
use Rattle.boolean_queries.specs.Opens.{Fits, IsGood, filter_in, hits_in, opens_in, starts_at}
use Rattle.boolean_queries.specs.Walked.{Walked}
use Rattle.boolean_queries.specs.Harms.{IsQueryHarm}
use Rattle.boolean_queries.proofs.Logs.{asks-page}
use Rattle.boolean_queries.proofs.Fine.{joined-fine}
use Rattle.boolean_queries.proofs.Histories.{walked-empty, walked-whole, harm-sooner}
use Rattle.boolean_queries.proofs.Subtrees.{whole-good, whole-low, root-level, starts-are}
use Rattle.boolean_queries.proofs.Leads.{tree-leads}
use Rattle.boolean_queries.proofs.walk.walk.Goals as goal

-- the empty tree has no page
pub returns-then-tree-eq0-clause-walked : goal.returns-then-tree-eq0-clause-walked
returns-then-tree-eq0-clause-walked g c = λ told.
    let old : PageMap = g.P.Pages.pages c.args.pages.now in
    let rows : ℕ = c.args.tree.now.rows in
    let nodes = nodes_in node_of old rows in
    let root : ℕ = c.args.tree.now.root in
    walked-empty c.args.query.now.region old (map_uses rows_form old rows) (Fits old rows (g.P.Pages.count c.args.pages.now) (g.P.Pages.first c.args.pages.now) root)
    (opens_in c.args.query.now.region c.args.query.now.ids.now (filter_in c.args.query.now.filter) nodes) (starts_at nodes root) root (g.P.Pages.asked c.args.pages.now) c.new.result.items (ap (starts_at nodes) c.if-tree-eq0.true) c.new.ensures.items

-- the root of a well-formed tree isn't refused
pub returns-in-Err-clause-no_false_damage : goal.returns-in-Err-clause-no_false_damage
returns-in-Err-clause-no_false_damage g c = λ fits told damage e.
    let old : PageMap = g.P.Pages.pages c.args.pages.now in
    let count : ℕ = g.P.Pages.count c.args.pages.now in
    let rows : ℕ = c.args.tree.now.rows in
    let nodes = nodes_in node_of old rows in
    let root : ℕ = c.args.tree.now.root in
    let first : ℕ = g.P.Pages.first c.args.pages.now in
    let some : 0 < root = let n = c.if-tree-eq0.false in omega arith in
    let was = c.in-Err.is ∙ ap Err (same-fault {T = Vec Hit Global} _ _ e) in
    let d = c.enter_root.ensures.damaged damage was in
    let good = whole-good old rows count first root some fits in
    joined-fine damage.rule old rows count (level_at nodes root) root (λ found. 9 < found) good.node (page-counted nodes count (level_at nodes root) root good.counted)
    (λ at high. let low = whole-low old rows count first root some fits (c.enter_root.ensures.counted damage was at) in omega arith) d.2

-- nor what it leads to
pub returns-in-Err-open_all-clause-no_false_damage : goal.returns-in-Err-open_all-clause-no_false_damage
returns-in-Err-open_all-clause-no_false_damage g c = λ fits told damage e.
    let old : PageMap = g.P.Pages.pages c.args.pages.now in
    let count : ℕ = g.P.Pages.count c.args.pages.now in
    let rows : ℕ = c.args.tree.now.rows in
    let nodes = nodes_in node_of old rows in
    let root : ℕ = c.args.tree.now.root in
    let first : ℕ = g.P.Pages.first c.args.pages.now in
    let some : 0 < root = let n = c.if-tree-eq0.false in omega arith in
    let level : ℕ = c.in-Ok.level in
    let is : level ≡ level_at nodes root = root-level old rows count first root level (g.P.Pages.looked c.enter_root.new.pages) some fits c.in-Ok.ensures.level c.in-Ok.ensures.gives in
    let f = c.enter_root.ensures.frame in
    let no_false_damage = subst (λ (k : ℕ). IsGood old rows k level root → AreReadable old k → (harm : Damage) → c.open_all.result ≢ Err (Damaged harm)) f.count
    (subst (λ (x : PageMap). IsGood x rows (g.P.Pages.count c.enter_root.new.pages) level root → AreReadable x (g.P.Pages.count c.enter_root.new.pages) → (harm : Damage) → c.open_all.result ≢ Err (Damaged harm)) f.pages c.open_all.ensures.no_false_damage) in
    no_false_damage (subst (λ (l : ℕ). IsGood old rows count l root) (sym is) (whole-good old rows count first root some fits)) told damage (c.in-Err-open_all.is ∙ ap Err (same-fault {T = Vec Hit Global} _ _ e))

pub returns-in-Err-open_all-clause-damaged : goal.returns-in-Err-open_all-clause-damaged
returns-in-Err-open_all-clause-damaged g c = λ told damage e.
    let old : PageMap = g.P.Pages.pages c.args.pages.now in
    let count : ℕ = g.P.Pages.count c.args.pages.now in
    let rows : ℕ = c.args.tree.now.rows in
    let root : ℕ = c.args.tree.now.root in
    let level : ℕ = c.in-Ok.level in
    let mid : List ℕ = g.P.Pages.asked c.enter_root.new.pages in
    let new : List ℕ = g.P.Pages.asked c.open_all.new.pages in
    let f = c.enter_root.ensures.frame in
    let harm = subst (λ (k : ℕ). AreReadable old k → IfReadable old root (λ bytes. level_in bytes ≡ level) → (d : Damage) → IsErrOf c.open_all.result (Damaged d) → IsQueryHarm old k rows root mid new d) f.count
    (subst (λ (x : PageMap). AreReadable x (g.P.Pages.count c.enter_root.new.pages) → IfReadable x root (λ bytes. level_in bytes ≡ level) → (d : Damage) → IsErrOf c.open_all.result (Damaged d) → IsQueryHarm x (g.P.Pages.count c.enter_root.new.pages) rows root mid new d) f.pages c.open_all.ensures.damaged)
    told (λ some. sym (c.in-Ok.ensures.level ∙ ap level_in (c.in-Ok.ensures.gives some))) damage (c.in-Err-open_all.is ∙ ap Err (same-fault {T = Vec Hit Global} _ _ e)) in
    let a = c.in-Ok.ensures.asks in
    harm-sooner old count rows root (g.P.Pages.asked c.args.pages.now) a.more mid new damage a.is harm

-- all places that the query asks for, in order
pub returns-clause-found : goal.returns-clause-found
returns-clause-found g c = λ on fits.
    let old : PageMap = g.P.Pages.pages c.args.pages.now in
    let count : ℕ = g.P.Pages.count c.args.pages.now in
    let rows : ℕ = c.args.tree.now.rows in
    let nodes = nodes_in node_of old rows in
    let root : ℕ = c.args.tree.now.root in
    let first : ℕ = g.P.Pages.first c.args.pages.now in
    let region = c.args.query.now.region in
    let ids = c.args.query.now.ids.now in
    let filter = filter_in c.args.query.now.filter in
    let some : 0 < root = let n = c.if-tree-eq0.false in omega arith in
    let level : ℕ = c.in-Ok.level in
    let is : level ≡ level_at nodes root = root-level old rows count first root level (g.P.Pages.looked c.enter_root.new.pages) some fits c.in-Ok.ensures.level c.in-Ok.ensures.gives in
    let good = subst (λ (l : ℕ). IsGood old rows count l root) (sym is) (whole-good old rows count first root some fits) in
    let f = c.enter_root.ensures.frame in
    let found : List Hit = c.in-Ok-open_all.found.items in
    let same = subst (λ (k : ℕ). IsGood old rows k level root → SameMembers (leads (opens_in region ids filter nodes) (Node root level 0 ∷ [])) found) f.count
    (subst (λ (x : PageMap). IsGood x rows (g.P.Pages.count c.enter_root.new.pages) level root → SameMembers (leads (opens_in region ids filter (nodes_in node_of x rows)) (Node root level 0 ∷ [])) found) f.pages c.in-Ok-open_all.ensures.found) good in
    ranked_from_sorted hits_linear found c.sort_unstable.new.self.items c.sort_unstable.ensures.sorted c.sort_unstable.ensures.permutation
    ∙ ranked_same hits_linear (leads (opens_in region ids filter nodes) (Node root level 0 ∷ [])) found same
    ∙ ranked_same hits_linear (flat_map (hits_in region ids filter) (tree_places nodes root)) (leads (opens_in region ids filter nodes) (Node root level 0 ∷ [])) (tree-leads region ids filter old rows on level root some is good.node)

pub returns-clause-walked : goal.returns-clause-walked
returns-clause-walked g c = λ told.
    let old : PageMap = g.P.Pages.pages c.args.pages.now in
    let count : ℕ = g.P.Pages.count c.args.pages.now in
    let rows : ℕ = c.args.tree.now.rows in
    let mine = map_uses rows_form old rows in
    let nodes = nodes_in node_of old rows in
    let root : ℕ = c.args.tree.now.root in
    let first : ℕ = g.P.Pages.first c.args.pages.now in
    let region = c.args.query.now.region in
    let ids = c.args.query.now.ids.now in
    let filter = filter_in c.args.query.now.filter in
    let some : 0 < root = let n = c.if-tree-eq0.false in omega arith in
    let level : ℕ = c.in-Ok.level in
    let mid : List ℕ = g.P.Pages.asked c.enter_root.new.pages in
    let new : List ℕ = g.P.Pages.asked c.open_all.new.pages in
    let f = c.enter_root.ensures.frame in
    let found : List Hit = c.in-Ok-open_all.found.items in
    let walked = subst (λ (k : ℕ). AreReadable old k → Walked region old mine (IsGood old rows k level root) (opens_in region ids filter nodes) (Node root level 0 ∷ []) root mid new found) f.count
    (subst (λ (x : PageMap). AreReadable x (g.P.Pages.count c.enter_root.new.pages) → Walked region x (map_uses rows_form x rows) (IsGood x rows (g.P.Pages.count c.enter_root.new.pages) level root) (opens_in region ids filter (nodes_in node_of x rows)) (Node root level 0 ∷ []) root mid new found)
    f.pages c.in-Ok-open_all.ensures.walked) told in
    let is : Fits old rows count first root → level ≡ level_at nodes root = λ fits. root-level old rows count first root level (g.P.Pages.looked c.enter_root.new.pages) some fits c.in-Ok.ensures.level c.in-Ok.ensures.gives in
    walked-whole region old mine (IsGood old rows count level root) (Fits old rows count first root) (opens_in region ids filter nodes) (Node root level 0 ∷ []) (starts_at nodes root) root (g.P.Pages.asked c.args.pages.now) mid new found c.sort_unstable.new.self.items
    (λ fits. subst (λ (l : ℕ). IsGood old rows count l root) (sym (is fits)) (whole-good old rows count first root some fits)) (λ fits. starts-are nodes root level some (is fits)) (asks-page root mine _ mid c.in-Ok.ensures.asks) c.sort_unstable.ensures.permutation walked
