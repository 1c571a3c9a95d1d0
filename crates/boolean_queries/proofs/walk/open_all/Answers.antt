use Rattle.std.proofs.Common.{◌≡◌, ℕ, List, [], ◌∷◌, ◌++◌, Err, Vec, Global, rules, ap, subst, ◌∙◌}
use Rattle.std.specs.Prelude.{◌≢◌, IsErrOf}
use Rattle.std.specs.List.{AllByRecursion}
use Rattle.std.proofs.lemmas.List.{map-append}
use Rattle.page_face.specs.FreeList.{PageMap}
use Rattle.page_face.specs.Causes.{IsUncounted}
use Rattle.page_face.specs.declared.fault.Damage.{Damage}
use Rattle.page_face.specs.declared.fault.PageFault.TheVariants.{Damaged}
use Rattle.page_face.proofs.Frames.{reads_then}
use Rattle.btree_nodes.specs.Damages.{AreReadable, AskedSince}
use Rattle.btree_nodes.specs.Tree.{IsMap, map_uses}
use Rattle.btree_nodes.proofs.Walks.{same-fault}
use Rattle.paged_map.specs.Maps.{AreCounted}
use Rattle.place_values.specs.declared.hit.Hit.{Hit}
use Rattle.rtree_nodes.specs.Stock.{rows_form}
use Rattle.rtree_nodes.specs.Pages.{node_of}
use Rattle.rtree_nodes.specs.Subtrees.{IsNodeAt}
use Rattle.rtree_nodes.proofs.Subtrees.{page-counted}
use Rattle.irtree_shape.specs.Made.{nodes_in}
use Rattle.best_first.specs.declared.item.Item as best
use Rattle.best_first.specs.declared.item.Item.TheVariants.{Node}
use Rattle.best_first.specs.Items.{nodes_of, places_of}
use Rattle.best_first.specs.Leads.{leads}
use Rattle.boolean_queries.specs.declared.near.Near.{Near}
use Rattle.boolean_queries.specs.declared.sorting.Waiting.{Waiting}
use Rattle.boolean_queries.specs.Near.{kept}
use Rattle.boolean_queries.specs.Waiting.{item_of, waits}
use Rattle.boolean_queries.specs.Opens.{IsGood, filter_in, opens_in}
use Rattle.boolean_queries.specs.Walked.{Stands, AsksFor}
use Rattle.boolean_queries.specs.Harms.{IsNodeHarm}
use Rattle.boolean_queries.proofs.Walks.{walk-begun, walk-node, opened-smaller}
use Rattle.boolean_queries.proofs.Histories.{begun, opened, harm-node}
use Rattle.boolean_queries.proofs.Subtrees.{sound-next, sound-last}
use Rattle.boolean_queries.proofs.walk.open_all.Goals as goal

root-alone : (root level : ℕ) (none waiting : List Waiting) → none ≡ [] → waiting ≡ none ++ record { page = root; level = level; bound = 0 } ∷ [] → waits waiting ≡ Node root level 0 ∷ []
root-alone root level none waiting e w = ap waits (w ∙ ap (λ (l : List Waiting). l ++ record { page = root; level = level; bound = 0 } ∷ []) e)

-- the root waits alone
pub walk-init : goal.walk-init
walk-init g c =
    let p = g.P.Pages in
    let old : PageMap = p.pages c.args.pages.now in
    let rows : ℕ = c.args.tree.now.rows in
    let nodes = nodes_in node_of old rows in
    let opens = opens_in c.args.query.now.region c.args.query.now.ids.now (filter_in c.args.query.now.filter) nodes in
    let root = c.args.tree.now.root in
    let level = c.args.level in
    let alone = root-alone root level c.new-waiting.result.items c.push.new.self.items c.new-waiting.ensures.items c.in-Ok.ensures.items in
    record {
      frame = search rules;
      faults = search rules;
      search = λ good. walk-begun opens (Node root level 0 ∷ []) (waits c.push.new.self.items) c.new-found.result.items c.new-found.ensures.items alone;
      sound = λ good. rw alone ((good.node, good.counted), tt);
      history = λ told. begun c.args.query.now.region old (map_uses rows_form old rows) (IsGood old rows (p.count c.args.pages.now) level root) opens root level (waits c.push.new.self.items) c.new-found.result.items (p.asked c.args.pages.now) c.new-found.ensures.items alone;
    }

pub walk-smaller : goal.walk-smaller
walk-smaller g c =
    let node = c.in-Some.node in
    let mask = c.in-Ok-open.mask in
    let rest = c.pop.new.self.items in
    let q : waits c.walk.waiting.items ≡ waits rest ++ Node node.page node.level node.bound ∷ [] = ap waits c.in-Some.ensures.items ∙ map-append item_of rest (node ∷ []) in
    let n : waits c.sort_near.new.waiting.items ≡ waits rest ++ nodes_of (kept mask c.open.new.near.items) =
    c.in-Ok-sort_near.ensures.waiting ∙ ap (λ (l : List Near). waits rest ++ nodes_of (kept mask l)) c.deref.ensures.value in
    opened-smaller node.page node.level node.bound (kept mask c.open.new.near.items) (waits c.walk.waiting.items) (waits rest) (waits c.sort_near.new.waiting.items) q c.in-Ok-open.ensures.few c.in-Ok-open.ensures.children n

pub walk-preserved : goal.walk-preserved
walk-preserved g c =
    let p = g.P.Pages in
    let old : PageMap = p.pages c.args.pages.now in
    let count : ℕ = p.count c.args.pages.now in
    let rows : ℕ = c.args.tree.now.rows in
    let mine = map_uses rows_form old rows in
    let nodes = nodes_in node_of old rows in
    let region = c.args.query.now.region in
    let ids = c.args.query.now.ids.now in
    let filter = filter_in c.args.query.now.filter in
    let opens = opens_in region ids filter nodes in
    let root : ℕ = c.args.tree.now.root in
    let kept_so = c.walk.invariant in
    let f = kept_so.frame in
    let node = c.in-Some.node in
    let page : ℕ = node.page in
    let level : ℕ = node.level in
    let mask : ℕ = c.in-Ok-open.mask in
    let items : List best.Item = kept mask c.open.new.near.items in
    let rest : List best.Item = waits c.pop.new.self.items in
    let queue : List best.Item = waits c.walk.waiting.items in
    let new : List best.Item = waits c.sort_near.new.waiting.items in
    let now : List Hit = c.walk.found.items in
    let found : List Hit = c.sort_near.new.found.items in
    let mid : List ℕ = p.asked c.walk.pages in
    let last : List ℕ = p.asked c.open.new.pages in
    let q : queue ≡ rest ++ Node page level node.bound ∷ [] = ap waits c.in-Some.ensures.items ∙ map-append item_of c.pop.new.self.items (node ∷ []) in
    let n : new ≡ rest ++ nodes_of items = c.in-Ok-sort_near.ensures.waiting ∙ ap (λ (l : List Near). rest ++ nodes_of (kept mask l)) c.deref.ensures.value in
    let h : found ≡ now ++ places_of items = c.in-Ok-sort_near.ensures.found ∙ ap (λ (l : List Near). now ++ places_of (kept mask l)) c.deref.ensures.value in
    let gives = subst (λ (x : PageMap). IsMap rows_form x rows → IsNodeAt (nodes_in node_of x rows) level page → items ≡ opens_in region ids filter (nodes_in node_of x rows) page level) f.pages c.in-Ok-open.ensures.gives in
    let asks = subst (λ (k : ℕ). AreReadable old k → AsksFor (page ∷ []) mine mid last) f.count
    (subst (λ (x : PageMap). AreReadable x (p.count c.walk.pages) → AsksFor (page ∷ []) (map_uses rows_form x rows) mid last) f.pages c.open.ensures.asks) in
    let asked = subst (λ (k : ℕ). AreReadable old k → AskedSince mid last page) f.count
    (subst (λ (x : PageMap). AreReadable x (p.count c.walk.pages) → AskedSince mid last page) f.pages c.in-Ok-open.ensures.asked) in
    let stand = subst (λ (x : PageMap). AllByRecursion (Stands region (x page) level) items) f.pages c.in-Ok-open.ensures.stand in
    let here = λ (good : IsGood old rows count c.args.level root). sound-last nodes count page level node.bound queue rest q (kept_so.sound good) in
    record {
      frame = reads_then p g.met.P.Pages.goes_further g.met.P.Pages.reads_further _ _ _ f c.open.ensures.frame;
      faults = search rules;
      search = λ good. walk-node opens (leads opens (Node root c.args.level 0 ∷ [])) now found page level node.bound items queue rest new q (gives good.map (here good).0) c.in-Ok-open.ensures.children n h (kept_so.search good);
      sound = λ good. sound-next nodes count page level node.bound region ids filter items queue rest new q n (gives good.map (here good).0) (kept_so.sound good);
      history = λ told.
          opened region old mine (IsGood old rows count c.args.level root) opens root c.args.level (p.asked c.args.pages.now) mid last page level node.bound items queue rest new now found q n h (asks told) (asked told) stand c.in-Ok-open.ensures.children
          (λ good. gives good.map (here good).0) (kept_so.history told);
    }

pub returns-in-Err-sort_near-clause-frame : goal.returns-in-Err-sort_near-clause-frame
returns-in-Err-sort_near-clause-frame g c = reads_then g.P.Pages g.met.P.Pages.goes_further g.met.P.Pages.reads_further _ _ _ c.walk.invariant.frame c.open.ensures.frame

-- no node of a well-formed tree is refused
pub returns-in-Err-open-clause-no_false_damage : goal.returns-in-Err-open-clause-no_false_damage
returns-in-Err-open-clause-no_false_damage g c = λ good told damage e.
    let p = g.P.Pages in
    let old : PageMap = p.pages c.args.pages.now in
    let count : ℕ = p.count c.args.pages.now in
    let rows : ℕ = c.args.tree.now.rows in
    let nodes = nodes_in node_of old rows in
    let f = c.walk.invariant.frame in
    let node = c.in-Some.node in
    let page : ℕ = node.page in
    let level : ℕ = node.level in
    let rest : List best.Item = waits c.pop.new.self.items in
    let queue : List best.Item = waits c.walk.waiting.items in
    let q : queue ≡ rest ++ Node page level node.bound ∷ [] = ap waits c.in-Some.ensures.items ∙ map-append item_of c.pop.new.self.items (node ∷ []) in
    let here = sound-last nodes count page level node.bound queue rest q (c.walk.invariant.sound good) in
    let no_false_damage = subst (λ (k : ℕ). IsMap rows_form old rows → AreCounted (map_uses rows_form old rows) k → AreReadable old k → IsNodeAt nodes level page → (IsUncounted k page → ⊥) → (harm : Damage) → c.open.result ≢ Err (Damaged harm)) f.count
    (subst (λ (x : PageMap). IsMap rows_form x rows → AreCounted (map_uses rows_form x rows) (p.count c.walk.pages) → AreReadable x (p.count c.walk.pages) → IsNodeAt (nodes_in node_of x rows) level page → (IsUncounted (p.count c.walk.pages) page → ⊥) → (harm : Damage) → c.open.result ≢ Err (Damaged harm))
    f.pages c.open.ensures.no_false_damage) in
    no_false_damage good.map good.rows_counted told here.0 (page-counted nodes count level page here.1) damage (c.in-Err-open.is ∙ ap Err (same-fault {T = Vec Hit Global} _ _ e))

-- a refused node was given by a node that was opened, or is the root
pub returns-in-Err-open-clause-damaged : goal.returns-in-Err-open-clause-damaged
returns-in-Err-open-clause-damaged g c = λ told right damage e.
    let p = g.P.Pages in
    let old : PageMap = p.pages c.args.pages.now in
    let count : ℕ = p.count c.args.pages.now in
    let rows : ℕ = c.args.tree.now.rows in
    let nodes = nodes_in node_of old rows in
    let opens = opens_in c.args.query.now.region c.args.query.now.ids.now (filter_in c.args.query.now.filter) nodes in
    let root : ℕ = c.args.tree.now.root in
    let f = c.walk.invariant.frame in
    let node = c.in-Some.node in
    let page : ℕ = node.page in
    let level : ℕ = node.level in
    let mid : List ℕ = p.asked c.walk.pages in
    let last : List ℕ = p.asked c.open.new.pages in
    let rest : List best.Item = waits c.pop.new.self.items in
    let queue : List best.Item = waits c.walk.waiting.items in
    let q : queue ≡ rest ++ Node page level node.bound ∷ [] = ap waits c.in-Some.ensures.items ∙ map-append item_of c.pop.new.self.items (node ∷ []) in
    let harm = subst (λ (k : ℕ). AreReadable old k → (d : Damage) → IsErrOf c.open.result (Damaged d) → IsNodeHarm old k rows level page mid last d) f.count
    (subst (λ (x : PageMap). AreReadable x (p.count c.walk.pages) → (d : Damage) → IsErrOf c.open.result (Damaged d) → IsNodeHarm x (p.count c.walk.pages) rows level page mid last d) f.pages c.open.ensures.damaged) told damage
    (c.in-Err-open.is ∙ ap Err (same-fault {T = Vec Hit Global} _ _ e)) in
    harm-node c.args.query.now.region old (map_uses rows_form old rows) (IsGood old rows count c.args.level root) opens root c.args.level rows count (p.asked c.args.pages.now) mid last page level node.bound queue rest c.walk.found.items damage
    q right harm (c.walk.invariant.history told)
