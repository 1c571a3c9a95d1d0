use Rattle.std.proofs.Common.{arith, ◌≡◌, ◌^◌, ◌<◌, ℕ, ◌∙◌, sym, ap, List, subst, refl, Err}
use Rattle.std.specs.Result.{IfOk}
use Rattle.std.proofs.lemmas.Result.{IfOk-weaker}
use Rattle.page_face.specs.FreeList.{PageMap}
use Rattle.page_face.specs.Causes.{IsUncounted}
use Rattle.page_face.specs.Number.{number}
use Rattle.page_face.specs.declared.fault.Damage.{Damage}
use Rattle.btree_nodes.proofs.Numbers.{number_below}
use Rattle.btree_nodes.specs.declared.form.Form.{Form}
use Rattle.btree_nodes.specs.Nodes.{least_of_root}
use Rattle.btree_nodes.specs.Tree.{IsTree, uses, map_uses, level_of}
use Rattle.btree_nodes.specs.Damages.{AreReadable, AskedSince, AsksOnly}
use Rattle.btree_nodes.proofs.Trees.{tree-size}
use Rattle.btree_nodes.proofs.Harms.{asks-more, asks-nothing}
use Rattle.btree_nodes.proofs.Walks.{same-fault, told-read, uses-self, asks-read, named-refused}
use Rattle.btree_nodes.specs.Steps.{low_of, high_of}
use Rattle.btree_nodes.specs.Below.{LiesBelow}
use Rattle.btree_nodes.specs.Leaves.{IsLeafOf}
use Rattle.btree_nodes.specs.Ways.{IsWay, IsWayOf}
use Rattle.btree_nodes.specs.declared.locating.Leaf.{Leaf}
use Rattle.btree_nodes.proofs.Roots.{enter, map-tree, map-uses, leaf-of}
use Rattle.btree_nodes.proofs.locating.locate.Goals as goal

pub descend_to_leaf-requires-clause-to : goal.descend_to_leaf-requires-clause-to
descend_to_leaf-requires-clause-to g c =
    rw (c.all.ensures.high c.args.form.key)
    (subst (λ (n : ℕ). number c.args.key.now < 256 ^ n) c.requires.key (number_below c.args.key.now (λ i. let f = c.type_inv.key i in omega arith)))

pub returns-in-Ok-clause-located : goal.returns-in-Ok-clause-located
returns-in-Ok-clause-located g c = λ map.
    let form : Form = c.args.form in
    let old : PageMap = g.P.Pages.pages c.args.pages.now in
    let count : ℕ = g.P.Pages.count c.args.pages.now in
    let root : ℕ = c.args.root in
    let top : ℕ = level_of (old root) in
    let lo : ℕ = low_of form c.descend_to_leaf.new.bounds in
    let hi : ℕ = high_of form c.descend_to_leaf.new.bounds in
    let looked : List ℕ = g.P.Pages.looked c.descend_to_leaf.new.pages in
    let tree = map-tree form old root c.requires.root map in
    let bytes = c.in-Ok.ensures.gives (tree-size form (least_of_root top) old top root 0 (256 ^ form.key) tree) in
    let level = c.level-level.ensures ∙ ap level_of c.looked.ensures ∙ ap level_of bytes in
    let claim = enter
    (λ p k v w a b. g.P.Pages.looked c.look.new.self ≡ p root → IsTree form w p v root a b → IfOk c.descend_to_leaf.result (λ leaf. (looked ≡ p leaf.page) × LiesBelow form p w v root a b leaf.least 0 leaf.page lo hi))
    old (g.P.Pages.pages c.look.new.self) count (g.P.Pages.count c.look.new.self) top c.level-level.result (least_of_root top) c.root_least-least.result 0 (low_of form c.all.result) (256 ^ form.key) (high_of form c.all.result)
    c.in-Ok.ensures.pages c.in-Ok.ensures.count level (c.root_least-least.ensures ∙ ap least_of_root level) (c.all.ensures.low form.key) (c.all.ensures.high form.key) c.descend_to_leaf.ensures.located in
    IfOk-weaker c.descend_to_leaf.result _ (λ leaf. (looked ≡ old leaf.page) × IsLeafOf form old root leaf.least leaf.page lo hi)
    (λ leaf h. (h.0, leaf-of form old root leaf.least leaf.page lo hi c.requires.root h.1)) (claim bytes tree)

pub returns-in-Ok-clause-own : goal.returns-in-Ok-clause-own
returns-in-Ok-clause-own g c = λ told.
    let form : Form = c.args.form in
    let old : PageMap = g.P.Pages.pages c.args.pages.now in
    let count : ℕ = g.P.Pages.count c.args.pages.now in
    let asked : List ℕ = g.P.Pages.asked c.args.pages.now in
    let last : List ℕ = g.P.Pages.asked c.descend_to_leaf.new.pages in
    let root : ℕ = c.args.root in
    let top : ℕ = level_of (old root) in
    let bytes = c.in-Ok.ensures.gives (told-read old count root told (λ u. let f = c.in-Ok.ensures.uncounted u in cc)) in
    let level = c.level-level.ensures ∙ ap level_of c.looked.ensures ∙ ap level_of bytes in
    let claim = enter (λ p k v w a b. AreReadable p k → g.P.Pages.looked c.look.new.self ≡ p root → AsksOnly (uses form p v root) asked last)
    old (g.P.Pages.pages c.look.new.self) count (g.P.Pages.count c.look.new.self) top c.level-level.result 0 0 0 0 0 0
    c.in-Ok.ensures.pages c.in-Ok.ensures.count level refl refl refl (c.descend_to_leaf.ensures.own asked c.in-Ok.ensures.asked) in
    asks-more (uses form old top root) (map_uses form old root) asked last (λ n h. let m = map-uses form old root n c.requires.root in omega arith) (claim told bytes)

pub returns-in-Err-clause-named : goal.returns-in-Err-clause-named
returns-in-Err-clause-named g c = λ told damage e.
    let was = c.in-Err.is ∙ ap Err (same-fault {T = Leaf} _ _ e) in
    named-refused (g.P.Pages.asked c.args.pages.now) (g.P.Pages.asked c.look.new.self) c.args.root c.look.result damage c.look.ensures.asked was
    (ap (λ (d : Damage). d.page) (c.look.ensures.damaged damage was).0)

pub returns-in-Err-clause-own : goal.returns-in-Err-clause-own
returns-in-Err-clause-own g c = λ told.
    let form : Form = c.args.form in
    let old : PageMap = g.P.Pages.pages c.args.pages.now in
    let root : ℕ = c.args.root in
    let asked : List ℕ = g.P.Pages.asked c.args.pages.now in
    let mine : ℕ → ℕ = map_uses form old root in
    let u = uses-self form old (level_of (old root)) root in
    let m = map-uses form old root root c.requires.root in
    subst (λ (x : List ℕ). AsksOnly mine asked x) (sym c.look.ensures.asked) (asks-read mine asked asked root c.look.result (asks-nothing mine asked asked refl) (omega arith))

pub returns-in-Ok-clause-read : goal.returns-in-Ok-clause-read
returns-in-Ok-clause-read g c = λ told.
    let old : PageMap = g.P.Pages.pages c.args.pages.now in
    let root : ℕ = c.args.root in
    let asked : List ℕ = g.P.Pages.asked c.args.pages.now in
    let last : List ℕ = g.P.Pages.asked c.descend_to_leaf.new.pages in
    let looked : List ℕ = g.P.Pages.looked c.descend_to_leaf.new.pages in
    let bytes = c.in-Ok.ensures.gives (told-read old (g.P.Pages.count c.args.pages.now) root told (λ u. let f = c.in-Ok.ensures.uncounted u in cc)) in
    let claim = enter (λ p k v w a b. AreReadable p k → g.P.Pages.looked c.look.new.self ≡ p root → IfOk c.descend_to_leaf.result (λ leaf. AskedSince asked last leaf.page × (looked ≡ p leaf.page)))
    old (g.P.Pages.pages c.look.new.self) (g.P.Pages.count c.args.pages.now) (g.P.Pages.count c.look.new.self) 0 0 0 0 0 0 0 0
    c.in-Ok.ensures.pages c.in-Ok.ensures.count refl refl refl refl (c.descend_to_leaf.ensures.read asked c.in-Ok.ensures.asked) in
    claim told bytes

pub returns-in-Ok-clause-way : goal.returns-in-Ok-clause-way
returns-in-Ok-clause-way g c = λ told.
    let form : Form = c.args.form in
    let old : PageMap = g.P.Pages.pages c.args.pages.now in
    let count : ℕ = g.P.Pages.count c.args.pages.now in
    let root : ℕ = c.args.root in
    let key : ℕ = number c.args.key.now in
    let top : ℕ = level_of (old root) in
    let counted : ¬ IsUncounted count root = λ u. (let f = c.in-Ok.ensures.uncounted u in cc) in
    let bytes = c.in-Ok.ensures.gives (told-read old count root told counted) in
    let level = c.level-level.ensures ∙ ap level_of c.looked.ensures ∙ ap level_of bytes in
    let claim = enter (λ p k v w a b. AreReadable p k → g.P.Pages.looked c.look.new.self ≡ p root → IfOk c.descend_to_leaf.result (λ leaf. IsWay form p k key w v root a b leaf.page (low_of form c.descend_to_leaf.new.bounds) (high_of form c.descend_to_leaf.new.bounds)))
    old (g.P.Pages.pages c.look.new.self) count (g.P.Pages.count c.look.new.self) top c.level-level.result (least_of_root top) c.root_least-least.result 0 (low_of form c.all.result) (256 ^ form.key) (high_of form c.all.result)
    c.in-Ok.ensures.pages c.in-Ok.ensures.count level (c.root_least-least.ensures ∙ ap least_of_root level) (c.all.ensures.low form.key) (c.all.ensures.high form.key) c.descend_to_leaf.ensures.way in
    IfOk-weaker c.descend_to_leaf.result _ (λ leaf. IsWayOf form old count root key leaf.page (low_of form c.descend_to_leaf.new.bounds) (high_of form c.descend_to_leaf.new.bounds)) (λ leaf h. (counted, h)) (claim told bytes)
