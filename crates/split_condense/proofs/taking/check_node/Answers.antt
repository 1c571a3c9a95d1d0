use Rattle.std.proofs.Common.{◌≡◌, ◌∙◌, ℕ, true, List, refl, sym, ap, subst, inl, inr}
use Rattle.rtree_nodes.specs.Slots.{NodeView}
use Rattle.rtree_nodes.specs.Nodes.{view_of}
use Rattle.rtree_nodes.specs.Pages.{level_in, is_form, node_of}
use Rattle.rtree_nodes.specs.declared.held.Node.{Node}
use Rattle.split_condense.specs.Orphans.{IsMisplaced}
use Rattle.irtree_insert.proofs.Loads.{form-level}
use Rattle.split_condense.proofs.taking.check_node.Goals as goal

-- a node that was read is of its page's level
read-level : (node : Node) (page : List ℕ) → is_form page ≡ true → view_of node ≡ node_of page → node.level ≡ level_in page
unfolding view_of
read-level node page form is = ap (λ (v : NodeView). v.level) is ∙ form-level page form

pub returns-then-node-level-clause-refuses : goal.returns-then-node-level-clause-refuses
returns-then-node-level-clause-refuses c =
    let bytes : List ℕ = c.args.bytes.now in
    let right = read-level c.in-Ok.node bytes c.in-Ok.ensures.form c.in-Ok.ensures.node in
    subst (IsMisplaced c.args.page c.args.level bytes) (sym c.damaged-then-node-level.ensures) (refl, inr (inl (refl, λ e. c.if-node-level.true (right ∙ e))))

pub returns-then-is_lone-clause-refuses : goal.returns-then-is_lone-clause-refuses
returns-then-is_lone-clause-refuses c =
    let bytes : List ℕ = c.args.bytes.now in
    let right = read-level c.in-Ok.node bytes c.in-Ok.ensures.form c.in-Ok.ensures.node in
    subst (IsMisplaced c.args.page c.args.level bytes) (sym c.damaged-then-is_lone.ensures)
    (refl, inr (inr (refl, c.is_lone.ensures.lone c.in-Ok.ensures.form (sym c.if-node-level.false ∙ right) c.if-is_lone.true)))

pub returns-clause-level : goal.returns-clause-level
returns-clause-level c = sym c.if-node-level.false ∙ read-level c.in-Ok.node c.args.bytes.now c.in-Ok.ensures.form c.in-Ok.ensures.node
