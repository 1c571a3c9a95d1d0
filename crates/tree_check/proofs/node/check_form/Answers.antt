use Rattle.std.proofs.Common.{arith, ap, sym, ◌∙◌}
use Rattle.rtree_nodes.specs.Slots.{filled}
use Rattle.rtree_nodes.proofs.Formed.{form-slots}
use Rattle.tree_check.proofs.Placed.{first-placed, level-same}
use Rattle.tree_check.proofs.node.check_form.Goals as goal

pub returns-in-Err-clause-breaks : goal.returns-in-Err-clause-breaks
returns-in-Err-clause-breaks c = first-placed c.in-Err.rule c.args.least c.args.level c.args.bytes.now c.requires c.in-Err.ensures.breaks

pub returns-then-node-level-clause-breaks : goal.returns-then-node-level-clause-breaks
returns-then-node-level-clause-breaks c =
    let e = level-same c.in-Ok.node c.args.bytes.now c.in-Ok.ensures.form c.in-Ok.ensures.node in
    λ same. c.if-node-level.true (e ∙ same)

pub returns-then-count-least-clause-breaks : goal.returns-then-count-least-clause-breaks
returns-then-count-least-clause-breaks c =
    let e = ap filled (form-slots c.args.bytes.now c.in-Ok.ensures.form) in
    let f = c.count.ensures.filled c.in-Ok.ensures.form in
    omega arith

pub returns-clause-placed : goal.returns-clause-placed
returns-clause-placed c = record {
  form = c.in-Ok.ensures.form;
  level_is = sym (level-same c.in-Ok.node c.args.bytes.now c.in-Ok.ensures.form c.in-Ok.ensures.node) ∙ c.if-node-level.false;
  some = let f = c.count.ensures.filled c.in-Ok.ensures.form in omega arith;
}
