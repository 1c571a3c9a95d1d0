use Rattle.std.proofs.Common.{◌≡◌, ℕ, ◌<◌, ◌^◌, ap, ◌∙◌, arith, rules}
use Rattle.rtree_nodes.specs.Slots.{NodeView}
use Rattle.rtree_nodes.specs.Nodes.{view_of}
use Rattle.rtree_nodes.specs.Pages.{slots_in}
use Rattle.rtree_nodes.proofs.Coded.{items_to, items-none, items-more, coded-node, coded-mask}
use Rattle.rtree_nodes.proofs.held.Node.encode.Goals as goal

pub loop-i-init : goal.loop-i-init
loop-i-init c = record {
  fits = omega (arith, c.new_node-page.ensures.mask);
  long = search rules;
  form = c.new_node-page.ensures.form;
  level = c.new_node-page.ensures.level;
  slots = ap (λ (v : NodeView). v.slots) c.new_node-page.ensures.node ∙ items-none c.args.self.now.used c.args.self.now.slots;
}

pub loop-i-preserved : goal.loop-i-preserved
loop-i-preserved c = record {
  fits = c.put_used.ensures.fits c.loop-i.invariant.fits;
  long = search rules;
  form = c.put_used.ensures.form c.loop-i.invariant.form c.loop-i.invariant.level;
  level = c.put_used.ensures.level ∙ c.loop-i.invariant.level;
  slots = items-more c.loop-i.i c.args.self.now.used c.args.self.now.slots (slots_in c.loop-i.page) (slots_in c.put_used.new.page) c.loop-i.invariant.slots
      (c.put_used.ensures.slots c.loop-i.invariant.form c.loop-i.invariant.level);
}

pub returns-clause-node : goal.returns-clause-node
unfolding view_of
returns-clause-node c =
    let last : c.loop-i.i ≡ 32 = omega arith in
    let items = c.loop-i.invariant.slots ∙ ap (λ (n : ℕ). items_to n c.args.self.now.used c.args.self.now.slots) last in
    coded-node c.loop-i.page c.args.self.now.level (items_to 32 c.args.self.now.used c.args.self.now.slots) c.loop-i.invariant.form c.loop-i.invariant.level items

pub returns-clause-used : goal.returns-clause-used
returns-clause-used c =
    let last : c.loop-i.i ≡ 32 = omega arith in
    let items = c.loop-i.invariant.slots ∙ ap (λ (n : ℕ). items_to n c.args.self.now.used c.args.self.now.slots) last in
    let used : c.args.self.now.used < 2 ^ 32 = search rules in
    coded-mask c.loop-i.page c.args.self.now.used c.args.self.now.slots c.loop-i.invariant.form c.loop-i.invariant.fits used items
