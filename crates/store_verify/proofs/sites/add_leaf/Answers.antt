use Rattle.std.proofs.Common.{◌≡◌, ◌+◌, ◌∙◌, ℕ, arith, ap}
use Rattle.rtree_nodes.specs.Pages.{slots_in}
use Rattle.rtree_nodes.specs.Slots.{got}
use Rattle.store_verify.specs.Sites.{site_sum}
use Rattle.store_verify.proofs.NodeEntries.{slots-none, slots-more, slots-all}
use Rattle.store_verify.proofs.sites.add_leaf.Goals as goal

pub loop-at-init : goal.loop-at-init
loop-at-init c = record {
  sum = λ form leaf f. slots-none (site_sum f c.args.found.now.items) (λ i. got f (slots_in c.args.bytes.now i));
  are = c.requires.found;
}

pub loop-at-preserved : goal.loop-at-preserved
loop-at-preserved c = record {
  sum = λ form leaf f. slots-more c.loop-at.at (site_sum f c.args.found.now.items) (site_sum f c.loop-at.found.items) (site_sum f c.add_entry.new.found.items) (λ i. got f (slots_in c.args.bytes.now i))
      (c.loop-at.invariant.sum form leaf f) (c.in-Ok.ensures.sum form leaf f);
  are = c.in-Ok.ensures.are;
}

pub returns-clause-sum : goal.returns-clause-sum
returns-clause-sum c = λ form leaf f.
    let all : c.loop-at.at ≡ 32 = omega (arith, c.loop-at.auto.at-end, c.loop-at-test.false) in
    c.loop-at.invariant.sum form leaf f ∙ ap (λ (n : ℕ). site_sum f c.args.found.now.items + n) (slots-all f (slots_in c.args.bytes.now) c.loop-at.at all)
