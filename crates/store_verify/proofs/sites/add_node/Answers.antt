use Rattle.std.proofs.Common.{◌≡◌, ◌+◌, ◌∙◌, ℕ, arith, ap, sym}
use Rattle.std.proofs.lemmas.Result.{on_ok_weaker}
use Rattle.rtree_nodes.specs.Pages.{level_in}
use Rattle.rtree_nodes.proofs.Bounding.{some-form}
use Rattle.store_verify.specs.Sites.{site_sum}
use Rattle.store_verify.specs.EntrySums.{page_sum}
use Rattle.store_verify.proofs.NodeEntries.{leaf-sum, inner-sum, header-apart}
use Rattle.store_verify.proofs.sites.add_node.Goals as goal

pub returns-then-head-eq0-clause-sum : goal.returns-then-head-eq0-clause-sum
returns-then-head-eq0-clause-sum c = λ form.
    let leaf : level_in c.args.bytes.now ≡ 0 = sym c.in-Ok.ensures.0 ∙ c.if-head-eq0.true in
    on_ok_weaker c.add_leaf.result (λ all f. all f ∙ ap (λ (n : ℕ). site_sum f c.args.found.now.items + n) (sym (leaf-sum f c.args.bytes.now form leaf))) (c.add_leaf.ensures.sum form leaf)

pub returns-then-head-eq0-clause-no_false_damage : goal.returns-then-head-eq0-clause-no_false_damage
returns-then-head-eq0-clause-no_false_damage c = λ some damage e. c.add_leaf.ensures.no_false_damage (some-form c.args.bytes.now some) damage e

pub returns-else-head-eq0-clause-sum : goal.returns-else-head-eq0-clause-sum
returns-else-head-eq0-clause-sum c = λ form f.
    let none : page_sum f c.args.bytes.now ≡ 0 = inner-sum f c.args.bytes.now form (λ leaf. c.if-head-eq0.false (c.in-Ok.ensures.0 ∙ leaf)) in
    omega (arith, none)

pub returns-in-Err-clause-no_false_damage : goal.returns-in-Err-clause-no_false_damage
returns-in-Err-clause-no_false_damage c = λ some damage e. header-apart c.in-Err.rule c.args.bytes.now some c.in-Err.ensures
