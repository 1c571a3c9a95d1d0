use Rattle.std.proofs.Common.{◌^◌, ◌∙◌, sym}
use Rattle.tree_check.proofs.Ascents.{words-ascend, impacts-same}
use Rattle.tree_check.proofs.words.are_of_node.Goals as goal

pub returns-in-Ok-clause-wrong : goal.returns-in-Ok-clause-wrong
returns-in-Ok-clause-wrong g c = λ map no all.
    c.are_same.ensures.apart no
    (impacts-same 0 0 c.args.words.now c.in-Ok.below.items (words-ascend 0 (2 ^ 64) c.args.words.now c.requires) (words-ascend 0 (2 ^ 64) c.in-Ok.below.items c.in-Ok.ensures.ordered)
    (λ w. all w ∙ sym (c.in-Ok.ensures.words map w)) ∙ sym c.deref.ensures.value)
