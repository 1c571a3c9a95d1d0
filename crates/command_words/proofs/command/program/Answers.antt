use Rattle.std.proofs.Common.{◌∙◌, ap₂}
use Rattle.std.proofs.lemmas.Result.{IfOk-weaker}
use Rattle.clap.specs.Words.{with_rule}
use Rattle.command_words.proofs.command.program.Goals as goal

pub returns : goal.returns
returns c =
    let one = c.in_ok-arg.ensures.shape c.store.ensures.local ∙ ap₂ with_rule c.new.ensures.app c.store.ensures.rule in
    let two = c.in_ok-arg-2.ensures.shape c.action.ensures.local ∙ ap₂ with_rule one c.action.ensures.rule in
    let three = c.in_ok-arg-3.ensures.shape c.batch.ensures.local ∙ ap₂ with_rule two c.batch.ensures.rule in
    let four = c.in_ok-arg-4.ensures.shape c.cache.ensures.local ∙ ap₂ with_rule three c.cache.ensures.rule in
    let five = c.in_ok-arg-5.ensures.shape c.text.ensures.local ∙ ap₂ with_rule four c.text.ensures.rule in
    let six = c.in_ok-arg-6.ensures.shape c.policy.ensures.local ∙ ap₂ with_rule five c.policy.ensures.rule in
    let seven = c.in_ok-arg-7.ensures.shape c.from.ensures.local ∙ ap₂ with_rule six c.from.ensures.rule in
    IfOk-weaker c.arg-8.result _ _ (λ command added. added.shape c.count.ensures.local ∙ ap₂ with_rule seven c.count.ensures.rule) c.arg-8.ensures
