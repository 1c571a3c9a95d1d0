use Rattle.std.proofs.Common.{◌≡◌, IfOk, rules}
use Rattle.std.proofs.lemmas.Result.{IfOk-weaker}
use Rattle.json.specs.Print.{quoted}
use Rattle.serde_json.proofs.FreeTexts.{text_of_str}
use Rattle.query_replies.proofs.parts.literal.Goals as goal

pub returns : goal.returns
returns c =
    let literal : IfOk c.to_vec.result (λ literal. literal.items ≡ quoted c.args.text.now) =
    IfOk-weaker c.to_vec.result _ _ (λ literal h. text_of_str c.args.text.now h.0 literal.items h.1 h.2) c.to_vec.ensures.events in
    search rules
