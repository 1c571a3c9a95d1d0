use Rattle.std.proofs.Common.{ap, ◌∙◌}
use Rattle.std.specs.List.{prefix_len}
use Rattle.line_tokens.specs.Literal.{is_plain}
use Rattle.line_tokens.proofs.Cuts.{plain_cut}
use Rattle.line_tokens.proofs.Said.{plain_found}
use Rattle.line_tokens.proofs.scan.plain.Goals as goal

pub split_at-requires : goal.split_at-requires
split_at-requires c = rw (c.plain_len.ensures, c.as_bytes.ensures.value) (plain_cut c.args.text.now)

pub returns-in-Some-eq34 : goal.returns-in-Some-eq34
returns-in-Some-eq34 c =
    let text = c.args.text.now in
    let len = c.plain_len.ensures ∙ ap (prefix_len is_plain) c.as_bytes.ensures.value in
    plain_found text c.plain_len.result c.split_at.result.0.now c.split_at.result.1.now c.behind_first.result.now len
    c.split_at.ensures.front c.split_at.ensures.back c.in-Some-eq34.ensures.some.0 (c.in-Some-eq34.ensures.some.1 ∙ c.in-Some-eq34.field-0-test) c.behind_first.ensures
