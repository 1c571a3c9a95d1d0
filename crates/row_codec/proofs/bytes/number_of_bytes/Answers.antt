use Rattle.std.proofs.Common.{◌≤◌, length, ◌∙◌, rules}
use Rattle.std.proofs.lemmas.List.{take_all}
use Rattle.row_codec.specs.Counted.{number_bytes}
use Rattle.row_codec.proofs.bytes.number_of_bytes.Goals as goal

pub returns : goal.returns
unfolding number_bytes
returns c =
    let few : length c.args.bytes.now ≤ 8 = search rules in
    c.u64_at.ensures ∙ take_all 8 c.args.bytes.now few
