use Rattle.std.proofs.Common.{◌≡◌, length, rules}
use Rattle.node_rows.proofs.Keys.{of-twelve}
use Rattle.node_rows.proofs.key.RowKey.of_bytes.Goals as goal

pub returns : goal.returns
returns c =
    let long : length c.args.bytes.now ≡ 12 = search rules in
    rw (c.from_be_bytes.ensures, c.from_be_bytes-2.ensures) (of-twelve c.args.bytes.now long)
