use Rattle.std.proofs.Common.{◌<◌, ◌^◌, rules}
use Rattle.node_rows.proofs.Keys.{key-bytes}
use Rattle.node_rows.proofs.key.RowKey.bytes.Goals as goal

pub returns : goal.returns
returns c =
    let few : c.args.self.node < 2 ^ 32 = search rules in
    let many : c.args.self.number < 2 ^ 64 = search rules in
    rw (c.to_be_bytes.ensures, c.to_be_bytes-2.ensures) (key-bytes c.args.self.node c.args.self.number few many)
