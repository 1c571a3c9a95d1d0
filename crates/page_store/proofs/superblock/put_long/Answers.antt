use Rattle.std.proofs.Common.{◌≡◌, ◌≤◌, ◌+◌, ◌-◌, length, arith, rules}
use Rattle.std.proofs.lemmas.Slice.{drop-put_mid}
use Rattle.page_store.proofs.superblock.put_long.Goals as goal

pub returns-clause-behind : goal.returns-clause-behind
returns-clause-behind c =
    let within : c.args.at ≤ length c.args.page.now = search rules in
    let size : length c.copy_from_slice.new.self ≡ c.args.at + 8 - c.args.at = search rules in
    drop-put_mid c.args.at (c.args.at + 8 - c.args.at) c.args.page.now c.copy_from_slice.new.self 64 (omega arith) within size
