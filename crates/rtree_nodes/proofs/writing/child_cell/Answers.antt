use Rattle.std.proofs.Common.{◌≡◌, length, rules}
use Rattle.std.specs.Int.{w32, to_be_bytes}
use Rattle.rtree_nodes.specs.Numbers.{int_bytes}
use Rattle.rtree_nodes.proofs.Made.{child-made}
use Rattle.rtree_nodes.proofs.writing.child_cell.Goals as goal

pub returns-clause-bytes : goal.returns-clause-bytes
returns-clause-bytes c =
    let west : c.to_be_bytes.result ≡ int_bytes c.args.rect.now.west = search rules in
    let south : c.to_be_bytes-2.result ≡ int_bytes c.args.rect.now.south = search rules in
    let east : c.to_be_bytes-3.result ≡ int_bytes c.args.rect.now.east = search rules in
    let north : c.to_be_bytes-4.result ≡ int_bytes c.args.rect.now.north = search rules in
    let page : c.to_be_bytes-5.result ≡ to_be_bytes w32 c.args.page = search rules in
    let size : length c.write_at-5.new.out ≡ 20 = search rules in
    child-made c.args.rect.now c.args.page _ _ _ _ _ c.write_at.new.out c.write_at-2.new.out c.write_at-3.new.out c.write_at-4.new.out c.write_at-5.new.out west south east north page
    c.write_at.ensures.front c.write_at-2.ensures.front c.write_at-3.ensures.front c.write_at-4.ensures.front c.write_at-5.ensures.front size
