use Rattle.std.proofs.Common.{◌≡◌, length, rules}
use Rattle.rtree_nodes.specs.Numbers.{int_bytes}
use Rattle.rtree_nodes.proofs.Made.{place-made}
use Rattle.rtree_nodes.proofs.writing.place_cell.Goals as goal

pub returns-clause-bytes : goal.returns-clause-bytes
returns-clause-bytes c =
    let x : c.to_be_bytes.result ≡ int_bytes c.args.point.now.x = search rules in
    let y : c.to_be_bytes-2.result ≡ int_bytes c.args.point.now.y = search rules in
    let size : length c.write_at-3.new.out ≡ 74 = search rules in
    place-made c.args.point.now c.args.key.now _ _ _ c.write_at.new.out c.write_at-2.new.out c.write_at-3.new.out c.bytes.ensures.name x y c.bytes.ensures.form
    c.write_at.ensures.front c.write_at-2.ensures.front c.write_at-3.ensures.front size
