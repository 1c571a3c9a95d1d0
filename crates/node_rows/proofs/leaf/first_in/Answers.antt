use Rattle.std.proofs.Common.{◌≡◌, length, arith, rules}
use Rattle.page_face.specs.Number.{number}
use Rattle.btree_nodes.proofs.Finds.{place_as}
use Rattle.paged_map.proofs.Rows.{first-missed, first-found}
use Rattle.rtree_nodes.specs.Stock.{rows_form}
use Rattle.node_rows.proofs.leaf.first_in.Goals as goal

pub returns-then-at-rows : goal.returns-then-at-rows
returns-then-at-rows c = record {
  first = λ low high fits within.
      let long : length c.args.key.now ≡ 12 = search rules in
      first-missed rows_form c.args.page.now low high (number c.args.key.now) c.place-at.result (place_as long c.count-rows.ensures.is (omega arith) c.place-at.ensures) within (let n = c.count-rows.ensures.is in omega arith);
}

pub returns : goal.returns
returns c = record {
  first = λ low high fits within.
      let long : length c.args.key.now ≡ 12 = search rules in
      first-found rows_form c.args.page.now low high (number c.args.key.now) c.place-at.result (place_as long c.count-rows.ensures.is (omega arith) c.place-at.ensures) within
      (let w = c.place-at.ensures.within in let n = c.count-rows.ensures.is in omega arith) c.copy_key.new.found c.copy_row.new.row c.copy_key.ensures c.copy_row.ensures;
}
