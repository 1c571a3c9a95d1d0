use Rattle.std.proofs.Common.{arith}
use Rattle.page_face.specs.Number.{number}
use Rattle.btree_nodes.proofs.Finds.{place_as}
use Rattle.paged_map.proofs.Rows.{first-missed, first-found, first-holds, first-on}
use Rattle.paged_map.proofs.finding.first_in.Goals as goal

pub returns-then-at-count-clause-found : goal.returns-then-at-count-clause-found
returns-then-at-count-clause-found c = λ low high within.
    first-missed c.args.form c.args.page.now low high (number c.args.key.now) c.place-at.result (place_as c.requires.key c.requires.count (omega arith) c.place-at.ensures) within (omega arith)

pub returns-clause-found : goal.returns-clause-found
returns-clause-found c = λ low high within.
    first-found c.args.form c.args.page.now low high (number c.args.key.now) c.place-at.result (place_as c.requires.key c.requires.count (omega arith) c.place-at.ensures) within
    (let w = c.place-at.ensures.within in let n = c.requires.count in omega arith) c.copy_key.new.found c.copy_value.new.value c.copy_key.ensures c.copy_value.ensures

pub returns-clause-holds : goal.returns-clause-holds
returns-clause-holds c = λ low high within hit.
    first-holds c.args.form c.args.page.now low high (number c.args.key.now) c.place-at.result (place_as c.requires.key c.requires.count (omega arith) c.place-at.ensures) within
    (let w = c.place-at.ensures.within in let n = c.requires.count in omega arith) c.copy_key.new.found c.copy_value.new.value c.copy_key.ensures c.copy_value.ensures

pub returns-clause-on : goal.returns-clause-on
returns-clause-on c = λ low high within hit.
    first-on c.args.form c.args.page.now low high (number c.args.key.now) c.place-at.result (place_as c.requires.key c.requires.count (omega arith) c.place-at.ensures) within
    (let w = c.place-at.ensures.within in let n = c.requires.count in omega arith) c.copy_key.new.found c.copy_value.new.value c.copy_key.ensures c.copy_value.ensures
