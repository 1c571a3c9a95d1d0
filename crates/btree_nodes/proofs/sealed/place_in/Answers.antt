use Rattle.std.proofs.Common.{arith, ◌≡◌}
use Rattle.page_face.specs.Number.{number}
use Rattle.page_face.specs.Nodes.{count_of}
use Rattle.btree_nodes.proofs.Finds.{place_as, place-found}
use Rattle.btree_nodes.proofs.Walks.{place-some}
use Rattle.btree_nodes.proofs.sealed.place_in.Goals as goal

pub returns-clause-place : goal.returns-clause-place
returns-clause-place c =
    let e : c.args.count ≡ count_of c.args.page.now = c.requires.count in
    let place = place_as c.requires.key e (omega arith) c.place-at.ensures in
    place-found c.args.form c.args.page.now (number c.args.key.now) c.place-at.result
    (place-some c.args.form c.args.page.now (number c.args.key.now) c.place-at.result place c.requires.sound.node.some c.requires.sound.first) place
