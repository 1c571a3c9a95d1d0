use Rattle.std.proofs.Common.{arith, ◌≡◌, refl}
use Rattle.page_face.specs.Number.{number}
use Rattle.page_face.specs.Nodes.{count_of}
use Rattle.btree_nodes.specs.Bounds.{upper_of}
use Rattle.btree_nodes.proofs.Finds.{place_as, missed}
use Rattle.btree_delete.proofs.leaf.remove_leaf.Goals as goal

pub returns-then-not-has_key-clause-removed : goal.returns-then-not-has_key-clause-removed
returns-then-not-has_key-clause-removed g c = λ free is supplied once.
    let e : c.in-Ok.count ≡ count_of c.args.bytes.now = c.in-Ok.ensures.count in
    missed c.args.form c.args.bytes.now (number c.args.low.now) (upper_of c.args.form.key c.args.high.now) (number c.args.key.now) c.place-at.result
    (place_as c.requires.key e (omega arith) c.place-at.ensures) c.in-Ok.ensures.order c.requires.from c.requires.to
    (λ small same. let t = c.if-not-has_key.ensures.1 (omega arith, same) in cc)

pub returns-clause-removed : goal.returns-clause-removed
returns-clause-removed g c = λ free is supplied once.
    let e : c.in-Ok.count ≡ count_of c.args.bytes.now = c.in-Ok.ensures.count in
    c.in_ok-left.ensures.out (number c.args.low.now) (upper_of c.args.form.key c.args.high.now) free is
    (place_as c.requires.key e (omega arith) c.place-at.ensures) (c.if-not-has_key.ensures.0 refl).1 c.in-Ok.ensures.order c.requires.from c.requires.to supplied once
