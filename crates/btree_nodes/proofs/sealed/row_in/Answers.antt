use Rattle.std.proofs.Common.{arith, ◌≡◌, ℕ, ◌∙◌, sym, ap, List, Some}
use Rattle.std.proofs.lemmas.Cmp.{ranked}
use Rattle.std.specs.declared.cmp.Ordering.TheVariants.{Equal}
use Rattle.std.specs.Cmp.{nat_cmp_is}
use Rattle.page_face.specs.Number.{number}
use Rattle.page_face.specs.Nodes.{count_of}
use Rattle.btree_nodes.specs.Bounds.{upper_of}
use Rattle.btree_nodes.proofs.Finds.{found, missed, place_as}
use Rattle.btree_nodes.proofs.sealed.row_in.Goals as goal

pub returns-then-at-count : goal.returns-then-at-count
returns-then-at-count c =
    let e : c.args.count ≡ count_of c.args.page.now = c.requires.count in
    missed c.args.form c.args.page.now (number c.args.low.now) (upper_of c.args.form.key c.args.high.now) (number c.args.key.now) c.place-at.result
    (place_as c.requires.key e (omega arith) c.place-at.ensures) c.requires.order c.requires.from c.requires.to
    (λ small same. omega arith)

pub returns-in-Equal : goal.returns-in-Equal
returns-in-Equal c =
    let e = c.requires.count in
    let r : number c.key_of.result.now ≡ number c.args.key.now = ranked _ _ Equal c.in-Equal.ensures in
    found c.args.form c.args.page.now (number c.args.low.now) (upper_of c.args.form.key c.args.high.now) (number c.args.key.now) c.place-at.result
    (place_as c.requires.key e (omega arith) c.place-at.ensures) c.requires.order c.requires.from c.requires.to (let w = c.place-at.ensures.within in omega arith)
    (ap number (sym c.key_of.ensures.is) ∙ r)
    ∙ ap (λ (v : List ℕ). Some v) (sym c.copy_value.ensures)

pub returns-in_default : goal.returns-in_default
returns-in_default c =
    let e = c.requires.count in
    missed c.args.form c.args.page.now (number c.args.low.now) (upper_of c.args.form.key c.args.high.now) (number c.args.key.now) c.place-at.result
    (place_as c.requires.key e (omega arith) c.place-at.ensures) c.requires.order c.requires.from c.requires.to
    (λ small same. c.in_default.not-Equal (c.compare.ensures ∙ sym (nat_cmp_is (number c.key_of.result.now) (number c.args.key.now) Equal (ap number c.key_of.ensures.is ∙ same))))
