use Rattle.std.proofs.Common.{arith, ◌≡◌, ◌∙◌, ◌+◌, ap, sym}
use Rattle.page_face.specs.Number.{number}
use Rattle.page_face.specs.Cells.{key_at}
use Rattle.btree_nodes.specs.Nodes.{entries_in}
use Rattle.btree_nodes.proofs.Spots.{entry-key, length-entries_in}
use Rattle.btree_nodes.proofs.Fans.{with_low-key, with_low-first}
use Rattle.btree_nodes.proofs.bounds.lower.Goals as goal

pub returns-then-at-eq0-clause-is : goal.returns-then-at-eq0-clause-is
returns-then-at-eq0-clause-is c =
    sym (with_low-first (number c.args.low.now) (entries_in c.args.form c.args.page.now) c.args.at (omega (arith, length-entries_in c.args.form c.args.page.now)) c.if-at-eq0.true)

pub returns-clause-is : goal.returns-clause-is
returns-clause-is c =
    ap number c.key_of.ensures.is
    ∙ sym (with_low-key (number c.args.low.now) (entries_in c.args.form c.args.page.now) c.args.at (omega arith) ∙ entry-key c.args.form c.args.page.now c.args.at c.requires.at)

pub returns-clause-from : goal.returns-clause-from
returns-clause-from c = λ key place from.
    let same : number c.key_of.result.now ≡ key_at c.args.form.key (c.args.form.key + 4) c.args.page.now c.args.at = ap number c.key_of.ensures.is in
    let k = entry-key c.args.form c.args.page.now c.args.at c.requires.at in
    let f = place.from in
    omega arith
