use Rattle.std.proofs.Common.{arith, ◌≡◌, ◌∙◌, ◌+◌, ap, sym, suc, ℕ, get_or}
use Rattle.page_face.specs.Number.{number}
use Rattle.page_face.specs.Cells.{key_at}
use Rattle.btree_nodes.specs.Nodes.{entries_in}
use Rattle.btree_nodes.specs.Bounds.{upper_of}
use Rattle.btree_nodes.proofs.Checks.{upper-some}
use Rattle.btree_nodes.proofs.Spots.{entry-key, length-entries_in, fits_at}
use Rattle.btree_nodes.proofs.Fans.{no_entry, next_key-at, next_key-end}
use Rattle.btree_nodes.proofs.bounds.upper.Goals as goal

pub returns-then-at-count-clause-is : goal.returns-then-at-count-clause-is
returns-then-at-count-clause-is c =
    sym (next_key-end (upper_of c.args.form.key c.args.high.now) (entries_in c.args.form c.args.page.now) (suc c.args.at) (let t = c.if-at-count.true in omega (arith, length-entries_in c.args.form c.args.page.now)))

pub key_of-requires-clause-fits : goal.key_of-requires-clause-fits
key_of-requires-clause-fits c = fits_at (c.args.form.key + 4) (c.args.at + 1) c.args.count (let f = c.if-at-count.false in omega arith) c.requires.fits

pub returns-clause-is : goal.returns-clause-is
returns-clause-is c =
    let n = length-entries_in c.args.form c.args.page.now in
    let f = c.if-at-count.false in
    let up : c.args.at + 1 ≡ suc c.args.at = omega arith in
    upper-some c.args.form.key c.key_of.result.now (omega (arith, c.key_of.ensures.length))
    ∙ ap number c.key_of.ensures.is
    ∙ ap (λ (i : ℕ). key_at c.args.form.key (c.args.form.key + 4) c.args.page.now i) up
    ∙ sym (next_key-at (upper_of c.args.form.key c.args.high.now) (entries_in c.args.form c.args.page.now) (suc c.args.at) (omega arith) ∙ entry-key c.args.form c.args.page.now (suc c.args.at) (omega arith))

pub returns-clause-to : goal.returns-clause-to
returns-clause-to c = λ key place to.
    let n = length-entries_in c.args.form c.args.page.now in
    let f = c.if-at-count.false in
    let up : c.args.at + 1 ≡ suc c.args.at = omega arith in
    let is : upper_of c.args.form.key c.key_of.result.now ≡ (get_or (entries_in c.args.form c.args.page.now) (suc c.args.at) no_entry).0 =
    upper-some c.args.form.key c.key_of.result.now (omega (arith, c.key_of.ensures.length)) ∙ ap number c.key_of.ensures.is
    ∙ ap (λ (i : ℕ). key_at c.args.form.key (c.args.form.key + 4) c.args.page.now i) up ∙ sym (entry-key c.args.form c.args.page.now (suc c.args.at) (omega arith)) in
    let next = place.next (omega arith) in
    omega arith
