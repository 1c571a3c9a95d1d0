use Rattle.std.proofs.Common.{ℕ, sym, ap, List, subst, refl, inl, inr}
use Rattle.page_face.specs.Number.{number}
use Rattle.page_face.specs.declared.fault.Damage.{Damage}
use Rattle.page_face.specs.declared.fault.Rule.{Rule}
use Rattle.btree_nodes.specs.Nodes.{rows_in}
use Rattle.btree_nodes.specs.Rows.{IsWithin}
use Rattle.btree_nodes.specs.Bounds.{upper_of}
use Rattle.btree_nodes.specs.Damages.{BreaksLeaf}
use Rattle.btree_insert.specs.declared.leaf.Grown.{Grown}
use Rattle.btree_insert.proofs.Readings.{ok-any}
use Rattle.btree_insert.proofs.leaf.put_leaf.Goals as goal
use Rattle.btree_nodes.proofs.Descents.{same-damage}

pub returns-in-Ok-clause-grown : goal.returns-in-Ok-clause-grown
returns-in-Ok-clause-grown g c = λ free supplied once.
    let f = c.leaf_count.ensures.frame in
    let same = c.leaf_count.ensures.looked in
    let low : ℕ = number c.args.low.now in
    let high : ℕ = upper_of c.args.form.key c.args.high.now in
    let within = subst (λ (b : List ℕ). IsWithin low high (rows_in c.args.form b)) (sym same) c.in-Ok.ensures.order in
    rw (sym f.pages, sym f.count, sym f.first, sym same) (c.put_row.ensures.grown low high free within c.requires.from c.requires.to (rw (f.pages, f.count, f.first) supplied) (rw f.count once))

pub returns-in-Ok-clause-had : goal.returns-in-Ok-clause-had
returns-in-Ok-clause-had g c =
    let same = c.leaf_count.ensures.looked in
    let low : ℕ = number c.args.low.now in
    let high : ℕ = upper_of c.args.form.key c.args.high.now in
    let within = subst (λ (b : List ℕ). IsWithin low high (rows_in c.args.form b)) (sym same) c.in-Ok.ensures.order in
    rw (sym same) (c.put_row.ensures.had low high within c.requires.from c.requires.to)

pub returns-in-Ok-clause-sound : goal.returns-in-Ok-clause-sound
returns-in-Ok-clause-sound g c = ok-any _ c.put_row.result c.in-Ok.ensures.sound

pub returns-in-Ok-clause-kept : goal.returns-in-Ok-clause-kept
returns-in-Ok-clause-kept g c = λ told.
    let f = c.leaf_count.ensures.frame in
    rw (sym f.pages, sym f.count) (c.put_row.ensures.kept (rw (f.pages, f.count) told))

pub returns-in-Ok-clause-supplied : goal.returns-in-Ok-clause-supplied
returns-in-Ok-clause-supplied g c = λ free supplied damage e.
    let f = c.leaf_count.ensures.frame in
    absurd (c.put_row.ensures.no_false_damage free (rw (f.pages, f.count, f.first) supplied) damage e)

pub returns-in-Ok-clause-damaged : goal.returns-in-Ok-clause-damaged
returns-in-Ok-clause-damaged g c = λ damage e. inr (c.put_row.ensures.damaged damage e)

pub returns-in-Err-clause-supplied : goal.returns-in-Err-clause-supplied
returns-in-Err-clause-supplied g c = λ free supplied damage e.
    let same = same-damage {T = Grown} _ c.damaged.result (record { page = c.args.page; rule = c.in-Err.rule }) damage refl c.damaged.ensures e in (
      ap (λ (d : Damage). d.page) same,
      subst (λ (r : Rule). BreaksLeaf r c.args.form c.args.least (number c.args.low.now) (upper_of c.args.form.key c.args.high.now) (g.P.Pages.looked c.args.pages.now)) (sym (ap (λ (d : Damage). d.rule) same)) c.in-Err.ensures.breaks,
    )

pub returns-in-Err-clause-damaged : goal.returns-in-Err-clause-damaged
returns-in-Err-clause-damaged g c = λ damage e.
    let same = same-damage {T = Grown} _ c.damaged.result (record { page = c.args.page; rule = c.in-Err.rule }) damage refl c.damaged.ensures e in
    inl (
      ap (λ (d : Damage). d.page) same,
      subst (λ (r : Rule). BreaksLeaf r c.args.form c.args.least (number c.args.low.now) (upper_of c.args.form.key c.args.high.now) (g.P.Pages.looked c.args.pages.now)) (sym (ap (λ (d : Damage). d.rule) same)) c.in-Err.ensures.breaks,
    )

pub returns-in-Ok-clause-stays : goal.returns-in-Ok-clause-stays
returns-in-Ok-clause-stays g c = λ damage e. inr (c.put_row.ensures.damaged damage e)

pub returns-in-Err-clause-stays : goal.returns-in-Err-clause-stays
returns-in-Err-clause-stays g c = λ damage e. inl (c.leaf_count.ensures.frame.pages, c.leaf_count.ensures.frame.count)
