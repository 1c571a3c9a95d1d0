use Rattle.std.proofs.Common.{arith, ◌<◌, ℕ, ap, sym, subst}
use Rattle.std.proofs.lemmas.Cmp.{ranked}
use Rattle.std.specs.declared.cmp.Ordering.TheVariants.{Less}
use Rattle.page_face.specs.Number.{number}
use Rattle.btree_nodes.specs.Bounds.{upper_of}
use Rattle.btree_nodes.proofs.Checks.{not-less, rows-low, rows-high, rows-ordered}
use Rattle.btree_nodes.proofs.recheck.has_bounded_rows.Goals as goal

pub returns-in-Less : goal.returns-in-Less
returns-in-Less c = (
  λ h. cc,
  λ h. let l : number c.key_of-first.result.now < number c.args.low.now = ranked _ _ Less c.in-Less.ensures in
      let r = rows-low c.args.form c.args.page.now _ _ c.args.count c.requires.count c.requires.some h in
      let k = ap number c.key_of-first.ensures.is in
      absurd (omega arith),
)

pub returns : goal.returns
returns c = (
  λ h. let l : number c.key_of.result.now < upper_of c.args.form.key c.args.high.now =
      subst (λ (n : ℕ). number c.key_of.result.now < upper_of n c.args.high.now) c.key_of.ensures.length (c.is_below.ensures.0 h) in
      let k = ap number c.key_of.ensures.is in
      let f = ap number c.key_of-first.ensures.is in
      let low = not-less (number c.key_of-first.result.now) (number c.args.low.now) c.compare.result c.compare.ensures c.in_default.not-Less in
      rows-ordered c.args.form c.args.page.now (number c.args.low.now) (upper_of c.args.form.key c.args.high.now) c.args.count c.requires.count c.requires.some (omega arith) (omega arith) c.requires.order,
  λ h. let r = rows-high c.args.form c.args.page.now (number c.args.low.now) (upper_of c.args.form.key c.args.high.now) c.args.count c.requires.count c.requires.some h in
      let k = ap number c.key_of.ensures.is in
      c.is_below.ensures.1 (subst (λ (n : ℕ). number c.key_of.result.now < upper_of n c.args.high.now) (sym c.key_of.ensures.length) (omega arith)),
)
