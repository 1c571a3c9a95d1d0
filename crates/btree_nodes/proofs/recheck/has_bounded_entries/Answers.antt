use Rattle.std.proofs.Common.{arith, ◌<◌, ℕ, ◌∙◌, sym, ap, subst}
use Rattle.std.proofs.lemmas.Cmp.{ranked}
use Rattle.std.specs.Cmp.{nat_cmp_is}
use Rattle.std.specs.declared.cmp.Ordering.TheVariants.{Less}
use Rattle.page_face.specs.Number.{number}
use Rattle.btree_nodes.specs.Bounds.{upper_of}
use Rattle.btree_nodes.proofs.Checks.{entries-low, entries-high, entries-ordered}
use Rattle.btree_nodes.proofs.recheck.has_bounded_entries.Goals as goal

pub returns-in_default : goal.returns-in_default
returns-in_default c = (
  λ h. cc,
  λ h. let r = entries-low c.args.form c.args.page.now (number c.args.low.now) (upper_of c.args.form.key c.args.high.now) c.args.count c.requires.count c.requires.some h in
      let k = ap number c.key_of.ensures.is in
      let l : number c.args.low.now < number c.key_of.result.now = omega arith in
      absurd (c.in_default.not-Less (c.compare.ensures ∙ sym (nat_cmp_is (number c.args.low.now) (number c.key_of.result.now) Less l))),
)

pub returns : goal.returns
returns c = (
  λ h. let l : number c.key_of-last.result.now < upper_of c.args.form.key c.args.high.now =
      subst (λ (n : ℕ). number c.key_of-last.result.now < upper_of n c.args.high.now) c.key_of-last.ensures.length (c.is_below.ensures.0 h) in
      let m = ap number c.key_of.ensures.is in
      let n = ap number c.key_of-last.ensures.is in
      let low : number c.args.low.now < number c.key_of.result.now = ranked _ _ Less c.in-Less.ensures in
      entries-ordered c.args.form c.args.page.now (number c.args.low.now) (upper_of c.args.form.key c.args.high.now) c.args.count c.requires.count c.requires.some c.requires.first (omega arith) (omega arith) c.requires.order,
  λ h. let r = entries-high c.args.form c.args.page.now (number c.args.low.now) (upper_of c.args.form.key c.args.high.now) c.args.count c.requires.count c.requires.some h in
      let k = ap number c.key_of-last.ensures.is in
      c.is_below.ensures.1 (subst (λ (n : ℕ). number c.key_of-last.result.now < upper_of n c.args.high.now) (sym c.key_of-last.ensures.length) (omega arith)),
)
