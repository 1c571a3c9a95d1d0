use Rattle.std.proofs.Common.{arith, ◌<◌, ℕ, ◌∙◌, sym, ap, subst, length}
use Rattle.std.proofs.lemmas.Cmp.{ranked}
use Rattle.std.specs.Cmp.{nat_cmp_is}
use Rattle.std.specs.declared.cmp.Ordering.TheVariants.{Less}
use Rattle.page_face.specs.Number.{number}
use Rattle.btree_nodes.specs.Bounds.{upper_of}
use Rattle.btree_nodes.proofs.Checks.{entries-low, entries-high, entries-ascend, entries-ordered}
use Rattle.btree_nodes.proofs.check.has_ordered_entries.Goals as goal

pub returns-in_default : goal.returns-in_default
returns-in_default c = (
  λ h. cc,
  λ h. let r = entries-low c.args.form c.args.page.now (number c.args.low.now) (upper_of c.args.form.key c.args.high.now) c.args.count c.requires.count c.requires.some h in
      let k = ap number c.key_of-2.ensures.is in
      let l : number c.args.low.now < number c.key_of-2.result.now = omega arith in
      absurd (c.in_default.not-Less (c.compare.ensures ∙ sym (nat_cmp_is (number c.args.low.now) (number c.key_of-2.result.now) Less l))),
)

pub returns-then-not-is_below : goal.returns-then-not-is_below
returns-then-not-is_below c = (
  λ h. cc,
  λ h. let f = c.if-not-is_below.true in
      let r = entries-high c.args.form c.args.page.now (number c.args.low.now) (upper_of c.args.form.key c.args.high.now) c.args.count c.requires.count c.requires.some h in
      let k = ap number c.key_of-3.ensures.is in
      let l : number c.key_of-3.result.now < upper_of (length c.key_of-3.result.now) c.args.high.now =
      subst (λ (n : ℕ). number c.key_of-3.result.now < upper_of n c.args.high.now) (sym c.key_of-3.ensures.length) (omega arith) in
      sym f ∙ c.is_below.ensures.1 l,
)

pub returns : goal.returns
returns c = (
  λ h. let l : number c.key_of-3.result.now < upper_of c.args.form.key c.args.high.now =
      subst (λ (n : ℕ). number c.key_of-3.result.now < upper_of n c.args.high.now) c.key_of-3.ensures.length (c.is_below.ensures.0 c.if-not-is_below.false) in
      let k = ap number c.key_of.ensures.is in
      let m = ap number c.key_of-2.ensures.is in
      let n = ap number c.key_of-3.ensures.is in
      let z = c.is_least.ensures.0 c.if-not-is_least.false in
      let low : number c.args.low.now < number c.key_of-2.result.now = ranked _ _ Less c.in-Less.ensures in
      entries-ordered c.args.form c.args.page.now (number c.args.low.now) (upper_of c.args.form.key c.args.high.now) c.args.count c.requires.count c.requires.some (omega arith) (omega arith) (omega arith) (c.ascends.ensures.0 h),
  λ h. c.ascends.ensures.1 (entries-ascend c.args.form c.args.page.now (number c.args.low.now) (upper_of c.args.form.key c.args.high.now) c.args.count c.requires.count c.requires.some h),
)
