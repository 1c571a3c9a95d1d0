use Rattle.std.proofs.Common.{◌≡◌, ℕ, ◌+◌, ◌-◌, Err, IsErrOf, inr, ap, refl, sym, subst, ◌∙◌, arith}
use Rattle.std.proofs.lemmas.Result.{err_from_is_err_and}
use Rattle.page_face.specs.declared.fault.Damage.{Damage}
use Rattle.page_face.specs.declared.fault.PageFault.TheVariants.{Damaged, NoRoom}
use Rattle.page_face.specs.declared.fault.Rule.TheVariants.{Counts, Head}
use Rattle.page_face.proofs.Frames.{changes_then}
use Rattle.page_store.specs.declared.superblock.Superblock.{Superblock}
use Rattle.btree_nodes.proofs.Harms.{asks-further, asks-nothing}
use Rattle.table_updates.specs.Carrying.{StandBetween, any_page, block_of, counts_disagree}
use Rattle.table_updates.proofs.Between.{between-begun, between-ended, between-none, head-further}
use Rattle.table_updates.proofs.Damages.{later-damage}
use Rattle.table_updates.proofs.carrying.carry_over.Goals as goal

pub loop-left-init : goal.loop-left-init
loop-left-init g c = record {
  between = λ state stand. between-begun (g.P.Pages.count c.args.pages.now) (g.P.Pages.first c.args.pages.now) c.args.head.now (g.P.Pages.pages c.args.pages.now) state stand;
  told = λ state stand told. told;
  asks = λ told. asks-nothing any_page _ _ refl;
  head = refl;
  taken = omega arith;
  faults = refl;
  frame = record { count = omega arith; room = refl; faults = omega arith; refused = omega arith; goes_on = refl; follows = g.met.P.Pages.stays c.args.pages.now };
}

pub loop-left-preserved : goal.loop-left-preserved
loop-left-preserved g c =
    let invariant = c.loop-left.invariant in
    let carried = c.in_ok-root.ensures in
    let now : Superblock = block_of (g.P.Pages.count c.loop-left.pages) (g.P.Pages.first c.loop-left.pages) c.loop-left.next in
    let one : c.loop-left.left ≡ c.loop-left.left - 1 + 1 = (let some = c.loop-left-test.true in omega arith) in record {
      between = λ state stand. carried.carried stand.others stand.entries (c.loop-left.left - 1) (subst (StandBetween now (g.P.Pages.pages c.loop-left.pages) stand.others stand.entries c.loop-left.root) one (invariant.between state stand));
      told = λ state stand told. carried.told stand.others stand.entries (c.loop-left.left - 1) (subst (StandBetween now (g.P.Pages.pages c.loop-left.pages) stand.others stand.entries c.loop-left.root) one (invariant.between state stand)) (invariant.told state stand told);
      asks = λ told. asks-further any_page _ _ _ (invariant.asks told) (c.carry_first.ensures.asks told);
      head = head-further c.args.head.now c.loop-left.next c.carry_first.new.head invariant.head c.carry_first.ensures.head;
      taken = (let taken = invariant.taken in let more = c.carry_first.ensures.at_most.count in omega (arith, taken, more, one));
      faults = c.in_ok-root.ensures.fails.hides_none ∙ invariant.faults;
      frame = changes_then g.P.Pages g.met.P.Pages.goes_further _ _ _ invariant.frame c.carry_first.ensures.frame;
    }

pub returns-in_err-root-clause-no_false_damage : goal.returns-in_err-root-clause-no_false_damage
returns-in_err-root-clause-no_false_damage g c state stand told damage =
    let invariant = c.loop-left.invariant in
    let now : Superblock = block_of (g.P.Pages.count c.loop-left.pages) (g.P.Pages.first c.loop-left.pages) c.loop-left.next in
    let one : c.loop-left.left ≡ c.loop-left.left - 1 + 1 = (let some = c.loop-left-test.true in omega arith) in
    let between = subst (StandBetween now (g.P.Pages.pages c.loop-left.pages) stand.others stand.entries c.loop-left.root) one (invariant.between state stand) in
    let p = err_from_is_err_and c.from_residual.result c.from_residual.ensures.1 in
    λ e. (let same : c.in_err-root.field-0.0 ≡ Damaged damage = cc (p.1, p.2, e) in
    c.in_err-root.ensures.no_false_damage stand.others stand.entries (c.loop-left.left - 1) between (invariant.told state stand told) damage (ap Err same))

pub returns-in_err-root-clause-damaged : goal.returns-in_err-root-clause-damaged
returns-in_err-root-clause-damaged g c told damage =
    let p = err_from_is_err_and c.from_residual.result c.from_residual.ensures.1 in
    λ e. (let same : c.in_err-root.field-0.0 ≡ Damaged damage = cc (p.1, p.2, e) in
    later-damage (g.P.Pages.pages c.carry_first.new.pages) (g.P.Pages.count c.carry_first.new.pages) (g.P.Pages.first c.carry_first.new.pages) _ _ _ damage (c.loop-left.invariant.asks told) (c.in_err-root.ensures.damaged told damage (ap Err same)))

pub returns-in_err-root-clause-no_head : goal.returns-in_err-root-clause-no_head
returns-in_err-root-clause-no_head g c told damage =
    let p = err_from_is_err_and c.from_residual.result c.from_residual.ensures.1 in
    λ e. (let same : c.in_err-root.field-0.0 ≡ Damaged damage = cc (p.1, p.2, e) in
    c.in_err-root.ensures.no_head told damage (ap Err same))

pub returns-in_err-root-clause-at_most : goal.returns-in_err-root-clause-at_most
returns-in_err-root-clause-at_most g c =
    let invariant = c.loop-left.invariant in
    let one : c.loop-left.left ≡ c.loop-left.left - 1 + 1 = (let some = c.loop-left-test.true in omega arith) in
    let p = err_from_is_err_and c.from_residual.result c.from_residual.ensures.1 in
    let same : IsErrOf c.from_residual.result NoRoom → c.in_err-root.field-0.0 ≡ NoRoom = λ e. cc (p.1, p.2, e) in
    let most = c.in_err-root.ensures.at_most in record {
      count = (let taken = invariant.taken in let more = most.count in omega (arith, taken, more, one));
      full = λ e. (let full = most.full (ap Err (same e)) in let room = invariant.frame.room in omega (arith, full, room));
      none = λ e. most.none (ap Err (same e));
    }

pub returns-then-root-ne0-clause-no_false_damage : goal.returns-then-root-ne0-clause-no_false_damage
returns-then-root-ne0-clause-no_false_damage g c state stand told damage =
    let now : Superblock = block_of (g.P.Pages.count c.loop-left.pages) (g.P.Pages.first c.loop-left.pages) c.loop-left.next in
    let none : c.loop-left.left ≡ 0 = omega arith in
    let root = between-none now (g.P.Pages.pages c.loop-left.pages) stand.others stand.entries c.loop-left.root (subst (StandBetween now (g.P.Pages.pages c.loop-left.pages) stand.others stand.entries c.loop-left.root) none (c.loop-left.invariant.between state stand)) in
    λ e. absurd (omega (arith, root))

pub returns-then-root-ne0-clause-damaged : goal.returns-then-root-ne0-clause-damaged
returns-then-root-ne0-clause-damaged g c told damage =
    λ e. inr (inr (let is = c.counts_disagree.ensures in let same : Damaged damage ≡ Damaged counts_disagree = cc (is, e) in cc same))

pub returns-then-root-ne0-clause-no_head : goal.returns-then-root-ne0-clause-no_head
returns-then-root-ne0-clause-no_head g c told damage =
    λ e head. (let is = c.counts_disagree.ensures in let same : Damaged damage ≡ Damaged counts_disagree = cc (is, e) in
    let at : damage ≡ counts_disagree = cc same in
    let no : Counts ≡ Head = ap (λ (d : Damage). d.rule) (sym at) ∙ head in absurd (cc no))

pub returns-clause-carried : goal.returns-clause-carried
returns-clause-carried g c state stand =
    let invariant = c.loop-left.invariant in
    let now : Superblock = block_of (g.P.Pages.count c.loop-left.pages) (g.P.Pages.first c.loop-left.pages) c.loop-left.next in
    let none : c.loop-left.left ≡ 0 = omega arith in
    let root : c.loop-left.root ≡ 0 = omega arith in
    let between = subst (λ (r : ℕ). StandBetween now (g.P.Pages.pages c.loop-left.pages) stand.others stand.entries r 0) root
    (subst (StandBetween now (g.P.Pages.pages c.loop-left.pages) stand.others stand.entries c.loop-left.root) none (invariant.between state stand)) in
    between-ended now (g.P.Pages.pages c.loop-left.pages) stand.others stand.entries between c.args.head.now invariant.head stand.live state stand.is
