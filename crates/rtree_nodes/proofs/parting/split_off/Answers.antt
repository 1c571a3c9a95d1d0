use Rattle.std.proofs.Common.{◌≡◌, ℕ, arith, refl, ap, ◌∙◌, rules}
use Rattle.rtree_nodes.specs.Pages.{slots_in}
use Rattle.rtree_nodes.proofs.Clearings.{kept_to, moved_to, kept-none, moved-none, kept-more, moved-more, kept-all, moved-all}
use Rattle.rtree_nodes.proofs.parting.split_off.Goals as goal

pub loop-i-init : goal.loop-i-init
loop-i-init c = record {
  long = search rules;
  its_long = search rules;
  level = refl;
  its_level = refl;
  form = λ f. f;
  its_form = λ f. f;
  kept = λ f. kept-none c.args.mask (slots_in c.args.page.now);
  moved = λ f. moved-none c.args.mask (slots_in c.args.page.now);
}

pub loop-i-preserved : goal.loop-i-preserved
loop-i-preserved c = record {
  long = search rules;
  its_long = search rules;
  level = c.clear_one.ensures.level ∙ c.loop-i.invariant.level;
  its_level = c.clear_one.ensures.other_level ∙ c.loop-i.invariant.its_level;
  form = λ f. c.clear_one.ensures.form (c.loop-i.invariant.form f);
  its_form = λ f. c.clear_one.ensures.other_form (c.loop-i.invariant.its_form f);
  kept = λ f. kept-more c.loop-i.i c.args.mask (slots_in c.args.page.now) (slots_in c.loop-i.page) (slots_in c.clear_one.new.page) c.is_set.result c.is_set.ensures (c.loop-i.invariant.kept f)
      (c.clear_one.ensures.slots (c.loop-i.invariant.form f));
  moved = λ f. moved-more c.loop-i.i c.args.mask (slots_in c.args.page.now) (slots_in c.loop-i.other) (slots_in c.clear_one.new.other) c.is_set.result c.is_set.ensures (c.loop-i.invariant.moved f)
      (c.clear_one.ensures.other_slots (c.loop-i.invariant.its_form f));
}

pub returns-clause-kept : goal.returns-clause-kept
returns-clause-kept c = λ f.
    let last : c.loop-i.i ≡ 32 = omega arith in
    c.loop-i.invariant.kept f ∙ ap (λ (n : ℕ). kept_to n c.args.mask (slots_in c.args.page.now)) last ∙ kept-all c.args.page.now c.args.mask f

pub returns-clause-moved : goal.returns-clause-moved
returns-clause-moved c = λ f.
    let last : c.loop-i.i ≡ 32 = omega arith in
    c.loop-i.invariant.moved f ∙ ap (λ (n : ℕ). moved_to n c.args.mask (slots_in c.args.page.now)) last ∙ moved-all c.args.page.now c.args.mask f
