use Rattle.std.proofs.Common.{◌≡◌, ◌^◌, ◌∙◌, sym, Some, subst, Option}
use Rattle.std.specs.Prelude.{IfSome}
use Rattle.btree_nodes.proofs.Walks.{same-fault}
use Rattle.page_walks.proofs.Misuses.{same-damage}
use Rattle.row_codec.specs.declared.stored.Stored.{Stored}
use Rattle.store_tables.specs.Coded.{IsPlaceValue}
use Rattle.store_tables.specs.Entries.{place_of_key}
use Rattle.tree_check.proofs.Ascents.{words-ascend}
use Rattle.tree_check.proofs.Rights.{place-entry, place-right, place-wrong, place-none, place-apart}
use Rattle.tree_check.proofs.words.are_of_place.Goals as goal

pub returns-then-is_same_point-clause-right : goal.returns-then-is_same_point-clause-right
returns-then-is_same_point-clause-right g c = λ entries holds yes.
    let held : place_of_key c.args.key.now entries.places ≡ Some c.in-Ok-Some.stored = sym (c.in-Ok-Some.ensures.found entries holds) ∙ c.in-Ok-Some.field-0-is in
    place-right entries.places c.args.point.now c.args.key.now c.in-Ok-Some.stored c.args.words.now c.bytes-form.ensures.name held (c.is_same_point.ensures.same c.if-is_same_point.true)
    (c.are_same.ensures.same yes ∙ c.pairs_of.ensures)

pub returns-then-is_same_point-clause-wrong : goal.returns-then-is_same_point-clause-wrong
returns-then-is_same_point-clause-wrong g c = λ entries holds no h.
    let held : place_of_key c.args.key.now entries.places ≡ Some c.in-Ok-Some.stored = sym (c.in-Ok-Some.ensures.found entries holds) ∙ c.in-Ok-Some.field-0-is in
    let value : IsPlaceValue c.in-Ok-Some.stored = subst (λ (o : Option Stored). IfSome o IsPlaceValue) c.in-Ok-Some.field-0-is c.in-Ok-Some.ensures.of_form in
    place-wrong entries.places c.args.point.now c.args.key.now c.in-Ok-Some.stored c.args.words.now c.bytes-form.ensures.name held value.1 (words-ascend 0 (2 ^ 64) c.args.words.now c.requires)
    (λ q. c.are_same.ensures.apart no (q ∙ sym c.pairs_of.ensures)) h

pub returns-then-is_same_point-clause-held : goal.returns-then-is_same_point-clause-held
returns-then-is_same_point-clause-held g c = λ entries holds.
    place-entry entries.places c.args.point.now c.args.key.now c.in-Ok-Some.stored c.bytes-form.ensures.name (sym (c.in-Ok-Some.ensures.found entries holds) ∙ c.in-Ok-Some.field-0-is)
    (c.is_same_point.ensures.same c.if-is_same_point.true)

pub returns-else-is_same_point-clause-damaged : goal.returns-else-is_same_point-clause-damaged
returns-else-is_same_point-clause-damaged g c = λ entries holds told counted damage e.
    let held : place_of_key c.args.key.now entries.places ≡ Some c.in-Ok-Some.stored = sym (c.in-Ok-Some.ensures.found entries holds) ∙ c.in-Ok-Some.field-0-is in
    let value : IsPlaceValue c.in-Ok-Some.stored = subst (λ (o : Option Stored). IfSome o IsPlaceValue) c.in-Ok-Some.field-0-is c.in-Ok-Some.ensures.of_form in
    record {
      named = sym (same-damage _ _ (sym c.damaged.ensures ∙ same-fault _ _ e));
      missing = place-apart entries.places c.args.point.now c.args.key.now c.in-Ok-Some.stored c.bytes-form.ensures.name held c.on_map.ensures value.0.point (λ q. c.is_same_point.ensures.apart c.if-is_same_point.false q);
    }

pub returns-in-Ok-None-clause-damaged : goal.returns-in-Ok-None-clause-damaged
returns-in-Ok-None-clause-damaged g c = λ entries holds told counted damage e. record {
  named = sym (same-damage _ _ (sym c.damaged-in-Ok-None.ensures ∙ same-fault _ _ e));
  missing = place-none entries.places c.args.point.now c.args.key.now c.bytes-form.ensures.name (sym (c.in-Ok-None.ensures.found entries holds) ∙ c.in-Ok-None.field-0-is);
}
