use Rattle.std.proofs.Common.{◌≡◌, ℕ, ◌+◌, ◌∷◌, List, length, All, Err, cond, sym, ap, subst, ◌∙◌, arith, rules}
use Rattle.std.proofs.lemmas.List.Elements.{All-head, All-tail}
use Rattle.std.proofs.lemmas.Result.{err_from_is_err_and, on_ok_weaker}
use Rattle.page_face.specs.declared.fault.PageFault.TheVariants.{Damaged}
use Rattle.btree_nodes.specs.Supply.{View, view}
use Rattle.row_codec.specs.Pairs.{Pair}
use Rattle.store_tables.specs.Entries.{Entries}
use Rattle.store_tables.specs.Holding.{IsChanged}
use Rattle.store_tables.specs.Words.{with_hold}
use Rattle.store_tables.proofs.FrameLemmas.{changed-further}
use Rattle.store_tables.proofs.ToldLemmas.{told-changed}
use Rattle.store_model.specs.Updates.{Numbered, has_pair, numbered, placed}
use Rattle.table_updates.specs.Numbers.{HasTermImpact}
use Rattle.table_updates.proofs.Turns.{can-number-rest, numbered-first}
use Rattle.table_updates.proofs.numbering.+number_words.Goals as goal

pub put_pair-requires-clause-impact : goal.put_pair-requires-clause-impact
put_pair-requires-clause-impact g t c =
    let is : c.args.words.now ≡ c.in-Some.field-0-0.now ∷ c.in-Some.rest.now = search rules in
    (All-head HasTermImpact c.in-Some.field-0-0.now c.in-Some.rest.now (subst (All HasTermImpact) is c.requires.impacts)).0

pub number_words-requires : goal.number_words-requires
number_words-requires g t c κs within =
    let is : c.args.words.now ≡ c.in-Some.field-0-0.now ∷ c.in-Some.rest.now = search rules in
    let impacts = All-tail HasTermImpact c.in-Some.field-0-0.now c.in-Some.rest.now (subst (All HasTermImpact) is c.requires.impacts) in
    let long : length c.args.words.now ≡ length c.in-Some.rest.now + 1 = search rules in
    search rules

pub returns-clause-numbered : goal.returns-clause-numbered
returns-clause-numbered g t c entries free holds apart =
    let before : View = view (g.P.Pages.pages c.args.pages.now) (g.P.Pages.count c.args.pages.now) (g.P.Pages.first c.args.pages.now) free in
    let old : List Pair = c.args.old.now in
    let next : ℕ = c.args.tables.now.next_word in
    let term : List ℕ × ℕ = c.in-Some.field-0-0.now in
    let number : ℕ = c.in_ok-number.number in
    let is : c.args.words.now ≡ term ∷ c.in-Some.rest.now = search rules in
    let h = c.in_ok-number.ensures.held entries free holds apart in
    let then : Entries = cond (has_pair number old) entries (with_hold term.0 next entries) in
    let first = numbered-first old c.in-Some.rest.now term.0 term.1 next number c.take_hold.new.tables.next_word entries h.0 h.1 c.args.words.now is in
    on_ok_weaker c.number_words.result
    (λ rest.
    subst (λ (now : Numbered). (c.number_words.new.tables.next_word ≡ now.next_word) × (c.number_words.new.pairs.entries ≡ placed c.args.pairs.now.entries now.pairs)
    × IsChanged before c.args.tables.now (g.P.Pages.pages c.number_words.new.pages) (g.P.Pages.count c.number_words.new.pages) (g.P.Pages.first c.number_words.new.pages) c.number_words.new.tables now.entries) (sym first) (
      rest.0,
      rest.1 ∙ ap (λ (ps : List Pair). placed ps (numbered old c.in-Some.rest.now c.take_hold.new.tables.next_word then).pairs) c.in_ok-put_pair.ensures.put,
      changed-further h.2 rest.2,
    ))
    (c.number_words.ensures.numbered then h.2.free h.2.holds h.2.apart)

pub returns-clause-no_false_damage : goal.returns-clause-no_false_damage
returns-clause-no_false_damage g t c entries free holds apart can told damage =
    let before : View = view (g.P.Pages.pages c.args.pages.now) (g.P.Pages.count c.args.pages.now) (g.P.Pages.first c.args.pages.now) free in
    let old : List Pair = c.args.old.now in
    let next : ℕ = c.args.tables.now.next_word in
    let term : List ℕ × ℕ = c.in-Some.field-0-0.now in
    let number : ℕ = c.in_ok-number.number in
    let is : c.args.words.now ≡ term ∷ c.in-Some.rest.now = search rules in
    let h = c.in_ok-number.ensures.held entries free holds apart in
    let then : Entries = cond (has_pair number old) entries (with_hold term.0 next entries) in
    let left = can-number-rest old c.in-Some.rest.now term.0 term.1 next number c.take_hold.new.tables.next_word entries h.0 h.1 c.args.words.now is can in
    c.number_words.ensures.no_false_damage then h.2.free h.2.holds h.2.apart left (told-changed before c.args.tables.now _ _ _ _ _ h.2 told) damage

pub returns-clause-rises : goal.returns-clause-rises
returns-clause-rises g t c =
    let long : length c.args.words.now ≡ length c.in-Some.rest.now + 1 = search rules in
    let first = c.in_ok-number.ensures.rises in
    on_ok_weaker c.number_words.result (λ rest. omega arith) c.number_words.ensures.rises

pub returns-in_err-number-clause-no_head : goal.returns-in_err-number-clause-no_head
returns-in_err-number-clause-no_head g t c told damage =
    let p = err_from_is_err_and c.from_residual.result c.from_residual.ensures.1 in
    λ e. (let same : c.in_err-number.field-0.0 ≡ Damaged damage = cc (p.1, p.2, e) in
    c.in_err-number.ensures.no_head told damage (ap Err same))
