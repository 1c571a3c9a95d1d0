use Rattle.std.proofs.Common.{◌≡◌, ℕ, Err, Option, option_map, unwrap_or, inl, inr, ⊎_elim, ap, sym, subst, ◌∙◌}
use Rattle.std.specs.BTreeMap.{insert_entry}
use Rattle.std.specs.Ordering.{nat_cmp}
use Rattle.std.proofs.lemmas.Result.{err_from_is_err_and}
use Rattle.page_face.specs.declared.fault.PageFault.TheVariants.{Damaged}
use Rattle.btree_nodes.proofs.Harms.{asked-before, asks-further}
use Rattle.btree_nodes.specs.Damages.{AreReadable, AsksOnly}
use Rattle.btree_nodes.specs.Supply.{View, view}
use Rattle.row_codec.specs.Counted.{number_bytes}
use Rattle.store_tables.specs.Broken.{words_disagree}
use Rattle.store_tables.specs.Entries.{Entries}
use Rattle.store_tables.specs.Holding.{Holds, IsApart, IsChanged, word_uses}
use Rattle.store_tables.specs.Words.{next_after}
use Rattle.store_tables.proofs.HoldLemmas.{if_ok, none-found, with_holds-found, with_holds-new}
use Rattle.store_tables.proofs.TakeLemmas.{takes-read}
use Rattle.store_tables.proofs.ToldLemmas.{apart-counted}
use Rattle.store_tables.proofs.tables.Tables.hold_numbered.Goals as goal

pub returns-in_err-hold-clause-no_false_damage : goal.returns-in_err-hold-clause-no_false_damage
returns-in_err-hold-clause-no_false_damage g c entries free holds apart was told damage =
    let before : View = view (g.P.Pages.pages c.args.pages.now) (g.P.Pages.count c.args.pages.now) (g.P.Pages.first c.args.pages.now) free in
    let p = err_from_is_err_and c.from_residual.result c.from_residual.ensures.1 in
    λ e. (let same : c.in_err-hold.field-0.0 ≡ Damaged damage = cc (p.1, p.2, e) in
    c.in_err-hold.ensures.no_false_damage entries holds was told (apart-counted before c.args.self.now apart) damage (ap Err same))

pub returns-in_err-hold-clause-damaged : goal.returns-in_err-hold-clause-damaged
returns-in_err-hold-clause-damaged g c told sought damage =
    let p = err_from_is_err_and c.from_residual.result c.from_residual.ensures.1 in
    λ e. (let same : c.in_err-hold.field-0.0 ≡ Damaged damage = cc (p.1, p.2, e) in
    inl (c.in_err-hold.ensures.damaged told sought damage (ap Err same)))

pub returns-in_err-hold-clause-own : goal.returns-in_err-hold-clause-own
returns-in_err-hold-clause-own g c entries free holds apart told = c.count_with.ensures.own told

pub returns-in_err-replace_number-in-Some-clause-damaged : goal.returns-in_err-replace_number-in-Some-clause-damaged
returns-in_err-replace_number-in-Some-clause-damaged g c told sought damage =
    let p = err_from_is_err_and c.from_residual-in_err-replace_number-in-Some.result c.from_residual-in_err-replace_number-in-Some.ensures.1 in
    λ e. (let same : c.in_err-replace_number-in-Some.field-0.0 ≡ Damaged damage = cc (p.1, p.2, e) in
    absurd (c.in_err-replace_number-in-Some.ensures.no_false_damage damage (ap Err same)))

pub returns-in_err-replace_number-in-Some-clause-own : goal.returns-in_err-replace_number-in-Some-clause-own
returns-in_err-replace_number-in-Some-clause-own g c entries free holds apart told =
    subst (AsksOnly (word_uses (g.P.Pages.pages c.args.pages.now) c.args.self.now) (g.P.Pages.asked c.args.pages.now)) (sym c.replace_number.ensures.asked) (c.count_with.ensures.own told)

pub returns-in_ok-replace_number-in-Some-clause-own : goal.returns-in_ok-replace_number-in-Some-clause-own
returns-in_ok-replace_number-in-Some-clause-own g c entries free holds apart told =
    subst (AsksOnly (word_uses (g.P.Pages.pages c.args.pages.now) c.args.self.now) (g.P.Pages.asked c.args.pages.now)) (sym c.replace_number.ensures.asked) (c.count_with.ensures.own told)

pub returns-in_ok-replace_number-in-Some-clause-held : goal.returns-in_ok-replace_number-in-Some-clause-held
returns-in_ok-replace_number-in-Some-clause-held g c entries free holds apart was =
    let before : View = view (g.P.Pages.pages c.args.pages.now) (g.P.Pages.count c.args.pages.now) (g.P.Pages.first c.args.pages.now) free in
    let r = c.count_with.ensures in
    let held : Holds (g.P.Pages.pages c.count_with.new.pages) c.args.self.now entries = rw r.frame.pages holds in
    let kept : IsApart (view (g.P.Pages.pages c.count_with.new.pages) (g.P.Pages.count c.count_with.new.pages) (g.P.Pages.first c.count_with.new.pages) free) c.args.self.now = rw (r.frame.pages, r.frame.count, r.frame.first) apart in
    let h = c.in_ok-hold.ensures.held entries holds was in
    let next : ℕ = c.args.self.now.next_word in
    let number : ℕ = c.unwrap_or-number.result in
    let number_is : number ≡ unwrap_or c.args.found next = c.unwrap_or-number.ensures in
    let is = with_holds-found c.args.places c.args.word.now next c.in_ok-hold.hold.places c.args.found c.in_ok-hold.hold.spot c.in-Some.spot entries was c.in_ok-hold.ensures.known c.in-Some.is h.1 in
    let changed = c.in_ok-replace_number-in-Some.ensures.put entries free held kept in (
      h.0,
      number_is ∙ ap (λ (f : Option ℕ). unwrap_or f next) was,
      sym is.1,
      subst (λ (e : Entries). IsChanged before c.args.self.now (g.P.Pages.pages c.replace_number.new.pages) (g.P.Pages.count c.replace_number.new.pages) (g.P.Pages.first c.replace_number.new.pages) c.args.self.now e)
          (ap (λ (n : ℕ). record entries { numbers = insert_entry nat_cmp entries.numbers n (record { word = c.args.word.now; places = c.in_ok-hold.hold.places }) }) number_is ∙ sym is.0)
          (rw (sym r.frame.pages, sym r.frame.count, sym r.frame.first) changed),
    )

pub returns-in-None-clause-held : goal.returns-in-None-clause-held
returns-in-None-clause-held g c entries free holds apart found_was =
    let before : View = view (g.P.Pages.pages c.args.pages.now) (g.P.Pages.count c.args.pages.now) (g.P.Pages.first c.args.pages.now) free in
    let r = c.count_with.ensures in
    let held : Holds (g.P.Pages.pages c.count_with.new.pages) c.args.self.now entries = rw r.frame.pages holds in
    let kept : IsApart (view (g.P.Pages.pages c.count_with.new.pages) (g.P.Pages.count c.count_with.new.pages) (g.P.Pages.first c.count_with.new.pages) free) c.args.self.now = rw (r.frame.pages, r.frame.count, r.frame.first) apart in
    let h = c.in_ok-hold.ensures.held entries holds found_was in
    let next : ℕ = c.args.self.now.next_word in
    let was = sym found_was ∙ none-found c.args.found c.in_ok-hold.hold.spot c.in_ok-hold.ensures.known c.in-None.is in
    let is = with_holds-new c.args.places c.args.word.now next c.in_ok-hold.hold.places entries was h.1 in
    if_ok c.put_new.result (c.put_new.ensures.put entries free held kept) c.put_new.ensures.number c.put_new.ensures.next
    (λ number changed same after. (
      h.0,
      same ∙ sym (ap (λ (f : Option ℕ). unwrap_or f next) was),
      after ∙ sym (ap (λ (f : Option ℕ). next_after f next) was),
      subst (λ (e : Entries). IsChanged before c.args.self.now (g.P.Pages.pages c.put_new.new.pages) (g.P.Pages.count c.put_new.new.pages) (g.P.Pages.first c.put_new.new.pages) c.put_new.new.self e) (sym is)
          (rw (sym r.frame.pages, sym r.frame.count, sym r.frame.first) changed),
    ))

pub returns-in-None-clause-no_false_damage : goal.returns-in-None-clause-no_false_damage
returns-in-None-clause-no_false_damage g c entries free holds apart was told damage =
    let before : View = view (g.P.Pages.pages c.args.pages.now) (g.P.Pages.count c.args.pages.now) (g.P.Pages.first c.args.pages.now) free in
    let r = c.count_with.ensures in
    let held : Holds (g.P.Pages.pages c.count_with.new.pages) c.args.self.now entries = rw r.frame.pages holds in
    let kept : IsApart (view (g.P.Pages.pages c.count_with.new.pages) (g.P.Pages.count c.count_with.new.pages) (g.P.Pages.first c.count_with.new.pages) free) c.args.self.now = rw (r.frame.pages, r.frame.count, r.frame.first) apart in
    λ e. absurd (c.put_new.ensures.no_false_damage entries free held kept damage e)

pub returns-in-None-clause-damaged : goal.returns-in-None-clause-damaged
returns-in-None-clause-damaged g c told sought damage =
    let still : AreReadable (g.P.Pages.pages c.count_with.new.pages) (g.P.Pages.count c.count_with.new.pages) = rw (c.count_with.ensures.frame.pages, c.count_with.ensures.frame.count) told in
    let r = c.count_with.ensures in
    λ e. ⊎_elim
    (λ map. inl (inr (inl (rw (sym r.frame.pages, sym r.frame.count) map.0, asked-before (word_uses (g.P.Pages.pages c.args.pages.now) c.args.self.now) _ _ _ damage.page (r.own told) map.1))))
    (λ rest. ⊎_elim (λ take. inr (inl take)) (λ none. inr (inr (λ tree. sought tree ∙ ap (λ (f : Option ℕ). option_map number_bytes f) (none-found c.args.found c.in_ok-hold.hold.spot c.in_ok-hold.ensures.known c.in-None.is), λ entries free holds apart. none entries free (rw r.frame.pages holds) (rw (r.frame.pages, r.frame.count, r.frame.first) apart)))) rest)
    (c.put_new.ensures.damaged still damage e)

pub returns-in-None-clause-own : goal.returns-in-None-clause-own
returns-in-None-clause-own g c entries free holds apart told =
    let before : View = view (g.P.Pages.pages c.args.pages.now) (g.P.Pages.count c.args.pages.now) (g.P.Pages.first c.args.pages.now) free in
    let r = c.count_with.ensures in
    let held : Holds (g.P.Pages.pages c.count_with.new.pages) c.args.self.now entries = rw r.frame.pages holds in
    let kept : IsApart (view (g.P.Pages.pages c.count_with.new.pages) (g.P.Pages.count c.count_with.new.pages) (g.P.Pages.first c.count_with.new.pages) free) c.args.self.now = rw (r.frame.pages, r.frame.count, r.frame.first) apart in
    let still : AreReadable (g.P.Pages.pages c.count_with.new.pages) (g.P.Pages.count c.count_with.new.pages) = rw (c.count_with.ensures.frame.pages, c.count_with.ensures.frame.count) told in
    asks-further (word_uses (g.P.Pages.pages c.args.pages.now) c.args.self.now) _ _ _ (r.own told) (rw (sym r.frame.pages) (c.put_new.ensures.own entries free held kept still))

pub returns-in_err-hold-clause-no_head : goal.returns-in_err-hold-clause-no_head
returns-in_err-hold-clause-no_head g c told damage =
    let p = err_from_is_err_and c.from_residual.result c.from_residual.ensures.1 in
    λ e. (let same : c.in_err-hold.field-0.0 ≡ Damaged damage = cc (p.1, p.2, e) in
    c.in_err-hold.ensures.no_head (told c.args.pages.now) damage (ap Err same))

pub returns-in_err-replace_number-in-Some-clause-no_head : goal.returns-in_err-replace_number-in-Some-clause-no_head
returns-in_err-replace_number-in-Some-clause-no_head g c told damage =
    let p = err_from_is_err_and c.from_residual-in_err-replace_number-in-Some.result c.from_residual-in_err-replace_number-in-Some.ensures.1 in
    λ e. (let same : c.in_err-replace_number-in-Some.field-0.0 ≡ Damaged damage = cc (p.1, p.2, e) in
    absurd (c.in_err-replace_number-in-Some.ensures.no_false_damage damage (ap Err same)))

pub returns-in-None-clause-takes : goal.returns-in-None-clause-takes
returns-in-None-clause-takes g c entries free holds apart told =
    let r = c.count_with.ensures in
    let held : Holds (g.P.Pages.pages c.count_with.new.pages) c.args.self.now entries = rw r.frame.pages holds in
    let kept : IsApart (view (g.P.Pages.pages c.count_with.new.pages) (g.P.Pages.count c.count_with.new.pages) (g.P.Pages.first c.count_with.new.pages) free) c.args.self.now = rw (r.frame.pages, r.frame.count, r.frame.first) apart in
    let still : AreReadable (g.P.Pages.pages c.count_with.new.pages) (g.P.Pages.count c.count_with.new.pages) = rw (r.frame.pages, r.frame.count) told in
    takes-read g.P.Pages _ c.args.pages.now c.count_with.new.pages c.put_new.new.pages r.frame (rw (sym r.frame.pages) (c.put_new.ensures.takes entries free held kept still))

pub returns-in_err-replace_number-in-Some-clause-unwritten : goal.returns-in_err-replace_number-in-Some-clause-unwritten
returns-in_err-replace_number-in-Some-clause-unwritten g c told =
    let p = err_from_is_err_and c.from_residual-in_err-replace_number-in-Some.result c.from_residual-in_err-replace_number-in-Some.ensures.1 in
    λ e. (let same : c.in_err-replace_number-in-Some.field-0.0 ≡ Damaged words_disagree = cc (p.1, p.2, e) in
    absurd (c.in_err-replace_number-in-Some.ensures.no_false_damage words_disagree (ap Err same)))

pub returns-in-None-clause-unwritten : goal.returns-in-None-clause-unwritten
returns-in-None-clause-unwritten g c told = λ e. absurd (c.put_new.ensures.no_words told e)
