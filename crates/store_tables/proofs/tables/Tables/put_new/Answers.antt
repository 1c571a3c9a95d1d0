use Rattle.std.proofs.Common.{◌≡◌, ◌+◌, ◌∙◌, refl, Err, inl, inr, ⊎_elim, ap, arith, subst}
use Rattle.std.proofs.lemmas.Result.{err_from_is_err_and}
use Rattle.page_face.specs.declared.fault.PageFault.TheVariants.{Damaged, NoRoom}
use Rattle.btree_nodes.specs.Supply.{View, view}
use Rattle.btree_nodes.specs.Damages.{AsksOnly}
use Rattle.btree_nodes.specs.Tree.{map_uses}
use Rattle.paged_map.specs.Heights.{height_of}
use Rattle.store_tables.specs.declared.tables.Tables.{Tables}
use Rattle.store_tables.specs.Broken.{words_disagree}
use Rattle.store_tables.specs.Holding.{numbers_form, texts_form}
use Rattle.store_tables.proofs.FrameLemmas.{changed-further}
use Rattle.store_tables.proofs.Heads.{put-spares_head, put-spares_words}
use Rattle.store_tables.proofs.HoldLemmas.{changed-next}
use Rattle.store_tables.proofs.TakeLemmas.{takes-passed, takes-then, takes-wider}
use Rattle.store_tables.proofs.ToldLemmas.{asks-both, asks-numbers, told-changed}
use Rattle.store_tables.proofs.tables.Tables.put_new.Goals as goal

pub returns-clause-put : goal.returns-clause-put
returns-clause-put g c entries free holds apart =
    let first = c.in_ok-put_number.ensures.put entries free holds apart in
    let second = c.in_ok-put_text.ensures.put _ first.1.free first.1.holds first.1.apart in
    changed-next (changed-further first.1 second.1) (c.args.self.now.next_word + 1)

pub returns-clause-own : goal.returns-clause-own
returns-clause-own g c entries free holds apart told =
    let before : View = view (g.P.Pages.pages c.args.pages.now) (g.P.Pages.count c.args.pages.now) (g.P.Pages.first c.args.pages.now) free in
    let first = c.in_ok-put_number.ensures.put entries free holds apart in
    asks-both (g.P.Pages.pages c.args.pages.now) (g.P.Pages.pages c.put_number.new.pages) c.args.self.now _ _ _ (c.in_ok-put_number.ensures.texts entries free holds apart)
    (c.put_number.ensures.own told) (subst (λ (t : Tables). AsksOnly (map_uses texts_form (g.P.Pages.pages c.put_number.new.pages) t.texts) (g.P.Pages.asked c.put_number.new.pages) (g.P.Pages.asked c.put_text.new.pages)) c.put_number.ensures.others
    (c.put_text.ensures.own (told-changed before c.args.self.now _ _ _ _ _ first.1 told)))

pub returns-in_err-put_number-clause-no_false_damage : goal.returns-in_err-put_number-clause-no_false_damage
returns-in_err-put_number-clause-no_false_damage g c entries free holds apart damage =
    let p = err_from_is_err_and c.from_residual.result c.from_residual.ensures.1 in
    λ e. (let same : c.in_err-put_number.field-0.0 ≡ Damaged damage = cc (p.1, p.2, e) in
    c.in_err-put_number.ensures.no_false_damage entries free holds apart damage (ap Err same))

pub returns-in_err-put_number-clause-damaged : goal.returns-in_err-put_number-clause-damaged
returns-in_err-put_number-clause-damaged g c told damage =
    let p = err_from_is_err_and c.from_residual.result c.from_residual.ensures.1 in
    λ e. (let same : c.in_err-put_number.field-0.0 ≡ Damaged damage = cc (p.1, p.2, e) in
    ⊎_elim (λ map. inl map) (λ take. inr (inl take)) (c.in_err-put_number.ensures.damaged told damage (ap Err same)))

pub returns-in_err-put_number-clause-own : goal.returns-in_err-put_number-clause-own
returns-in_err-put_number-clause-own g c entries free holds apart told = asks-numbers (g.P.Pages.pages c.args.pages.now) c.args.self.now _ _ (c.put_number.ensures.own told)

pub returns-in_err-put_text-clause-no_false_damage : goal.returns-in_err-put_text-clause-no_false_damage
returns-in_err-put_text-clause-no_false_damage g c entries free holds apart damage =
    let first = c.in_ok-put_number.ensures.put entries free holds apart in
    let p = err_from_is_err_and c.from_residual-in_err-put_text.result c.from_residual-in_err-put_text.ensures.1 in
    λ e. (let same : c.in_err-put_text.field-0.0 ≡ Damaged damage = cc (p.1, p.2, e) in
    c.in_err-put_text.ensures.no_false_damage _ first.1.free first.1.holds first.1.apart damage (ap Err same))

pub returns-in_err-put_text-clause-damaged : goal.returns-in_err-put_text-clause-damaged
returns-in_err-put_text-clause-damaged g c told damage =
    let p = err_from_is_err_and c.from_residual-in_err-put_text.result c.from_residual-in_err-put_text.ensures.1 in
    λ e. (let same : c.in_err-put_text.field-0.0 ≡ Damaged damage = cc (p.1, p.2, e) in
    inr (inr (λ entries free holds apart.
    let first = c.in_ok-put_number.ensures.put entries free holds apart in
    c.in_err-put_text.ensures.no_false_damage _ first.1.free first.1.holds first.1.apart damage (ap Err same))))

pub returns-in_err-put_text-clause-own : goal.returns-in_err-put_text-clause-own
returns-in_err-put_text-clause-own g c entries free holds apart told =
    let before : View = view (g.P.Pages.pages c.args.pages.now) (g.P.Pages.count c.args.pages.now) (g.P.Pages.first c.args.pages.now) free in
    let first = c.in_ok-put_number.ensures.put entries free holds apart in
    asks-both (g.P.Pages.pages c.args.pages.now) (g.P.Pages.pages c.put_number.new.pages) c.args.self.now _ _ _ (c.in_ok-put_number.ensures.texts entries free holds apart)
    (c.put_number.ensures.own told) (subst (λ (t : Tables). AsksOnly (map_uses texts_form (g.P.Pages.pages c.put_number.new.pages) t.texts) (g.P.Pages.asked c.put_number.new.pages) (g.P.Pages.asked c.put_text.new.pages)) c.put_number.ensures.others
    (c.put_text.ensures.own (told-changed before c.args.self.now _ _ _ _ _ first.1 told)))

pub returns-in_err-put_number-clause-no_head : goal.returns-in_err-put_number-clause-no_head
returns-in_err-put_number-clause-no_head g c told damage =
    let p = err_from_is_err_and c.from_residual.result c.from_residual.ensures.1 in
    λ e. (let same : c.in_err-put_number.field-0.0 ≡ Damaged damage = cc (p.1, p.2, e) in
    put-spares_head numbers_form (g.P.Pages.pages c.args.pages.now) (g.P.Pages.count c.args.pages.now) c.args.self.now.numbers (g.P.Pages.pages c.put_number.new.pages) (g.P.Pages.count c.put_number.new.pages) (g.P.Pages.first c.put_number.new.pages) _ _ damage
    (told c.put_number.new.pages) (g.met.P.Pages.first_is_counted c.put_number.new.pages) (c.in_err-put_number.ensures.damaged (told c.args.pages.now) damage (ap Err same)))

pub returns-in_err-put_text-clause-no_head : goal.returns-in_err-put_text-clause-no_head
returns-in_err-put_text-clause-no_head g c told damage =
    let p = err_from_is_err_and c.from_residual-in_err-put_text.result c.from_residual-in_err-put_text.ensures.1 in
    λ e. (let same : c.in_err-put_text.field-0.0 ≡ Damaged damage = cc (p.1, p.2, e) in
    put-spares_head texts_form (g.P.Pages.pages c.put_number.new.pages) (g.P.Pages.count c.put_number.new.pages) c.put_number.new.self.texts (g.P.Pages.pages c.put_text.new.pages) (g.P.Pages.count c.put_text.new.pages) (g.P.Pages.first c.put_text.new.pages) _ _ damage
    (told c.put_text.new.pages) (g.met.P.Pages.first_is_counted c.put_text.new.pages) (c.in_err-put_text.ensures.damaged (told c.put_number.new.pages) damage (ap Err same)))

pub returns-in_err-put_number-clause-takes : goal.returns-in_err-put_number-clause-takes
returns-in_err-put_number-clause-takes g c entries free holds apart told =
    let p = err_from_is_err_and c.from_residual.result c.from_residual.ensures.1 in
    takes-wider g.P.Pages _ _ c.args.pages.now c.put_number.new.pages (omega arith)
    (takes-passed g.P.Pages _ c.from_residual.result _ c.args.pages.now c.put_number.new.pages (λ e. (let same : c.in_err-put_number.field-0.0 ≡ NoRoom = cc (p.1, p.2, e) in ap Err same)) (c.in_err-put_number.ensures.takes told))

pub returns-in_err-put_text-clause-takes : goal.returns-in_err-put_text-clause-takes
returns-in_err-put_text-clause-takes g c entries free holds apart told =
    let before : View = view (g.P.Pages.pages c.args.pages.now) (g.P.Pages.count c.args.pages.now) (g.P.Pages.first c.args.pages.now) free in
    let first = c.in_ok-put_number.ensures.put entries free holds apart in
    let texts = c.in_ok-put_number.ensures.texts entries free holds apart in
    let height : height_of (g.P.Pages.pages c.put_number.new.pages) c.put_number.new.self.texts ≡ height_of (g.P.Pages.pages c.args.pages.now) c.args.self.now.texts = ap (λ (t : Tables). height_of (g.P.Pages.pages c.put_number.new.pages) t.texts) c.put_number.ensures.others ∙ texts.height in
    let one = c.put_number.ensures.takes told in
    let p = err_from_is_err_and c.from_residual-in_err-put_text.result c.from_residual-in_err-put_text.ensures.1 in
    takes-wider g.P.Pages _ _ c.args.pages.now c.put_text.new.pages (omega (arith, height))
    (takes-then g.P.Pages _ _ c.args.pages.now c.put_number.new.pages c.put_text.new.pages one.count c.put_number.ensures.frame.room
    (takes-passed g.P.Pages _ c.from_residual-in_err-put_text.result _ c.put_number.new.pages c.put_text.new.pages (λ e. (let same : c.in_err-put_text.field-0.0 ≡ NoRoom = cc (p.1, p.2, e) in ap Err same))
    (c.in_err-put_text.ensures.takes (told-changed before c.args.self.now _ _ _ _ _ first.1 told))))

pub returns-clause-takes : goal.returns-clause-takes
returns-clause-takes g c entries free holds apart told =
    let before : View = view (g.P.Pages.pages c.args.pages.now) (g.P.Pages.count c.args.pages.now) (g.P.Pages.first c.args.pages.now) free in
    let first = c.in_ok-put_number.ensures.put entries free holds apart in
    let texts = c.in_ok-put_number.ensures.texts entries free holds apart in
    let height : height_of (g.P.Pages.pages c.put_number.new.pages) c.put_number.new.self.texts ≡ height_of (g.P.Pages.pages c.args.pages.now) c.args.self.now.texts = ap (λ (t : Tables). height_of (g.P.Pages.pages c.put_number.new.pages) t.texts) c.put_number.ensures.others ∙ texts.height in
    let one = c.put_number.ensures.takes told in
    let two = c.put_text.ensures.takes (told-changed before c.args.self.now _ _ _ _ _ first.1 told) in record {
      count = (let a = one.count in let b = two.count in omega (arith, a, b, height));
      full = λ e. absurd (cc);
      none = λ e. absurd (cc);
    }

pub returns-in_err-put_number-clause-no_words : goal.returns-in_err-put_number-clause-no_words
returns-in_err-put_number-clause-no_words g c told =
    let p = err_from_is_err_and c.from_residual.result c.from_residual.ensures.1 in
    λ e. (let same : c.in_err-put_number.field-0.0 ≡ Damaged words_disagree = cc (p.1, p.2, e) in
    put-spares_words numbers_form (g.P.Pages.pages c.args.pages.now) (g.P.Pages.count c.args.pages.now) c.args.self.now.numbers (g.P.Pages.pages c.put_number.new.pages) (g.P.Pages.count c.put_number.new.pages) (g.P.Pages.first c.put_number.new.pages) _ _ words_disagree
    (told c.put_number.new.pages) (g.met.P.Pages.first_is_counted c.put_number.new.pages) (c.in_err-put_number.ensures.damaged (told c.args.pages.now) words_disagree (ap Err same)) refl)

pub returns-in_err-put_text-clause-no_words : goal.returns-in_err-put_text-clause-no_words
returns-in_err-put_text-clause-no_words g c told =
    let p = err_from_is_err_and c.from_residual-in_err-put_text.result c.from_residual-in_err-put_text.ensures.1 in
    λ e. (let same : c.in_err-put_text.field-0.0 ≡ Damaged words_disagree = cc (p.1, p.2, e) in
    put-spares_words texts_form (g.P.Pages.pages c.put_number.new.pages) (g.P.Pages.count c.put_number.new.pages) c.put_number.new.self.texts (g.P.Pages.pages c.put_text.new.pages) (g.P.Pages.count c.put_text.new.pages) (g.P.Pages.first c.put_text.new.pages) _ _ words_disagree
    (told c.put_text.new.pages) (g.met.P.Pages.first_is_counted c.put_text.new.pages) (c.in_err-put_text.ensures.damaged (told c.put_number.new.pages) words_disagree (ap Err same)) refl)
