use Rattle.std.proofs.Common.{◌≡◌, ◌<◌, ◌∙◌, ℕ, List, arith, sym, ap, subst, refl, Err, inr}
use Rattle.std.proofs.lemmas.Result.{err_from_is_err_and}
use Rattle.btree_nodes.specs.Damages.{AreReadable, AsksOnly}
use Rattle.btree_nodes.proofs.Walks.{same-fault}
use Rattle.paged_map.proofs.Maps.{kept-counted}
use Rattle.rtree_nodes.specs.Slots.{Item, Slots, filled}
use Rattle.rtree_nodes.specs.Stock.{View, view, plain, rows_form, spare_in}
use Rattle.rtree_nodes.specs.Reach.{reach_of, item_of, child_item}
use Rattle.rtree_nodes.specs.Pages.{node_of, slots_in, level_in}
use Rattle.node_rows.specs.Impacts.{impact_in}
use Rattle.irtree_shape.specs.Stock.{IsSupplied}
use Rattle.irtree_shape.specs.Steps.{IsPaired}
use Rattle.irtree_shape.proofs.Adding.{page_unspared}
use Rattle.irtree_insert.specs.declared.grown.Grown.{Grown}
use Rattle.irtree_insert.specs.Fits.{Fits}
use Rattle.irtree_insert.proofs.Loads.{form-level}
use Rattle.irtree_insert.proofs.Splits.{read-same, pair-unspared, parted-part, split-made}
use Rattle.page_face.specs.declared.fault.PageFault.TheVariants.{Damaged}
use Rattle.btree_nodes.proofs.Harms.{asks-further, asks-nothing}
use Rattle.node_rows.proofs.Harms.{harm-later}
use Rattle.irtree_insert.proofs.add.split.Goals as goal

pub returns-in_err-mask-clause-no_false_damage : goal.returns-in_err-mask-clause-no_false_damage
returns-in_err-mask-clause-no_false_damage g c =
    let passed = err_from_is_err_and c.from_residual.result c.from_residual.ensures.1 in
    rw (passed.1, passed.2) (λ least level free ready draft fits full told damage e.
    let v : View = view (g.P.Pages.pages c.args.pages.now) c.args.tree.now.rows (g.P.Pages.count c.args.pages.now) (g.P.Pages.first c.args.pages.now) free in
    let kept = ready.supplied.rows.kept in
    c.ask.ensures.no_false_damage kept.map (kept-counted rows_form (plain v) c.args.tree.now.rows kept) told damage (c.in_err-mask.was ∙ ap Err (same-fault {T = Grown} _ _ e)))

pub returns-in_err-right-clause-no_false_damage : goal.returns-in_err-right-clause-no_false_damage
returns-in_err-right-clause-no_false_damage g c =
    let passed = err_from_is_err_and c.from_residual-in_err-right.result c.from_residual-in_err-right.ensures.1 in
    rw (passed.1, passed.2) (λ least level free ready draft fits full told damage e.
    let looks = c.in_ok-mask.ensures.looks.frame in
    let same = read-same (g.P.Pages.pages c.ask.new.pages) (g.P.Pages.pages c.args.pages.now) (g.P.Pages.count c.ask.new.pages) (g.P.Pages.count c.args.pages.now) (g.P.Pages.first c.ask.new.pages) (g.P.Pages.first c.args.pages.now)
    c.args.tree.now.rows free looks.pages looks.count looks.first in
    c.store_two.ensures.no_false_damage c.args.tree.now.rows free (subst IsSupplied (sym same) ready.supplied) damage (c.in_err-right.was ∙ ap Err (same-fault {T = Grown} _ _ e)))

pub returns-in_err-part_words-clause-no_false_damage : goal.returns-in_err-part_words-clause-no_false_damage
returns-in_err-part_words-clause-no_false_damage g c =
    let passed = err_from_is_err_and c.from_residual-in_err-part_words.result c.from_residual-in_err-part_words.ensures.1 in
    rw (passed.1, passed.2) (λ least level free ready draft fits full told damage e.
    let looks = c.in_ok-mask.ensures.looks.frame in
    let v : View = view (g.P.Pages.pages c.args.pages.now) c.args.tree.now.rows (g.P.Pages.count c.args.pages.now) (g.P.Pages.first c.args.pages.now) free in
    let same = read-same (g.P.Pages.pages c.ask.new.pages) (g.P.Pages.pages c.args.pages.now) (g.P.Pages.count c.ask.new.pages) (g.P.Pages.count c.args.pages.now) (g.P.Pages.first c.ask.new.pages) (g.P.Pages.first c.args.pages.now)
    c.args.tree.now.rows free looks.pages looks.count looks.first in
    let x : Item = item_of c.args.slot.now in
    let unused = page_unspared node_of v least level c.args.page (node_of c.args.draft.now.bytes).level (slots_in c.args.draft.now.bytes) x (impact_in c.args.words.now) ready in
    let pair = subst (λ (w : View). IsPaired w (g.P.Pages.pages c.store_two.new.pages) c.args.tree.now.rows (g.P.Pages.count c.store_two.new.pages) (g.P.Pages.first c.store_two.new.pages) c.args.page c.in_ok-right.right
    c.part-parted.new.draft.bytes c.part-parted.result.other.bytes) same
    (c.in_ok-right.ensures.split c.args.tree.now.rows free (subst IsSupplied (sym same) ready.supplied) (subst (λ (w : View). spare_in w c.args.page ≡ 0) (sym same) unused)) in
    let both = pair-unspared c.args.page c.in_ok-right.right ready.supplied unused pair in
    let told' : AreReadable (g.P.Pages.pages c.ask.new.pages) (g.P.Pages.count c.ask.new.pages) = rw (looks.pages, looks.count) told in
    c.part_words.ensures.no_false_damage pair.free pair.moves.supplied both.0 both.1 pair.apart pair.none (c.in_ok-right.ensures.told told') damage (c.in_err-part_words.was ∙ ap Err (same-fault {T = Grown} _ _ e)))

pub returns-clause-made : goal.returns-clause-made
returns-clause-made g c = λ least level free ready draft fits full.
    let looks = c.in_ok-mask.ensures.looks.frame in
    let v : View = view (g.P.Pages.pages c.args.pages.now) c.args.tree.now.rows (g.P.Pages.count c.args.pages.now) (g.P.Pages.first c.args.pages.now) free in
    let same = read-same (g.P.Pages.pages c.ask.new.pages) (g.P.Pages.pages c.args.pages.now) (g.P.Pages.count c.ask.new.pages) (g.P.Pages.count c.args.pages.now) (g.P.Pages.first c.ask.new.pages) (g.P.Pages.first c.args.pages.now)
    c.args.tree.now.rows free looks.pages looks.count looks.first in
    let x : Item = item_of c.args.slot.now in
    let s : Slots = slots_in c.args.draft.now.bytes in
    let at_level : ℕ = (node_of c.args.draft.now.bytes).level in
    let front : List ℕ = c.part-parted.new.draft.bytes in
    let back : List ℕ = c.part-parted.result.other.bytes in
    let right : ℕ = c.in_ok-right.right in
    let mask : ℕ = c.in_ok-mask.mask in
    let known : at_level ≡ level_in c.args.draft.now.bytes = form-level c.args.draft.now.bytes draft.form in
    let fits' = subst (λ (l : ℕ). Fits l c.args.slot.now) (sym ready.level_is ∙ known) fits in
    let p = c.part-parted.ensures in
    let stay = p.draft draft fits' in
    let move = p.its_draft draft fits' in
    let is = c.in_ok-mask.ensures.mask in
    let parted = p.parts draft fits' full is in
    let part = parted-part mask c.part-parted.result.moves c.part-parted.result.at c.part-parted.result.is_moved s x (slots_in front) (slots_in back) full is parted in
    let unused = page_unspared node_of v least level c.args.page at_level s x (impact_in c.args.words.now) ready in
    let pair = subst (λ (w : View). IsPaired w (g.P.Pages.pages c.store_two.new.pages) c.args.tree.now.rows (g.P.Pages.count c.store_two.new.pages) (g.P.Pages.first c.store_two.new.pages) c.args.page right front back) same
    (c.in_ok-right.ensures.split c.args.tree.now.rows free (subst IsSupplied (sym same) ready.supplied) (subst (λ (w : View). spare_in w c.args.page ≡ 0) (sym same) unused)) in
    let both = pair-unspared c.args.page right ready.supplied unused pair in
    let steps = c.in_ok-part_words.ensures.steps pair.free pair.moves.supplied both.0 both.1 pair.apart pair.none in
    let some_a : 0 < filled (slots_in front) = let m = part.stay in omega arith in
    let some_b : 0 < filled (slots_in back) = let m = part.move in omega arith in
    split-made v least level c.args.page at_level s x (impact_in c.args.words.now) ready
    (g.P.Pages.pages c.store_two.new.pages) (g.P.Pages.pages c.part_words.new.pages) c.part_words.new.tree.rows (g.P.Pages.count c.store_two.new.pages) (g.P.Pages.first c.store_two.new.pages)
    (g.P.Pages.count c.part_words.new.pages) (g.P.Pages.first c.part_words.new.pages) right mask c.part-parted.result.moves c.part-parted.result.at front back c.part-parted.result.is_moved pair steps
    (form-level front stay.form ∙ p.level ∙ sym known) (form-level back move.form ∙ p.its_level ∙ sym known) full is parted
    (child_item c.bounds-2.result right) refl (λ d. c.bounds-2.ensures move some_b d) (reach_of c.bounds.result) (λ d. c.bounds.ensures stay some_a d) _ c.in_ok-mask.ensures.rise

pub returns-in_err-mask-clause-damaged : goal.returns-in_err-mask-clause-damaged
returns-in_err-mask-clause-damaged g c = λ told damage.
    let r = err_from_is_err_and c.from_residual.result c.from_residual.ensures.1 in
    λ e. (let same : c.in_err-mask.field-0.0 ≡ Damaged damage = cc (r.1, r.2, e) in
    c.in_err-mask.ensures.damaged told damage (ap Err same))

pub returns-in_err-right-clause-damaged : goal.returns-in_err-right-clause-damaged
returns-in_err-right-clause-damaged g c = λ told damage.
    let r = err_from_is_err_and c.from_residual-in_err-right.result c.from_residual-in_err-right.ensures.1 in
    λ e. (let same : c.in_err-right.field-0.0 ≡ Damaged damage = cc (r.1, r.2, e) in
    inr (c.in_err-right.ensures.damaged damage (ap Err same)))

pub returns-in_err-right-clause-more : goal.returns-in_err-right-clause-more
returns-in_err-right-clause-more g c = λ told.
    let p = g.P.Pages in
    let a0 : List ℕ = p.asked c.args.pages.now in
    let a1 : List ℕ = p.asked c.ask.new.pages in
    let a2 : List ℕ = p.asked c.store_two.new.pages in
    let f = c.ask.ensures.looks.frame in
    let told1 : AreReadable (p.pages c.ask.new.pages) (p.count c.ask.new.pages) = rw (f.pages, f.count) told in
    let more2 : AsksOnly (λ _. 1) a0 a2 = asks-further (λ _. 1) a0 a1 a2 (c.ask.ensures.more told) (asks-nothing (λ _. 1) a1 a2 c.store_two.ensures.asked) in
    more2

pub returns-in_err-part_words-clause-damaged : goal.returns-in_err-part_words-clause-damaged
returns-in_err-part_words-clause-damaged g c = λ told damage.
    let p = g.P.Pages in
    let a0 : List ℕ = p.asked c.args.pages.now in
    let a1 : List ℕ = p.asked c.ask.new.pages in
    let a2 : List ℕ = p.asked c.store_two.new.pages in
    let f = c.ask.ensures.looks.frame in
    let told1 : AreReadable (p.pages c.ask.new.pages) (p.count c.ask.new.pages) = rw (f.pages, f.count) told in
    let more2 : AsksOnly (λ _. 1) a0 a2 = asks-further (λ _. 1) a0 a1 a2 (c.ask.ensures.more told) (asks-nothing (λ _. 1) a1 a2 c.store_two.ensures.asked) in
    let told2 : AreReadable (p.pages c.store_two.new.pages) (p.count c.store_two.new.pages) = c.in_ok-right.ensures.told told1 in
    let a3 : List ℕ = p.asked c.part_words.new.pages in
    let r = err_from_is_err_and c.from_residual-in_err-part_words.result c.from_residual-in_err-part_words.ensures.1 in
    λ e. (let same : c.in_err-part_words.field-0.0 ≡ Damaged damage = cc (r.1, r.2, e) in
    harm-later c.part_words.new.tree.rows (λ _. 1) (p.pages c.part_words.new.pages) (p.count c.part_words.new.pages) (p.first c.part_words.new.pages) a0 a2 a3 damage more2 (c.in_err-part_words.ensures.damaged told2 damage (ap Err same)))

pub returns-in_err-part_words-clause-more : goal.returns-in_err-part_words-clause-more
returns-in_err-part_words-clause-more g c = λ told.
    let p = g.P.Pages in
    let a0 : List ℕ = p.asked c.args.pages.now in
    let a1 : List ℕ = p.asked c.ask.new.pages in
    let a2 : List ℕ = p.asked c.store_two.new.pages in
    let f = c.ask.ensures.looks.frame in
    let told1 : AreReadable (p.pages c.ask.new.pages) (p.count c.ask.new.pages) = rw (f.pages, f.count) told in
    let more2 : AsksOnly (λ _. 1) a0 a2 = asks-further (λ _. 1) a0 a1 a2 (c.ask.ensures.more told) (asks-nothing (λ _. 1) a1 a2 c.store_two.ensures.asked) in
    let told2 : AreReadable (p.pages c.store_two.new.pages) (p.count c.store_two.new.pages) = c.in_ok-right.ensures.told told1 in
    let a3 : List ℕ = p.asked c.part_words.new.pages in
    asks-further (λ _. 1) a0 a2 a3 more2 (c.part_words.ensures.more told2)

pub returns-clause-told : goal.returns-clause-told
returns-clause-told g c = λ told.
    let p = g.P.Pages in
    let a0 : List ℕ = p.asked c.args.pages.now in
    let a1 : List ℕ = p.asked c.ask.new.pages in
    let a2 : List ℕ = p.asked c.store_two.new.pages in
    let f = c.ask.ensures.looks.frame in
    let told1 : AreReadable (p.pages c.ask.new.pages) (p.count c.ask.new.pages) = rw (f.pages, f.count) told in
    let more2 : AsksOnly (λ _. 1) a0 a2 = asks-further (λ _. 1) a0 a1 a2 (c.ask.ensures.more told) (asks-nothing (λ _. 1) a1 a2 c.store_two.ensures.asked) in
    let told2 : AreReadable (p.pages c.store_two.new.pages) (p.count c.store_two.new.pages) = c.in_ok-right.ensures.told told1 in
    let a3 : List ℕ = p.asked c.part_words.new.pages in
    c.in_ok-part_words.ensures.told told2

pub returns-clause-more : goal.returns-clause-more
returns-clause-more g c = λ told.
    let p = g.P.Pages in
    let a0 : List ℕ = p.asked c.args.pages.now in
    let a1 : List ℕ = p.asked c.ask.new.pages in
    let a2 : List ℕ = p.asked c.store_two.new.pages in
    let f = c.ask.ensures.looks.frame in
    let told1 : AreReadable (p.pages c.ask.new.pages) (p.count c.ask.new.pages) = rw (f.pages, f.count) told in
    let more2 : AsksOnly (λ _. 1) a0 a2 = asks-further (λ _. 1) a0 a1 a2 (c.ask.ensures.more told) (asks-nothing (λ _. 1) a1 a2 c.store_two.ensures.asked) in
    let told2 : AreReadable (p.pages c.store_two.new.pages) (p.count c.store_two.new.pages) = c.in_ok-right.ensures.told told1 in
    let a3 : List ℕ = p.asked c.part_words.new.pages in
    asks-further (λ _. 1) a0 a2 a3 more2 (c.part_words.ensures.more told2)
