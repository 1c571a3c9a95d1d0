use Rattle.std.proofs.Common.{◌≡◌, ◌∙◌, ◌^◌, ℕ, List, sym, ap, subst, Err}
use Rattle.page_face.specs.FreeList.{PageMap}
use Rattle.btree_nodes.proofs.Walks.{same-fault}
use Rattle.page_walks.proofs.Misuses.{same-damage}
use Rattle.node_rows.specs.Impacts.{impact_in}
use Rattle.node_rows.specs.Words.{AreWords}
use Rattle.tree_check.specs.Columns.{words_in}
use Rattle.tree_check.proofs.Columns.{words-ordered}
use Rattle.tree_check.proofs.Rights.{slot-right, slot-wrong, slot-missing}
use Rattle.tree_check.proofs.agreeing.check_slot.Goals as goal

pub are_right-requires : goal.are_right-requires
are_right-requires g c =
    let list : c.deref.result.now ≡ words_in c.args.at c.args.rows.now = c.deref.ensures.value ∙ c.in-Ok-words_at.ensures.words in
    subst (AreWords 0 (2 ^ 64)) (sym list) (words-ordered c.args.at 0 (2 ^ 64) c.args.rows.now c.requires.ordered)

pub returns-in-Ok-true-clause-right : goal.returns-in-Ok-true-clause-right
returns-in-Ok-true-clause-right g c = λ entries sound form said.
    let pages : PageMap = g.P.Pages.pages c.args.pages.now in
    let list : c.deref.result.now ≡ words_in c.args.at c.args.rows.now = c.deref.ensures.value ∙ c.in-Ok-words_at.ensures.words in
    slot-right pages c.args.tree.now.rows entries.places c.args.page c.args.bytes.now c.args.at c.in-Ok.slot c.deref.result.now
    c.in-Ok.ensures.kind (c.in-Ok.ensures.item form) (λ w. ap (λ (ps : List (ℕ × ℕ)). impact_in ps w) list ∙ said w c.args.at)
    (c.in-Ok-true.ensures.right entries sound c.in-Ok-true.field-0-test)

pub returns-in-Ok-false-clause-damaged : goal.returns-in-Ok-false-clause-damaged
returns-in-Ok-false-clause-damaged g c = λ entries sound form said damage e.
    let pages : PageMap = g.P.Pages.pages c.args.pages.now in
    let list : c.deref.result.now ≡ words_in c.args.at c.args.rows.now = c.deref.ensures.value ∙ c.in-Ok-words_at.ensures.words in
    slot-wrong pages c.args.tree.now.rows entries.places c.args.page c.args.bytes.now c.args.at c.in-Ok.slot c.deref.result.now damage
    (sym (same-damage _ _ (sym c.damaged-in-Ok-false.ensures ∙ same-fault _ _ e))) c.in-Ok.ensures.kind (c.in-Ok.ensures.item form)
    (λ w. ap (λ (ps : List (ℕ × ℕ)). impact_in ps w) list ∙ said w c.args.at)
    (c.in-Ok-false.ensures.held entries sound) (c.in-Ok-false.ensures.wrong entries sound c.in-Ok-false.field-0-test)

pub returns-in-Err-are_right-clause-damaged : goal.returns-in-Err-are_right-clause-damaged
returns-in-Err-are_right-clause-damaged g c = λ entries sound form said damage e.
    let pages : PageMap = g.P.Pages.pages c.args.pages.now in
    slot-missing pages c.args.tree.now.rows entries.places c.args.page c.args.bytes.now c.args.at c.in-Ok.slot damage c.in-Ok.ensures.kind (c.in-Ok.ensures.item form)
    (c.in-Err-are_right.ensures.damaged entries sound damage (ap Err (same-fault _ _ e)))
