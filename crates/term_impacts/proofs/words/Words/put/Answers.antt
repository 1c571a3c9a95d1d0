use Rattle.std.proofs.Common.{◌<◌, rules, sym, ap, subst, ◌∙◌, length, arith}
use Rattle.std.proofs.lemmas.List.Sorted.{answers_always}
use Rattle.std.specs.BTreeMap.{insert_entry}
use Rattle.term_impacts.specs.Pairs.{IsWordMap}
use Rattle.term_impacts.proofs.PairsLemmas.{word_cmp, put_found, put_missed, IsWordMap-insert_entry}
use Rattle.term_impacts.proofs.words.Words.put.Goals as goal

pub invariant_of-self : goal.invariant_of-self
invariant_of-self c =
    let found = c.in-Ok.ensures.position (λ p. p.0) (answers_always _ _ _ (λ f a r f' call. search rules)) in
    let put = put_found _ _ _ _ c.args.impact _ c.deref.ensures.value c.in-Ok.ensures.bound c.self.invariant.ascending found c.index_mut.ensures.value in
    let room = subst (λ ps. length ps < 64) (sym c.self.view_is) c.requires.room in
    subst IsWordMap (sym put) (IsWordMap-insert_entry _ c.args.word c.args.impact c.self.invariant room c.requires.impact (omega arith))

pub returns-in-Ok : goal.returns-in-Ok
returns-in-Ok c =
    let found = c.in-Ok.ensures.position (λ p. p.0) (answers_always _ _ _ (λ f a r f' call. search rules)) in
    put_found _ _ _ _ c.args.impact _ c.deref.ensures.value c.in-Ok.ensures.bound c.self.invariant.ascending found c.index_mut.ensures.value
    ∙ ap (λ ps. insert_entry word_cmp ps c.args.word c.args.impact) c.self.view_is

pub invariant_of-self-2 : goal.invariant_of-self-2
invariant_of-self-2 c =
    let missed = c.in-Err.ensures.position (λ p. p.0) (answers_always _ _ _ (λ f a r f' call. search rules)) in
    let put = put_missed _ _ _ c.args.word c.args.impact c.deref.ensures.value c.in-Err.ensures.bound c.self.invariant.ascending missed in
    let room = subst (λ ps. length ps < 64) (sym c.self.view_is) c.requires.room in
    subst IsWordMap (sym (c.in_ok-insert.ensures.items ∙ put))
    (IsWordMap-insert_entry _ c.args.word c.args.impact c.self.invariant room c.requires.impact (omega arith))

pub returns : goal.returns
returns c =
    let missed = c.in-Err.ensures.position (λ p. p.0) (answers_always _ _ _ (λ f a r f' call. search rules)) in
    c.in_ok-insert.ensures.items
    ∙ put_missed _ _ _ c.args.word c.args.impact c.deref.ensures.value c.in-Err.ensures.bound c.self.invariant.ascending missed
    ∙ ap (λ ps. insert_entry word_cmp ps c.args.word c.args.impact) c.self.view_is
