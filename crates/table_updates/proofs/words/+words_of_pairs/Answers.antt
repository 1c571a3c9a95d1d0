use Rattle.std.proofs.Common.{◌≡◌, ◌∷◌, ℕ, All, IsErrOf, None, inl, inr, rules, sym, subst}
use Rattle.std.proofs.lemmas.Result.{err_from_is_err_and}
use Rattle.std.proofs.lemmas.List.Elements.{All-head}
use Rattle.page_face.specs.FreeList.{PageMap}
use Rattle.page_face.specs.declared.fault.PageFault.TheVariants.{Damaged}
use Rattle.page_face.proofs.Frames.{reads_then}
use Rattle.btree_nodes.specs.Damages.{AreReadable}
use Rattle.btree_nodes.proofs.Harms.{asks-further}
use Rattle.btree_nodes.specs.Tree.{map_uses}
use Rattle.row_codec.specs.Pairs.{HasImpact}
use Rattle.store_tables.specs.Broken.{IsRowSought}
use Rattle.store_tables.specs.Holding.{numbers_form}
use Rattle.table_updates.proofs.Known.{known-rest, number-later, same-number, without-row, words-behind, words-here}
use Rattle.table_updates.proofs.Shown.{same-word, words-one}
use Rattle.table_updates.proofs.words.+words_of_pairs.Goals as goal

-- src/words.rt:108:21
pub returns-in_err-words-clause-no_false_damage : goal.returns-in_err-words-clause-no_false_damage
returns-in_err-words-clause-no_false_damage g t c = λ entries holds known told counted damage is.
    let passed = err_from_is_err_and c.from_residual.result c.from_residual.ensures.1 in
    let fault_is = passed.1 in
    let same = passed.2 in
    let was = c.in_err-words.was in
    let named : IsErrOf c.words_of_pairs.result (Damaged damage) = cc in
    c.words_of_pairs.ensures.no_false_damage entries holds (known-rest entries.numbers c.args.pairs.now c.in-Some.rest.now (c.in-Some.number, c.in-Some.impact) (search rules) known) told counted damage named

-- src/words.rt:113:22
pub returns-in_err-words-clause-damaged : goal.returns-in_err-words-clause-damaged
returns-in_err-words-clause-damaged g t c = λ told damage is.
    let passed = err_from_is_err_and c.from_residual.result c.from_residual.ensures.1 in
    let fault_is = passed.1 in
    let same = passed.2 in
    let was = c.in_err-words.was in
    let named : IsErrOf c.words_of_pairs.result (Damaged damage) = cc in
    words-behind _ _ c.args.tables.now c.args.pairs.now c.in-Some.rest.now (c.in-Some.number, c.in-Some.impact) _ _ damage (search rules) (c.words_of_pairs.ensures.damaged told damage named)

-- src/words.rt:114:22
pub returns-in_err-word-clause-damaged : goal.returns-in_err-word-clause-damaged
returns-in_err-word-clause-damaged g t c = λ told damage is.
    let passed = err_from_is_err_and c.from_residual-in_err-word.result c.from_residual-in_err-word.ensures.1 in
    let fault_is = passed.1 in
    let same = passed.2 in
    let was = c.in_err-word.was in
    let named : IsErrOf c.word_of.result (Damaged damage) = cc in
    let rest = c.words_of_pairs.ensures in
    let still : AreReadable (g.P.Pages.pages c.words_of_pairs.new.pages) (g.P.Pages.count c.words_of_pairs.new.pages) = rw rest.frame.pages (rw rest.frame.count told) in
    words-here _ _ c.args.tables.now c.args.pairs.now c.in-Some.rest.now c.in-Some.field-0-0.now _ _ damage (search rules)
    (inl (number-later (map_uses numbers_form (g.P.Pages.pages c.args.pages.now) c.args.tables.now.numbers) _ _ _ c.in-Some.field-0-0.now.0 _ _ _ damage (rest.own told)
    (same-number _ _ _ _ _ c.in-Some.field-0-0.now.0 _ _ damage rest.frame.pages rest.frame.count (c.word_of.ensures.damaged still damage named))))

-- src/words.rt:94:22
pub returns-in_err-word-clause-own : goal.returns-in_err-word-clause-own
returns-in_err-word-clause-own g t c told =
    let rest = c.words_of_pairs.ensures in
    let still : AreReadable (g.P.Pages.pages c.words_of_pairs.new.pages) (g.P.Pages.count c.words_of_pairs.new.pages) = rw rest.frame.pages (rw rest.frame.count told) in
    asks-further (map_uses numbers_form (g.P.Pages.pages c.args.pages.now) c.args.tables.now.numbers) _ _ _ (rest.own told) (rw (sym rest.frame.pages) (c.word_of.ensures.own still))

-- src/words.rt:95:9
pub returns-in_default-2-clause-own : goal.returns-in_default-2-clause-own
returns-in_default-2-clause-own g t c told =
    let rest = c.words_of_pairs.ensures in
    let still : AreReadable (g.P.Pages.pages c.words_of_pairs.new.pages) (g.P.Pages.count c.words_of_pairs.new.pages) = rw rest.frame.pages (rw rest.frame.count told) in
    asks-further (map_uses numbers_form (g.P.Pages.pages c.args.pages.now) c.args.tables.now.numbers) _ _ _ (rest.own told) (rw (sym rest.frame.pages) (c.word_of.ensures.own still))

-- src/words.rt:97:5
pub returns-in_err-put_word-clause-own : goal.returns-in_err-put_word-clause-own
returns-in_err-put_word-clause-own g t c told =
    let rest = c.words_of_pairs.ensures in
    let still : AreReadable (g.P.Pages.pages c.words_of_pairs.new.pages) (g.P.Pages.count c.words_of_pairs.new.pages) = rw rest.frame.pages (rw rest.frame.count told) in
    asks-further (map_uses numbers_form (g.P.Pages.pages c.args.pages.now) c.args.tables.now.numbers) _ _ _ (rest.own told) (rw (sym rest.frame.pages) (c.word_of.ensures.own still))

-- src/words.rt:66:1
pub returns-clause-own : goal.returns-clause-own
returns-clause-own g t c told =
    let rest = c.words_of_pairs.ensures in
    let still : AreReadable (g.P.Pages.pages c.words_of_pairs.new.pages) (g.P.Pages.count c.words_of_pairs.new.pages) = rw rest.frame.pages (rw rest.frame.count told) in
    asks-further (map_uses numbers_form (g.P.Pages.pages c.args.pages.now) c.args.tables.now.numbers) _ _ _ (rest.own told) (rw (sym rest.frame.pages) (c.word_of.ensures.own still))

-- src/words.rt:97:5
pub returns-in_err-put_word-clause-frame : goal.returns-in_err-put_word-clause-frame
returns-in_err-put_word-clause-frame g t c = reads_then g.P.Pages g.met.P.Pages.goes_further g.met.P.Pages.reads_further _ _ _ c.words_of_pairs.ensures.frame c.word_of.ensures.frame

-- src/words.rt:66:1
pub returns-clause-frame : goal.returns-clause-frame
returns-clause-frame g t c = reads_then g.P.Pages g.met.P.Pages.goes_further g.met.P.Pages.reads_further _ _ _ c.words_of_pairs.ensures.frame c.word_of.ensures.frame

-- src/words.rt:95:9
pub returns-in_default-2-clause-damaged : goal.returns-in_default-2-clause-damaged
returns-in_default-2-clause-damaged g t c = λ told damage is.
    let rest = c.words_of_pairs.ensures in
    let none = without-row (g.P.Pages.pages c.words_of_pairs.new.pages) c.args.tables.now c.in-Some.field-0-0.now.0 _ c.in_ok-word.ensures.formed c.in_default-2.is in
    words-here _ _ c.args.tables.now c.args.pairs.now c.in-Some.rest.now c.in-Some.field-0-0.now _ _ damage (search rules)
    (inr (cc, subst (λ (pages : PageMap). IsRowSought pages c.args.tables.now c.in-Some.field-0-0.now.0 None) rest.frame.pages none))

pub returns-clause-kept : goal.returns-clause-kept
returns-clause-kept g t c told =
    let rest = c.words_of_pairs.ensures in
    let root : ℕ = c.args.tables.now.numbers in
    let still : AreReadable (g.P.Pages.pages c.words_of_pairs.new.pages) (g.P.Pages.count c.words_of_pairs.new.pages) = rw rest.frame.pages (rw rest.frame.count told) in
    words-one (g.P.Pages.pages c.args.pages.now) (g.P.Pages.count c.args.pages.now) root c.args.pairs.now c.in-Some.rest.now c.in-Some.field-0-0.now _ _ c.in-Some-2.word _ (search rules) (c.in_ok-words.ensures.kept told)
    (same-word _ _ _ _ root c.in-Some.field-0-0.now.0 _ rest.frame.pages rest.frame.count (c.in_ok-word.ensures.kept still)) c.in-Some-2.is c.in_ok-put_word.ensures.put

pub put_word-requires-clause-impact : goal.put_word-requires-clause-impact
put_word-requires-clause-impact g t c =
    let is : c.args.pairs.now ≡ c.in-Some.field-0-0.now ∷ c.in-Some.rest.now = search rules in
    All-head HasImpact c.in-Some.field-0-0.now c.in-Some.rest.now (subst (All HasImpact) is c.requires.impacts)
