use Rattle.std.proofs.Common.{◌<◌, ◌^◌, ℕ, Some, ap, sym, ◌∙◌, rules}
use Rattle.page_face.specs.FreeList.{PageMap}
use Rattle.paged_map.specs.Lookups.{IsLookedUp}
use Rattle.paged_map.proofs.Lookups.{kept-none, kept-some}
use Rattle.store_tables.specs.Coded.{word_code}
use Rattle.store_tables.specs.Holding.{texts_form}
use Rattle.store_tables.proofs.LookupLemmas.{number-word, number_bytes-same, text-none, text-some, told-none, told-some}
use Rattle.store_tables.proofs.tables.Tables.number_of.Goals as goal

pub returns-in-None-clause-found : goal.returns-in-None-clause-found
returns-in-None-clause-found g c entries holds =
    let pages : PageMap = g.P.Pages.pages c.args.pages.now in
    let root : ℕ = c.args.self.now.texts in
    let none = told-none texts_form pages root _ (word_code c.args.word.now) _ _ (number-word c.bytes.result c.args.word.now c.bytes.ensures.form) c.in-None.is (c.in_ok-get_row.ensures.found holds.texts.tree) in
    sym (text-none pages root entries.texts c.args.word.now c.bytes.ensures.valid holds.texts none)

pub returns-in-None-clause-formed : goal.returns-in-None-clause-formed
returns-in-None-clause-formed g c tree =
    told-none texts_form (g.P.Pages.pages c.args.pages.now) c.args.self.now.texts _ (word_code c.args.word.now) _ _ (number-word c.bytes.result c.args.word.now c.bytes.ensures.form) c.in-None.is (c.in_ok-get_row.ensures.found tree)

pub returns-in-Some-clause-found : goal.returns-in-Some-clause-found
returns-in-Some-clause-found g c entries holds =
    let pages : PageMap = g.P.Pages.pages c.args.pages.now in
    let root : ℕ = c.args.self.now.texts in
    let some = told-some texts_form pages root _ (word_code c.args.word.now) _ _ c.in-Some.field-0 (number-word c.bytes.result c.args.word.now c.bytes.ensures.form) c.in-Some.is (c.in_ok-get_row.ensures.found holds.texts.tree) in
    let found = text-some pages root entries.texts c.args.word.now c.get_row.new.value c.bytes.ensures.valid holds.texts some.is in
    let fits : c.number_of_bytes.result < 2 ^ 64 = search rules in
    ap Some (number_bytes-same c.number_of_bytes.result found.v fits found.formed (c.number_of_bytes.ensures ∙ found.bytes_are)) ∙ sym found.is

pub returns-in-Some-clause-formed : goal.returns-in-Some-clause-formed
returns-in-Some-clause-formed g c tree =
    let some = told-some texts_form (g.P.Pages.pages c.args.pages.now) c.args.self.now.texts _ (word_code c.args.word.now) _ _ c.in-Some.field-0 (number-word c.bytes.result c.args.word.now c.bytes.ensures.form) c.in-Some.is (c.in_ok-get_row.ensures.found tree) in
    some.is ∙ ap Some (sym c.number_of_bytes.ensures)

pub returns-in-None-clause-kept : goal.returns-in-None-clause-kept
returns-in-None-clause-kept g c told =
    kept-none (IsLookedUp texts_form (g.P.Pages.pages c.args.pages.now) (g.P.Pages.count c.args.pages.now) c.args.self.now.texts) _ (word_code c.args.word.now) c.get_row.new.value _ (number-word c.bytes.result c.args.word.now c.bytes.ensures.form) c.in-None.is (c.in_ok-get_row.ensures.kept told)

pub returns-in-Some-clause-kept : goal.returns-in-Some-clause-kept
returns-in-Some-clause-kept g c told =
    kept-some (IsLookedUp texts_form (g.P.Pages.pages c.args.pages.now) (g.P.Pages.count c.args.pages.now) c.args.self.now.texts) _ (word_code c.args.word.now) c.get_row.new.value _ _ c.in-Some.field-0 (number-word c.bytes.result c.args.word.now c.bytes.ensures.form) c.in-Some.is (sym c.number_of_bytes.ensures) (c.in_ok-get_row.ensures.kept told)
