use Rattle.std.proofs.Common.{◌≡◌, sym, ◌∙◌, rules, tests}
use Rattle.std.specs.List.{list_all}
use Rattle.std.specs.Char.{is_ascii_digit}
use Rattle.std.proofs.lemmas.Iterator.{YieldsList-from_slice}
use Rattle.std.proofs.lemmas.Iterator.Search.{all_from_yields_List}
use Rattle.query_lang.proofs.Numbers.{digits_text, is_ok-ruled_out}
use Rattle.query_lang.proofs.number.digits.Goals as goal

pub returns-clause-test : goal.returns-clause-test
returns-clause-test c =
    let bytes = c.args.bytes.now in
    let all : c.all.result ≡ list_all is_ascii_digit bytes =
    all_from_yields_List {all = bytes} is_ascii_digit _ _ _ c.all.ensures.ran (YieldsList-from_slice bytes cc) (λ x b q k. search (rules, tests)) in
    let text = digits_text bytes c.all.result all c.if-not-all.false in
    c.ok.ensures.variant ∙ is_ok-ruled_out _ _ _ c.from_utf8.result c.from_utf8.ensures.cases text ∙ sym (sym all ∙ c.if-not-all.false)
