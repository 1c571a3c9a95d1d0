use Rattle.std.proofs.Common.{length, ap, sym, ◌∙◌, arith, length-drop}
use Rattle.line_tokens.specs.Token.{quoted_at}
use Rattle.line_tokens.proofs.Cuts.{mark_cut}
use Rattle.line_tokens.proofs.Said.{decoded_found, no_literal}
use Rattle.line_tokens.proofs.scan.quoted.Goals as goal

pub split_at-requires : goal.split_at-requires
split_at-requires c =
    let text = c.args.text.now in
    let content = c.as_bytes.ensures.value ∙ c.behind_first-content.ensures in
    let mark = rw content at c.in-Some-literal_len.ensures.mark in
    mark_cut text c.in-Some-literal_len.len c.utf8.text c.in-Some-literal_len.ensures.within.0 (omega (arith, c.in-Some-literal_len.ensures.within.1, c.requires.some, length-drop 1 text, ap length content)) mark

pub returns-in_ok-says-in-Some-literal_len : goal.returns-in_ok-says-in-Some-literal_len
returns-in_ok-says-in-Some-literal_len c =
    let text = c.args.text.now in
    let len = c.in-Some-literal_len.len in
    let content = c.as_bytes.ensures.value ∙ c.behind_first-content.ensures in
    let ends = rw content at c.in-Some-literal_len.ensures.rest in
    let found = decoded_found text _ c.split_at.result.1.now _ len c.requires.some c.requires.mark (omega (arith, c.in-Some-literal_len.ensures.within.1, ap length content)) ends
    c.split_at.ensures.front c.split_at.ensures.back c.in_ok-says-in-Some-literal_len.ensures in
    ap quoted_at (sym found)

pub returns-in-None : goal.returns-in-None
returns-in-None c =
    let content = c.as_bytes.ensures.value ∙ c.behind_first-content.ensures in
    let none = rw content at c.in-None.ensures.rest in
    ap quoted_at (sym (no_literal _ none))
