use Rattle.std.proofs.Common.{◌∙◌, ap, sym, slice_index}
use Rattle.node_rows.specs.Rows.{Bytes, bytes_in}
use Rattle.node_filter.specs.Numbers.{byte_of, by_number}
use Rattle.node_filter.proofs.Admissions.{marks-row}
use Rattle.node_filter.proofs.admitting.holding.Goals as goal

pub returns-in-Ok-clause-slots : goal.returns-in-Ok-clause-slots
returns-in-Ok-clause-slots g c = λ map.
    let b : Bytes = bytes_in (g.P.Pages.pages c.args.pages.now) c.args.tree.now.rows in
    let known = sym c.number.ensures ∙ c.in-Some.is in
    marks-row c.args.used c.above_zero.result (λ i. slice_index c.in-Ok.bytes i) (λ i. byte_of c.args.ids.now (b c.args.node) i c.args.word.now) c.above_zero.ensures
    (λ i. c.in-Ok.ensures.row map i ∙ sym (ap (by_number (λ n. b c.args.node n i)) known))
