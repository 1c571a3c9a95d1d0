use Rattle.std.proofs.Common.{ℕ, ◌∙◌, ◌==◌, ◌&&◌, List, ap, sym}
use Rattle.std.proofs.lemmas.Nat.Bits.{bit_at_ones}
use Rattle.node_rows.specs.Rows.{bytes_in}
use Rattle.node_filter.specs.Masks.{has_slot}
use Rattle.node_filter.specs.Numbers.{byte_of}
use Rattle.node_filter.specs.Filters.{admits_by, admits}
use Rattle.best_first.specs.Asks.{filter_of}
use Rattle.best_first.proofs.marking.filtered.Goals as goal

pub returns-in_default-clause-slots : goal.returns-in_default-clause-slots
returns-in_default-clause-slots g c = λ map i l.
    let F : List ℕ → ℕ = byte_of c.args.ids.now (bytes_in (g.P.Pages.pages c.args.pages.now) c.args.tree.now.rows c.args.node) i in
    ap (λ n. has_slot n i) c.plain.ensures.slots ∙ ap (λ n. n == 1) (bit_at_ones 32 i l) ∙ sym (ap (λ o. admits_by c.args.level F (filter_of o)) c.in_default.is)

pub returns-in-Ok-clause-slots : goal.returns-in-Ok-clause-slots
returns-in-Ok-clause-slots g c = λ map i l.
    let F : List ℕ → ℕ = byte_of c.args.ids.now (bytes_in (g.P.Pages.pages c.args.pages.now) c.args.tree.now.rows c.args.node) i in
    ap (λ n. has_slot n i) c.plain-in-Ok.ensures.slots ∙ c.in-Ok.ensures.slots map i l
    ∙ ap (λ n. (n == 1) && admits c.args.level F c.in-Some.filter.now) (bit_at_ones 32 i l)
    ∙ sym (ap (λ o. admits_by c.args.level F (filter_of o)) c.in-Some.is)
