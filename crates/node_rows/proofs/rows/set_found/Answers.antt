use Rattle.std.proofs.Common.{◌≡◌, ◌≢◌, ◌∙◌, ℕ, Option, true, false, refl, subst, sym}
use Rattle.std.specs.Prelude.{IfSome}
use Rattle.std.proofs.lemmas.Result.{on_ok_weaker}
use Rattle.btree_nodes.specs.Supply.{View, view}
use Rattle.paged_map.specs.declared.replacing.RowSpot.{RowSpot}
use Rattle.node_rows.proofs.Turned.{turned-put}
use Rattle.node_rows.proofs.rows.set_found.Goals as goal

pub returns-else-is_clear-clause-turns : goal.returns-else-is_clear-clause-turns
returns-else-is_clear-clause-turns g c = λ free rows.
    let before : View = view (g.P.Pages.pages c.args.pages.now) (g.P.Pages.count c.args.pages.now) (g.P.Pages.first c.args.pages.now) free in
    on_ok_weaker c.replace_row.result (λ h. turned-put before (g.P.Pages.pages c.replace_row.new.pages) (g.P.Pages.count c.replace_row.new.pages) (g.P.Pages.first c.replace_row.new.pages) c.args.tree.now.rows c.args.tree.now.rows
    c.args.node c.args.number c.args.row.now c.ranges.number.fits rows (sym c.is_clear.ensures ∙ c.if-is_clear.false) h)
    (c.replace_row.ensures.put free rows.kept)

pub returns-then-is_clear-clause-alone : goal.returns-then-is_clear-clause-alone
returns-then-is_clear-clause-alone g c = λ some. (let none : true ≡ false = sym c.if-is_clear.true ∙ c.is_clear.ensures ∙ some in absurd (cc))

pub returns-else-is_clear-clause-alone : goal.returns-else-is_clear-clause-alone
returns-else-is_clear-clause-alone g c = λ some.
    let P = g.P.Pages in
    subst (λ (o : Option RowSpot). IfSome o (λ found. (c.args.tree.now ≡ c.args.tree.now) × (P.asked c.replace_row.new.pages ≡ P.asked c.args.pages.now) × (P.count c.replace_row.new.pages ≡ P.count c.args.pages.now)
    × ((n : ℕ) → n ≢ found.page → P.pages c.replace_row.new.pages n ≡ P.pages c.args.pages.now n))) (sym c.in-Some.is) (refl, c.replace_row.ensures.asked, c.replace_row.ensures.count, c.replace_row.ensures.alone)

pub returns-in-None-clause-alone : goal.returns-in-None-clause-alone
returns-in-None-clause-alone g c = λ some. rw c.in-None.is tt
