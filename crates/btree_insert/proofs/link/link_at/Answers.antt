use Rattle.std.proofs.Common.{arith, ◌≡◌, ◌+◌, ◌*◌, ℕ, ◌∙◌, ap, take, drop, length, List, subst}
use Rattle.page_face.specs.Number.{number}
use Rattle.btree_nodes.specs.Tree.{with_low}
use Rattle.btree_nodes.specs.Nodes.{entries_of}
use Rattle.btree_insert.proofs.Links.{linked-cells, linked-first}
use Rattle.btree_insert.proofs.Readings.{StoreClaim}
use Rattle.btree_insert.proofs.link.link_at.Goals as goal

pub returns-clause-grown : goal.returns-clause-grown
returns-clause-grown g c = λ low high free es enough is first.
    let w : ℕ = c.args.form.key + 4 in
    let old : List ℕ = c.body.result.now in
    let long : length old ≡ w * c.args.found.count = c.body.ensures.length in
    let lent : old ≡ take (w * c.args.found.count) (drop 16 (g.P.Pages.looked c.args.pages.now)) = c.body.ensures.is ∙ ap (λ (b : List ℕ). take (w * c.args.found.count) (drop 16 b)) c.looked.ensures in
    let is' = ap (entries_of c.args.form c.args.found.count) lent ∙ is in
    let first' = ap (λ (x : List ℕ). number (take c.args.form.key x)) lent ∙ first in
    let made = c.splice.ensures in
    let zero_key = ap (λ (x : List ℕ). number (take c.args.form.key x)) made ∙ linked-first c.args.form old _ c.args.found.count c.args.found.at long c.requires.at first' in
    let entries = ap (λ (x : List ℕ). with_low low (entries_of c.args.form (c.args.found.count + 1) x)) made
    ∙ linked-cells c.args.form old c.args.middle.now c.to_be_bytes.result low c.args.found.count c.args.found.at c.args.right es long c.requires.middle c.to_be_bytes.ensures (omega arith) c.requires.at is' in
    subst (StoreClaim c.args.form c.args.least (g.P.Pages.pages c.args.pages.now) (g.P.Pages.count c.args.pages.now) (g.P.Pages.first c.args.pages.now) free c.args.below c.args.page low high
    (g.P.Pages.pages c.store_inner.new.pages) (g.P.Pages.count c.store_inner.new.pages) (g.P.Pages.first c.store_inner.new.pages) (number c.store_inner.new.middle) c.store_inner.result)
    entries (c.store_inner.ensures.grown low high free enough zero_key)
