use Rattle.std.proofs.Common.{arith, ℕ, List}
use Rattle.btree_insert.proofs.Links.{body-entries, body-first}
use Rattle.btree_insert.proofs.link.link.Goals as goal

pub returns-clause-grown : goal.returns-clause-grown
returns-clause-grown g c = λ low high free inner.
    let n : ℕ = c.args.found.count in
    let size = inner.node.size in
    let looked : List ℕ = g.P.Pages.looked c.args.pages.now in
    c.link_at.ensures.grown low high free _ (let f = inner.node.fill in let e = c.requires.count in omega arith)
    (body-entries c.args.form looked n c.requires.count (omega arith)) (body-first c.args.form looked n (omega arith) inner.first)
