use Rattle.std.proofs.Common.{arith, ◌≡◌, ◌+◌, ℕ, sym, ap, ◌∙◌, refl}
use Rattle.page_face.specs.FreeList.{PageMap}
use Rattle.btree_nodes.specs.Nodes.{entries_in}
use Rattle.btree_nodes.specs.Tree.{with_low}
use Rattle.btree_nodes.specs.Bounds.{child_of}
use Rattle.btree_nodes.proofs.Fans.{length-with_low}
use Rattle.btree_nodes.proofs.Spots.{length-entries_in}
use Rattle.btree_delete.proofs.Settles.{kept-becomes, fan-whole, pair-next, pair-before, near-next, near-before}
use Rattle.btree_delete.proofs.settling.settle.Goals as goal

pub returns-then-left-least_at-clause-becomes : goal.returns-then-left-least_at-clause-becomes
returns-then-left-least_at-clause-becomes g c = λ low high free inner is child-is beside-is left-count beside-count low-child supplied once.
    let old : PageMap = g.P.Pages.pages c.args.pages.now in
    kept-becomes c.args.form old (g.P.Pages.count c.args.pages.now) (g.P.Pages.first c.args.pages.now) (g.P.Pages.count c.args.pages.now) (g.P.Pages.first c.args.pages.now) c.args.below c.args.page low high c.args.found.count free c.args.bytes.now old refl refl refl
    inner is c.requires.count (fan-whole c.args.form old c.args.below low high c.args.found.at c.args.left (with_low low (entries_in c.args.form c.args.bytes.now)) low-child (let e = c.least_at.ensures.is in omega arith)) supplied

pub returns-then-beside-found-clause-becomes : goal.returns-then-beside-found-clause-becomes
returns-then-beside-found-clause-becomes g c = λ low high free inner is child-is beside-is left-count beside-count low-child supplied once.
    let old : PageMap = g.P.Pages.pages c.args.pages.now in
    let n : c.args.beside.now.at ≡ c.args.found.at + 1 = near-next c.args.found.at c.args.beside.now.at (omega arith) c.requires.near.1 in
    let l = length-with_low low (entries_in c.args.form c.args.bytes.now) ∙ length-entries_in c.args.form c.args.bytes.now in
    let m = c.requires.near.0 in
    c.in_ok-entries.ensures.becomes low high free inner child-is (beside-is ∙ ap (λ (k : ℕ). old (child_of c.args.form c.args.bytes.now k)) n) left-count beside-count (omega arith)
    (pair-next c.args.form old c.args.below low high c.args.found.at c.args.left (with_low low (entries_in c.args.form c.args.bytes.now)) low-child (omega arith)) supplied once

pub returns-clause-becomes : goal.returns-clause-becomes
returns-clause-becomes g c = λ low high free inner is child-is beside-is left-count beside-count low-child supplied once.
    let old : PageMap = g.P.Pages.pages c.args.pages.now in
    let n : c.args.beside.now.at + 1 ≡ c.args.found.at = near-before c.args.found.at c.args.beside.now.at (omega arith) c.requires.near.1 in
    c.in_ok-entries-2.ensures.becomes low high free inner beside-is (child-is ∙ ap (λ (k : ℕ). old (child_of c.args.form c.args.bytes.now k)) (sym n)) beside-count left-count (omega arith)
    (pair-before c.args.form old c.args.below low high c.args.found.at c.args.left (with_low low (entries_in c.args.form c.args.bytes.now)) low-child c.args.beside.now.at n) supplied once
