use Rattle.std.proofs.Common.{arith, ◌+◌, ◌-◌, ℕ, List, sym, ap, ◌∙◌}
use Rattle.page_face.specs.Number.{number}
use Rattle.btree_nodes.specs.Build.{image}
use Rattle.btree_nodes.specs.declared.form.Shape.{Shape}
use Rattle.btree_nodes.proofs.Tolds.{told_given}
use Rattle.page_face.specs.Nodes.{count_of}
use Rattle.btree_delete.specs.Body.{without_cell, cells_in}
use Rattle.btree_nodes.proofs.Gives.{page-some}
use Rattle.btree_delete.proofs.Joins.{few, width-some}
use Rattle.btree_delete.proofs.Relinks.{made-count}
use Rattle.btree_delete.proofs.Outs.{emptied, written-out}
use Rattle.btree_delete.proofs.leaf.take_out.Goals as goal

pub returns-then-count-eq1-clause-out : goal.returns-then-count-eq1-clause-out
returns-then-count-eq1-clause-out g c = λ low high free is place same within from to supplied once.
    let b = c.in_ok-give_back.ensures in
    let p = page-some (g.P.Pages.count c.args.pages.now) c.args.page c.requires.page in
    emptied c.args.form c.args.bytes.now low high (number c.args.key.now) c.args.at place same within from to (omega arith) (g.P.Pages.pages c.args.pages.now) (g.P.Pages.pages c.give_back.new.self)
    (g.P.Pages.count c.args.pages.now) (g.P.Pages.first c.args.pages.now) (g.P.Pages.count c.give_back.new.self) (g.P.Pages.first c.give_back.new.self) c.args.page free c.args.bytes.now (omega arith) supplied once p.0 p.1
    b.freed.0 b.freed.1 b.others b.count b.freed.2

pub returns-clause-less : goal.returns-clause-less
returns-clause-less g c =
    let ws = width-some c.args.form 0 in
    let f = few (c.args.form.key + c.args.form.value) c.args.count (omega arith) (omega arith) in
    let s = c.leaf.result in
    (omega arith, λ _. sym (ap (λ (x : List ℕ). count_of x) c.without.ensures ∙ made-count s.number s.kind s.level (c.args.count - 1) (without_cell s.width c.args.at (cells_in s.width c.args.count c.args.bytes.now)) (omega arith)))

pub returns-clause-out : goal.returns-clause-out
returns-clause-out g c = λ low high free is place same within from to supplied once.
    let b = c.in_ok-write.ensures in
    written-out c.args.form c.args.bytes.now low high (number c.args.key.now) c.args.at place same within from to (omega arith) (g.P.Pages.pages c.args.pages.now) (g.P.Pages.pages c.write.new.self)
    (g.P.Pages.count c.args.pages.now) (g.P.Pages.first c.args.pages.now) (g.P.Pages.count c.write.new.self) (g.P.Pages.first c.write.new.self) c.args.page c.args.count free c.without.result c.requires.count (omega arith) c.requires.fits (omega arith)
    b.written
    (c.without.ensures ∙ ap (λ (s : Shape). image s.number s.kind s.level (c.args.count - 1) (without_cell s.width c.args.at (cells_in s.width c.args.count c.args.bytes.now))) c.leaf.ensures)
    supplied once b.count b.first

pub returns-then-count-eq1-clause-told : goal.returns-then-count-eq1-clause-told
returns-then-count-eq1-clause-told g c = λ told.
    let b = c.in_ok-give_back.ensures in
    told_given (g.P.Pages.pages c.args.pages.now) (g.P.Pages.pages c.give_back.new.self) c.args.page (g.P.Pages.count c.args.pages.now) (g.P.Pages.count c.give_back.new.self) b.freed.0 b.others b.count told
