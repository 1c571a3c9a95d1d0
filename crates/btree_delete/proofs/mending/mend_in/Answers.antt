use Rattle.std.proofs.Common.{arith, ◌+◌, ◌-◌, ℕ, List, sym, ap, ◌∙◌}
use Rattle.page_face.specs.FreeList.{PageMap}
use Rattle.page_face.specs.Number.{number}
use Rattle.btree_nodes.specs.Build.{image}
use Rattle.btree_nodes.specs.declared.form.Shape.{Shape}
use Rattle.page_face.specs.Nodes.{count_of}
use Rattle.btree_nodes.specs.Tree.{next_key}
use Rattle.btree_delete.specs.Body.{without_cell, with_key, cells_in}
use Rattle.btree_delete.proofs.Joins.{few}
use Rattle.btree_delete.proofs.Relinks.{made-count, can-join, mended-merged, mended-shared}
use Rattle.btree_delete.proofs.mending.mend_in.Goals as goal

pub returns-then-merged-clause-counted : goal.returns-then-merged-clause-counted
returns-then-merged-clause-counted g c =
    let f = few (c.args.form.key + 4) c.args.count (omega arith) (omega arith) in
    let s = c.inner-shape.result in
    sym (ap (λ (x : List ℕ). count_of x) c.without.ensures ∙ made-count s.number s.kind s.level (c.args.count - 1) (without_cell s.width (c.args.at + 1) (cells_in s.width c.args.count c.args.bytes.now)) (omega arith))

pub returns-clause-counted : goal.returns-clause-counted
returns-clause-counted g c =
    let f = few (c.args.form.key + 4) c.args.count (omega arith) (omega arith) in
    let s = c.inner-shape.result in
    sym (ap (λ (x : List ℕ). count_of x) c.rekeyed.ensures ∙ made-count s.number s.kind s.level c.args.count (with_key s.width (c.args.at + 1) c.join.new.middle (cells_in s.width c.args.count c.args.bytes.now)) (omega arith))

pub returns-then-merged-clause-becomes : goal.returns-then-merged-clause-becomes
returns-then-merged-clause-becomes g c = λ low high free inner left-is right-is left-count right-count enough pair supplied once.
    let old : PageMap = g.P.Pages.pages c.args.pages.now in
    let size = inner.node.size in
    let form = c.args.form in
    let b : List ℕ = c.args.bytes.now in
    let can = can-join form old c.args.below low high c.args.count c.args.at b size c.requires.count c.requires.fits c.requires.at pair c.child_at-left.result c.child_at-right.result (number c.key_of-parting.result.now) (g.P.Pages.count c.args.pages.now) c.args.page free
    c.child_at-left.ensures c.child_at-right.ensures (ap number c.key_of-parting.ensures.is) once in
    let joined_now = c.in_ok-merged.ensures.becomes pair.left.0 (next_key high pair.ys) free (left-is ∙ ap old (sym c.child_at-left.ensures)) (right-is ∙ ap old (sym c.child_at-right.ensures)) left-count right-count can.first can.second enough supplied can.once in
    mended-merged form old c.args.below low high c.args.count c.args.at b size c.requires.count c.requires.fits c.requires.at pair
    (g.P.Pages.pages c.join.new.pages) (g.P.Pages.pages c.write.new.self) (g.P.Pages.count c.args.pages.now) (g.P.Pages.first c.args.pages.now) (g.P.Pages.count c.join.new.pages) (g.P.Pages.first c.join.new.pages) (g.P.Pages.count c.write.new.self) (g.P.Pages.first c.write.new.self)
    c.args.page free c.without.result c.in_ok-merged.merged (number c.join.new.middle) c.if-merged.true
    (can.then_joined (g.P.Pages.first c.args.pages.now) (g.P.Pages.pages c.join.new.pages) (g.P.Pages.count c.join.new.pages) (g.P.Pages.first c.join.new.pages) (number c.join.new.middle) c.in_ok-merged.merged joined_now)
    once c.in_ok-write.ensures.written
    (c.without.ensures ∙ ap (λ (s : Shape). image s.number s.kind s.level (c.args.count - 1) (without_cell s.width (c.args.at + 1) (cells_in s.width c.args.count b))) c.inner-shape.ensures)
    c.in_ok-write.ensures.count c.in_ok-write.ensures.first inner.first

pub returns-clause-becomes : goal.returns-clause-becomes
returns-clause-becomes g c = λ low high free inner left-is right-is left-count right-count enough pair supplied once.
    let old : PageMap = g.P.Pages.pages c.args.pages.now in
    let size = inner.node.size in
    let form = c.args.form in
    let b : List ℕ = c.args.bytes.now in
    let can = can-join form old c.args.below low high c.args.count c.args.at b size c.requires.count c.requires.fits c.requires.at pair c.child_at-left.result c.child_at-right.result (number c.key_of-parting.result.now) (g.P.Pages.count c.args.pages.now) c.args.page free
    c.child_at-left.ensures c.child_at-right.ensures (ap number c.key_of-parting.ensures.is) once in
    let joined_now = c.in_ok-merged.ensures.becomes pair.left.0 (next_key high pair.ys) free (left-is ∙ ap old (sym c.child_at-left.ensures)) (right-is ∙ ap old (sym c.child_at-right.ensures)) left-count right-count can.first can.second enough supplied can.once in
    mended-shared form old c.args.below low high c.args.count c.args.at b size c.requires.count c.requires.fits c.requires.at pair
    (g.P.Pages.pages c.join.new.pages) (g.P.Pages.pages c.write-2.new.self) (g.P.Pages.count c.args.pages.now) (g.P.Pages.first c.args.pages.now) (g.P.Pages.count c.join.new.pages) (g.P.Pages.first c.join.new.pages) (g.P.Pages.count c.write-2.new.self) (g.P.Pages.first c.write-2.new.self)
    c.args.page free c.rekeyed.result c.join.new.middle c.in_ok-merged.merged c.if-merged.false (c.join.auto.middle ∙ c.requires.middle)
    (can.then_joined (g.P.Pages.first c.args.pages.now) (g.P.Pages.pages c.join.new.pages) (g.P.Pages.count c.join.new.pages) (g.P.Pages.first c.join.new.pages) (number c.join.new.middle) c.in_ok-merged.merged joined_now)
    once c.in_ok-write-2.ensures.written
    (c.rekeyed.ensures ∙ ap (λ (s : Shape). image s.number s.kind s.level c.args.count (with_key s.width (c.args.at + 1) c.join.new.middle (cells_in s.width c.args.count b))) c.inner-shape.ensures)
    c.in_ok-write-2.ensures.count c.in_ok-write-2.ensures.first inner.first
