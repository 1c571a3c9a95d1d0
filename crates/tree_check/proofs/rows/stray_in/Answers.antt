use Rattle.std.proofs.Common.{◌<◌, ◌≡◌, arith, refl}
use Rattle.page_face.specs.Nodes.{count_of}
use Rattle.page_walks.specs.Met.{held}
use Rattle.tree_check.proofs.Named.{named-more, named-whole, stray-row}
use Rattle.tree_check.proofs.rows.stray_in.Goals as goal

pub returns-then-not-is_named : goal.returns-then-not-is_named
returns-then-not-is_named c =
    let inside : c.loop-at.at < count_of c.args.page.now = omega (arith, c.loop-at-test.true, c.requires.count) in
    stray-row c.args.page.now c.loop-at.at (held c.args.nodes.now) c.row_at-row.result inside c.row_at-row.ensures c.in_bounds.ensures (c.if-not-is_named.ensures.unnamed refl)

pub loop-at-preserved : goal.loop-at-preserved
loop-at-preserved c =
    let inside : c.loop-at.at < count_of c.args.page.now = omega (arith, c.loop-at-test.true, c.requires.count) in
    let sure = c.if-not-is_named.ensures.named refl in
    record {
      last = sure.0;
      named = named-more c.args.page.now c.loop-at.at (held c.args.nodes.now) c.row_at-row.result inside c.row_at-row.ensures c.in_bounds.ensures sure.0 sure.1 c.loop-at.invariant.named;
    }

pub returns : goal.returns
returns c =
    let all : c.loop-at.at ≡ count_of c.args.page.now = omega (arith, c.loop-at.auto.at-end, c.loop-at-test.false, c.requires.count) in
    named-whole c.args.page.now c.loop-at.at (held c.args.nodes.now) all c.loop-at.invariant.named
