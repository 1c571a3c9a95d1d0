use Rattle.std.proofs.Common.{◌≡◌, ◌<◌, arith, rules}
use Rattle.page_face.specs.Nodes.{count_of}
use Rattle.btree_nodes.specs.Nodes.{rows_in}
use Rattle.row_codec.specs.Counted.{IsCounted, counted_value}
use Rattle.store_tables.specs.Coded.{IsU64, number_code}
use Rattle.store_tables.specs.Holding.{numbers_form}
use Rattle.store_verify.proofs.Steps.{bad-row, gains-all, gains-good, gains-row}
use Rattle.store_verify.proofs.numbers.NumberSinkSink.leaf.Goals as goal

pub returns-in-None-clause-breaks : goal.returns-in-None-clause-breaks
returns-in-None-clause-breaks c rule e =
    let inside : c.loop-at.at < count_of c.args.page.now = omega (arith, c.loop-at-test.true, c.requires.count) in
    (cc e, bad-row number_code counted_value IsU64 IsCounted numbers_form c.args.page.now c.loop-at.at inside (λ entry is row. (let no = c.in-None.ensures.every entry is row in cc no)))

pub loop-at-preserved : goal.loop-at-preserved
loop-at-preserved c =
    let inside : c.loop-at.at < count_of c.args.page.now = omega (arith, c.loop-at-test.true, c.requires.count) in
    let row = c.in-Some.ensures.form in
    gains-row number_code counted_value IsU64 IsCounted numbers_form c.args.page.now c.loop-at.at c.args.self.now.rows.items c.loop-at.self.rows.items c.push.new.self.items
    c.in-Some.row inside c.loop-at.invariant row.0 row.1 (search rules)

pub returns-clause-takes : goal.returns-clause-takes
returns-clause-takes c =
    let all : c.loop-at.at ≡ count_of c.args.page.now = omega (arith, c.loop-at.auto.at-end, c.loop-at-test.false, c.requires.count) in
    gains-all number_code counted_value IsU64 IsCounted numbers_form c.args.page.now c.loop-at.at c.args.self.now.rows.items c.loop-at.self.rows.items all c.loop-at.invariant

pub returns-clause-good : goal.returns-clause-good
returns-clause-good c =
    let all : c.loop-at.at ≡ count_of c.args.page.now = omega (arith, c.loop-at.auto.at-end, c.loop-at-test.false, c.requires.count) in
    gains-good number_code counted_value IsU64 IsCounted numbers_form c.args.page.now (rows_in numbers_form c.args.page.now) c.args.self.now.rows.items c.loop-at.self.rows.items
    (gains-all number_code counted_value IsU64 IsCounted numbers_form c.args.page.now c.loop-at.at c.args.self.now.rows.items c.loop-at.self.rows.items all c.loop-at.invariant)
