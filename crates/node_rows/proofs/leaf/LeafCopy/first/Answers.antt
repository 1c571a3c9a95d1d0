use Rattle.std.proofs.Common.{◌≡◌, ◌<◌, ◌≤◌, ◌^◌, ℕ, List, Some, None, arith, rules, sym, ap, ◌∙◌}
use Rattle.btree_nodes.specs.Nodes.{rows_in}
use Rattle.btree_nodes.specs.Rows.{Row, first_from}
use Rattle.rtree_nodes.specs.Stock.{rows_form}
use Rattle.node_rows.specs.Rows.{key_of}
use Rattle.node_rows.proofs.Bytes.{first-filled}
use Rattle.node_rows.proofs.Copies.{before-le, copy-away, copy-next, copy-none, copy-on, copy-past}
use Rattle.node_rows.proofs.leaf.LeafCopy.first.Goals as goal

pub returns-then-not-first_in-clause-next : goal.returns-then-not-first_in-clause-next
returns-then-not-first_in-clause-next c = λ b is on before.
    let from_in = c.ranges.from.fits in
    let h = is (before-le c.args.self.now.from c.args.from c.args.self.now.next on before) in
    let rows : List Row = rows_in rows_form c.args.self.now.page in
    let none : first_from (key_of c.args.node c.args.from) rows ≡ None = ap (λ (k : ℕ). first_from k rows) (sym c.bytes-key.ensures) ∙ c.if-not-first_in.ensures.first h.low h.high h.fits h.within in
    copy-none b c.args.node c.args.self.now c.args.from from_in h on none

pub returns-then-next-node-clause-next : goal.returns-then-next-node-clause-next
returns-then-next-node-clause-next c = λ b is on before.
    let from_in = c.ranges.from.fits in
    let h = is (before-le c.args.self.now.from c.args.from c.args.self.now.next on before) in
    let rows : List Row = rows_in rows_form c.args.self.now.page in
    let fits : c.of_bytes-next.result.number < 2 ^ 64 = search rules in
    let first : first_from (key_of c.args.node c.args.from) rows ≡ Some (key_of c.of_bytes-next.result.node c.of_bytes-next.result.number, c.first_in.new.row) =
    ap (λ (k : ℕ). first_from k rows) (sym c.bytes-key.ensures) ∙ c.if-not-first_in.ensures.first h.low h.high h.fits h.within ∙ ap (λ (k : ℕ). Some (k, c.first_in.new.row)) c.of_bytes-next.ensures in
    copy-away b c.args.node c.args.self.now c.args.from from_in h on c.of_bytes-next.result.node c.of_bytes-next.result.number c.first_in.new.row fits first c.if-next-node.true

pub returns-then-next-from-clause-next : goal.returns-then-next-from-clause-next
returns-then-next-from-clause-next c = λ b is on before.
    let from_in = c.ranges.from.fits in
    let h = is (before-le c.args.self.now.from c.args.from c.args.self.now.next on before) in
    let rows : List Row = rows_in rows_form c.args.self.now.page in
    let fits : c.of_bytes-next.result.number < 2 ^ 64 = search rules in
    let first : first_from (key_of c.args.node c.args.from) rows ≡ Some (key_of c.of_bytes-next.result.node c.of_bytes-next.result.number, c.first_in.new.row) =
    ap (λ (k : ℕ). first_from k rows) (sym c.bytes-key.ensures) ∙ c.if-not-first_in.ensures.first h.low h.high h.fits h.within ∙ ap (λ (k : ℕ). Some (k, c.first_in.new.row)) c.of_bytes-next.ensures in
    let ahead : c.args.from ≤ c.of_bytes-next.result.number =
    copy-on b c.args.node c.args.self.now c.args.from from_in h on c.of_bytes-next.result.node c.of_bytes-next.result.number c.first_in.new.row fits first c.if-next-node.false in
    let less : c.of_bytes-next.result.number < c.args.from = c.if-next-from.true in
    absurd (omega arith)

pub returns-then-not-is_before-clause-next : goal.returns-then-not-is_before-clause-next
returns-then-not-is_before-clause-next c = λ b is on before.
    let from_in = c.ranges.from.fits in
    let h = is (before-le c.args.self.now.from c.args.from c.args.self.now.next on before) in
    let rows : List Row = rows_in rows_form c.args.self.now.page in
    let fits : c.of_bytes-next.result.number < 2 ^ 64 = search rules in
    let first : first_from (key_of c.args.node c.args.from) rows ≡ Some (key_of c.of_bytes-next.result.node c.of_bytes-next.result.number, c.first_in.new.row) =
    ap (λ (k : ℕ). first_from k rows) (sym c.bytes-key.ensures) ∙ c.if-not-first_in.ensures.first h.low h.high h.fits h.within ∙ ap (λ (k : ℕ). Some (k, c.first_in.new.row)) c.of_bytes-next.ensures in
    copy-past b c.args.node c.args.self.now c.args.from from_in h on c.of_bytes-next.result.node c.of_bytes-next.result.number c.first_in.new.row fits first c.if-next-node.false (search rules)

pub returns-clause-next : goal.returns-clause-next
returns-clause-next c = λ b is on before.
    let from_in = c.ranges.from.fits in
    let h = is (before-le c.args.self.now.from c.args.from c.args.self.now.next on before) in
    let rows : List Row = rows_in rows_form c.args.self.now.page in
    let fits : c.of_bytes-next.result.number < 2 ^ 64 = search rules in
    let first : first_from (key_of c.args.node c.args.from) rows ≡ Some (key_of c.of_bytes-next.result.node c.of_bytes-next.result.number, c.first_in.new.row) =
    ap (λ (k : ℕ). first_from k rows) (sym c.bytes-key.ensures) ∙ c.if-not-first_in.ensures.first h.low h.high h.fits h.within ∙ ap (λ (k : ℕ). Some (k, c.first_in.new.row)) c.of_bytes-next.ensures in
    copy-next b c.args.node c.args.self.now c.args.from from_in h on c.of_bytes-next.result.node c.of_bytes-next.result.number c.first_in.new.row fits first c.if-next-node.false (search rules)

pub returns-clause-filled : goal.returns-clause-filled
returns-clause-filled c = λ b is filled on before.
    let within = before-le c.args.self.now.from c.args.from c.args.self.now.next on before in
    let h = is within in
    let rows : List Row = rows_in rows_form c.args.self.now.page in
    let first : first_from (key_of c.args.node c.args.from) rows ≡ Some (key_of c.of_bytes-next.result.node c.of_bytes-next.result.number, c.first_in.new.row) =
    ap (λ (k : ℕ). first_from k rows) (sym c.bytes-key.ensures) ∙ c.if-not-first_in.ensures.first h.low h.high h.fits h.within ∙ ap (λ (k : ℕ). Some (k, c.first_in.new.row)) c.of_bytes-next.ensures in
    first-filled h.low h.high (key_of c.args.node c.args.from) (key_of c.of_bytes-next.result.node c.of_bytes-next.result.number, c.first_in.new.row) rows h.within (filled within) first
