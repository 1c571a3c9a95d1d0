use Rattle.std.proofs.Common.{◌≡◌, ◌<◌, ◌^◌, ℕ, arith, rules, length, sym, subst}
use Rattle.std.proofs.lemmas.Bool.Decides.{nat_tests}
use Rattle.node_rows.specs.Rows.{key_of}
use Rattle.node_rows.proofs.Bytes.{node-later}
use Rattle.node_rows.proofs.Copies.{key-below, key-below_all, upper-bytes, upper-empty, word-below}
use Rattle.node_rows.proofs.leaf.word_at.Goals as goal

pub returns-then-is_empty-clause-below : goal.returns-then-is_empty-clause-below
returns-then-is_empty-clause-below c = λ from w small under few all.
    let none : length c.args.high.now ≡ 0 = grind (arith, nat_tests) in
    subst (λ (k : ℕ). key_of c.args.node w < k) (sym (upper-empty c.args.high.now none)) (key-below_all c.args.node w c.ranges.node.fits few)

pub returns-then-bound-node-clause-start : goal.returns-then-bound-node-clause-start
returns-then-bound-node-clause-start c = λ from under.
    let some : 0 < length c.args.high.now = grind (arith, nat_tests) in
    let same : c.copy_from_slice.new.self ≡ c.args.high.now = search rules in
    let is = upper-bytes c.args.high.now c.copy_from_slice.new.self (key_of c.of_bytes-bound.result.node c.of_bytes-bound.result.number) some same c.of_bytes-bound.ensures in
    word-below c.args.node c.of_bytes-bound.result.node from c.of_bytes-bound.result.number c.if-bound-node.true (subst (λ (k : ℕ). key_of c.args.node from < k) is under)

pub returns-then-bound-node-clause-below : goal.returns-then-bound-node-clause-below
returns-then-bound-node-clause-below c = λ from w small under few before.
    let some : 0 < length c.args.high.now = grind (arith, nat_tests) in
    let same : c.copy_from_slice.new.self ≡ c.args.high.now = search rules in
    let is = upper-bytes c.args.high.now c.copy_from_slice.new.self (key_of c.of_bytes-bound.result.node c.of_bytes-bound.result.number) some same c.of_bytes-bound.ensures in
    subst (λ (k : ℕ). key_of c.args.node w < k) (sym is) (key-below c.args.node c.of_bytes-bound.result.node w c.of_bytes-bound.result.number c.if-bound-node.true before)

pub returns-else-bound-node-clause-below : goal.returns-else-bound-node-clause-below
returns-else-bound-node-clause-below c = λ from w small under few all.
    let some : 0 < length c.args.high.now = grind (arith, nat_tests) in
    let same : c.copy_from_slice.new.self ≡ c.args.high.now = search rules in
    let fits : c.of_bytes-bound.result.number < 2 ^ 64 = search rules in
    let key : ℕ = key_of c.of_bytes-bound.result.node c.of_bytes-bound.result.number in
    let is = upper-bytes c.args.high.now c.copy_from_slice.new.self key some same c.of_bytes-bound.ensures in
    let past : key_of c.args.node from < key = subst (λ (k : ℕ). key_of c.args.node from < k) is under in
    subst (λ (k : ℕ). key_of c.args.node w < k) (sym is) (node-later c.args.node c.of_bytes-bound.result.node from w c.of_bytes-bound.result.number few fits c.if-bound-node.false (omega arith) small)
