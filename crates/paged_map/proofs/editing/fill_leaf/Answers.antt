use Rattle.std.proofs.Common.{arith, ◌≡◌, ◌+◌, ◌-◌, ℕ, List, ◌∙◌, ap}
use Rattle.paged_map.specs.Edits.{edited}
use Rattle.paged_map.proofs.Edits.{filled, length-edited}
use Rattle.paged_map.proofs.editing.fill_leaf.Goals as goal

pub returns : goal.returns
returns c =
    let cells : List ℕ = edited c.args.cut.size c.args.cut.from c.args.cut.until c.args.first.now c.args.second.now c.args.old.now in
    let long = length-edited c.args.cut.size c.args.cut.from c.args.cut.until c.args.first.now c.args.second.now c.args.old.now (omega arith) (omega arith) (omega arith) in
    let size : 16 + c.args.cut.size - 16 ≡ c.args.cut.size = omega arith in
    filled c.args.form.map c.args.count _ c.to_be_bytes.result c.args.out.now cells c.write_at.new.out c.splice.new.out c.to_be_bytes.ensures c.requires.zeros c.write_at.ensures.all
    (c.splice.ensures ∙ ap (λ (n : ℕ). edited n c.args.cut.from c.args.cut.until c.args.first.now c.args.second.now c.args.old.now) size) (omega arith)
