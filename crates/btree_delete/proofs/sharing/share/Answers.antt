use Rattle.std.proofs.Common.{arith, ◌*◌, ◌/◌, ℕ, ◌∙◌, ap, take, drop}
use Rattle.std.proofs.lemmas.List.{take_rest}
use Rattle.btree_nodes.specs.Nodes.{width_of}
use Rattle.btree_delete.proofs.Joins.{merged-becomes, merged-as, halved-as, back-length, width-some, few}
use Rattle.btree_delete.proofs.sharing.share.Goals as goal

pub returns-then-cells-le4096-clause-becomes : goal.returns-then-cells-le4096-clause-becomes
returns-then-cells-le4096-clause-becomes g c = λ low high free body enough supplied once.
    let s = c.shape_at-shape.ensures in
    let v : ℕ = width_of c.args.form c.args.level in
    let ws = width-some c.args.form c.args.level in
    let f = few v c.args.count (omega arith) (omega arith) in
    let m = merged-as c.args.form _ _ _ _ c.args.level c.args.left c.args.right c.args.count _ _ _ c.args.cells.now s.number s.kind s.level
    (c.in_ok-merge.ensures.merged free supplied (λ n. let o = once n in omega arith)) in
    merged-becomes c.args.form _ _ _ _ c.args.level c.args.left c.args.right low high c.args.count c.args.cells.now (λ k h. m.moves.others k h) body once m
    (omega arith) enough (omega arith) c.requires.cells (omega arith)

pub halve-requires-clause-back : goal.halve-requires-clause-back
halve-requires-clause-back g c =
    back-length (width_of c.args.form c.args.level) _ c.args.count c.clear_first.new.cells c.shape_at-shape.ensures.width (c.clear_first.auto.cells ∙ c.requires.cells) c.requires.fits

pub returns-clause-becomes : goal.returns-clause-becomes
returns-clause-becomes g c = λ low high free body enough supplied once.
    let s = c.shape_at-shape.ensures in
    let w : ℕ = c.shape_at-shape.result.width in
    let v : ℕ = width_of c.args.form c.args.level in
    halved-as c.args.form _ (g.P.Pages.pages c.halve.new.pages) _ _ c.args.level c.args.left c.args.right low high c.args.count _ _ _ w c.args.cells.now _ _ c.copy_key.new.out s.number s.kind s.level s.width
    (c.in_ok-halve.ensures.halved free supplied (λ n. let o = once n in omega arith))
    c.clear_first.ensures.front (take_rest c.clear_first.new.cells (w * (c.args.count / 2)) ∙ c.clear_first.ensures.back)
    (c.copy_key.ensures ∙ ap (λ (k : ℕ). take k (drop (w * (c.args.count / 2)) c.args.cells.now)) c.requires.middle)
    c.requires.some (omega (arith, c.requires.cells)) c.requires.fits c.requires.cells body once
