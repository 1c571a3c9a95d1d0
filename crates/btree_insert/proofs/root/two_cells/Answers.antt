use Rattle.std.proofs.Common.{arith, ◌≡◌, take, replicate, length, refl, ◌+◌, ◌++◌, subst, List, ℕ}
use Rattle.std.specs.Int.{to_be_bytes, w32}
use Rattle.std.proofs.lemmas.List.{take-replicate}
use Rattle.btree_insert.proofs.Roots.{two-joined}
use Rattle.btree_insert.proofs.root.two_cells.Goals as goal

pub returns : goal.returns
returns c =
    two-joined (take c.args.form.key (replicate 255 0)) (to_be_bytes w32 c.args.left) c.args.middle.now (to_be_bytes w32 c.args.right) c.write_at.new.out c.write_at-2.new.out c.write_at-3.new.out c.write_at-4.new.out c.args.form.key
    (take-replicate c.args.form.key 255 0 (omega arith)) c.requires.middle refl refl (omega arith) c.write_at.ensures.front
    (subst (λ (x : List ℕ). take (c.args.form.key + length x) c.write_at-2.new.out ≡ take c.args.form.key c.write_at.new.out ++ x) c.to_be_bytes.ensures c.write_at-2.ensures.front)
    c.write_at-3.ensures.front
    (subst (λ (x : List ℕ). take (c.args.form.key + 4 + c.args.form.key + length x) c.write_at-4.new.out ≡ take (c.args.form.key + 4 + c.args.form.key) c.write_at-3.new.out ++ x) c.to_be_bytes-2.ensures c.write_at-4.ensures.front)
