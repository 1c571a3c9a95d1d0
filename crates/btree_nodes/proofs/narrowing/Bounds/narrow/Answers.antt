use Rattle.std.proofs.Common.{◌≡◌, ◌∙◌, ap, ℕ, take}
use Rattle.btree_nodes.proofs.narrowing.Bounds.narrow.Goals as goal

pub returns-clause-to : goal.returns-clause-to
returns-clause-to c = λ key place h.
    let e : take c.set_high.new.self.top c.set_high.new.self.high ≡ c.upper.result.now = ap (λ (n : ℕ). take n c.set_high.new.self.high) c.set_high.ensures.top ∙ c.set_high.ensures.high in
    rw e (c.upper.ensures.to key place h)
