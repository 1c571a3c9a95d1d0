use Rattle.std.proofs.Common.{refl, sym, ◌∙◌}
use Rattle.disk_model.proofs.Moments.{reads_same, started}
use Rattle.irtree_engine.proofs.Openings.{pages-stand, settling-leaves}
use Rattle.irtree_engine.proofs.engine.Engine+D.settle.Goals as goal

pub returns-then-self-clause-any_moment : goal.returns-then-self-clause-any_moment
returns-then-self-clause-any_moment g c = λ t state holds. started _

pub returns-in-Ok-clause-holds : goal.returns-in-Ok-clause-holds
returns-in-Ok-clause-holds g c = λ t state holds.
    let on = sym c.args.self.now.stops ∙ c.if-self.false in
    let still = c.in-Ok.ensures.goes_on (λ e. absurd (cc)) ∙ on in
    pages-stand _ _ state ((c.settle.new.self.ready t still).ready.journal, sym (c.in-Ok.ensures.same t)) holds

pub returns-in-Ok-clause-any_moment : goal.returns-in-Ok-clause-any_moment
returns-in-Ok-clause-any_moment g c = λ t state holds. settling-leaves _ _ state holds (c.settle.ensures.any_moment t (sym c.args.self.now.stops ∙ c.if-self.false))

pub returns-in-Err-clause-any_moment : goal.returns-in-Err-clause-any_moment
returns-in-Err-clause-any_moment g c = λ t state holds. settling-leaves _ _ state holds (c.settle.ensures.any_moment t (sym c.args.self.now.stops ∙ c.if-self.false))

pub returns-then-self-clause-reads : goal.returns-then-self-clause-reads
returns-then-self-clause-reads g c = λ t. reads_same refl

pub returns-in-Ok-clause-reads : goal.returns-in-Ok-clause-reads
returns-in-Ok-clause-reads g c = λ t. (c.settle.ensures.quiet t).reads

pub returns-in-Err-clause-reads : goal.returns-in-Err-clause-reads
returns-in-Err-clause-reads g c = λ t. (c.settle.ensures.quiet t).reads
