use Rattle.page_journal.proofs.Steps.{in_install, in_closing, placed, checkpoint_applied, ready_closed}
use Rattle.page_journal.proofs.checkpointing.checkpoint.Goals as goal

pub returns-in_err-install-clause-any_moment : goal.returns-in_err-install-clause-any_moment
returns-in_err-install-clause-any_moment g c = λ t.
    in_install _ _ _ (c.requires.journal t) (c.requires.images t) (c.install.ensures.keeps t)

pub returns-in_err-set_gate-clause-any_moment : goal.returns-in_err-set_gate-clause-any_moment
returns-in_err-set_gate-clause-any_moment g c = λ t.
    in_closing _ _ _ (c.requires.journal t) (c.requires.images t) (c.in_ok-install.ensures.keeps t) (c.requires.some t) (c.in_ok-install.ensures.done t) _ (c.set_gate.ensures.keeps t)

pub returns-clause-any_moment : goal.returns-clause-any_moment
returns-clause-any_moment g c = λ t.
    in_closing _ _ _ (c.requires.journal t) (c.requires.images t) (c.in_ok-install.ensures.keeps t) (c.requires.some t) (c.in_ok-install.ensures.done t) _ (c.set_gate.ensures.keeps t)

pub returns-clause-in_place : goal.returns-clause-in_place
returns-clause-in_place g c = λ t.
    placed _ _ _ (c.requires.journal t) (c.requires.images t) (c.in_ok-install.ensures.keeps t) (c.requires.some t) (c.in_ok-install.ensures.done t) _ (c.set_gate.ensures.keeps t)

pub returns-clause-applied : goal.returns-clause-applied
returns-clause-applied g c = λ t.
    checkpoint_applied _ _ _ (c.requires.journal t) (c.requires.images t) (c.in_ok-install.ensures.keeps t) (c.requires.some t) (c.in_ok-install.ensures.done t) _ (c.set_gate.ensures.keeps t) (c.in_ok-set_gate.ensures.done t)

pub returns-clause-ready : goal.returns-clause-ready
returns-clause-ready g c = λ t.
    ready_closed _ (c.in_ok-set_gate.ensures.safe t) (c.in_ok-set_gate.ensures.done t)
