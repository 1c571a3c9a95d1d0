use Rattle.std.proofs.Common.{ℕ, List, get_or, subst}
use Rattle.json_spelled.specs.Machine.{step}
use Rattle.json_spelled.specs.Reader.{Goes, state_of, Fails}
use Rattle.json_spelled.proofs.Runs.{byte_leads, byte_stops, byte_boundary}
use Rattle.json_spelled.proofs.reader.Reader.take_at.Goals as goal

pub returns-in-Err-clause-stops : goal.returns-in-Err-clause-stops
returns-in-Err-clause-stops c =
    let old = state_of c.args.self.now in
    byte_stops c.args.text.now c.args.index old c.in-Err.fault c.requires.more c.utf8.text
    (subst (λ (x : List ℕ). Fails (λ levels. step levels old (get_or x c.args.index 0)) c.in-Err.fault) c.as_bytes.ensures.value c.in-Err.ensures)

pub returns-clause-leads : goal.returns-clause-leads
returns-clause-leads c =
    let old = state_of c.args.self.now in
    let new = state_of c.step.new.self in
    byte_leads c.args.text.now c.args.index old new c.requires.more c.utf8.text
    (subst (λ (x : List ℕ). Goes (λ levels. step levels old (get_or x c.args.index 0)) new) c.as_bytes.ensures.value c.in_default.ensures)

pub returns-clause-boundary : goal.returns-clause-boundary
returns-clause-boundary c =
    let old = state_of c.args.self.now in
    let new = state_of c.step.new.self in
    byte_boundary c.args.text.now c.args.index c.args.self.now c.step.new.self c.utf8.text c.requires.more c.requires.small
    (subst (λ (x : List ℕ). Goes (λ levels. step levels old (get_or x c.args.index 0)) new) c.as_bytes.ensures.value c.in_default.ensures)
