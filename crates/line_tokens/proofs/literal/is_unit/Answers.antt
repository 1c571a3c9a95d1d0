use Rattle.std.proofs.Common.{arith}
use Rattle.line_tokens.proofs.Literals.{behind_unit, behind_short}
use Rattle.line_tokens.proofs.literal.is_unit.Goals as goal

pub returns-in_default-clause-rest : goal.returns-in_default-clause-rest
returns-in_default-clause-rest c = behind_short c.args.bytes.now (omega arith)

pub returns-in-len4-up-clause-rest : goal.returns-in-len4-up-clause-rest
returns-in-len4-up-clause-rest c =
    rw (c.is_hex.ensures, c.is_hex-in-len4-up.ensures, c.is_hex-in-len4-up-2.ensures, c.is_hex-in-len4-up-3.ensures) (behind_unit c.args.bytes.now (omega arith))
