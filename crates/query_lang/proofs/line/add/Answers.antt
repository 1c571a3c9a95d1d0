use Rattle.std.proofs.Common.{sym}
use Rattle.line_tokens.specs.Seen.{seen}
use Rattle.query_lang.proofs.Lines.{add_sound}
use Rattle.query_lang.proofs.line.add.Goals as goal

pub returns-clause-sound : goal.returns-clause-sound
returns-clause-sound c = add_sound _ _ _ (seen c.in_ok-token.token) c.in_ok-key.key (sym c.in_ok-key.ensures)
