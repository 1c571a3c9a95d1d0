use Rattle.line_tokens.proofs.Said.{text_seen}
use Rattle.line_tokens.proofs.literal.text_in.Goals as goal

pub returns-in-Text : goal.returns-in-Text
returns-in-Text c = text_seen c.args.tree c.in-Text.says c.in-Text.is
