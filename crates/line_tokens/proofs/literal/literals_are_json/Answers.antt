use Rattle.line_tokens.proofs.Said.{literal_quoted, quoted_literal}
use Rattle.line_tokens.proofs.literal.literals_are_json.Goals as goal

pub returns-clause-read : goal.returns-clause-read
returns-clause-read c = literal_quoted

pub returns-clause-only : goal.returns-clause-only
returns-clause-only c = quoted_literal
