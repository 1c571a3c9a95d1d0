use Rattle.json_spelled.proofs.Bytes.{kind_small}
use Rattle.json_spelled.proofs.reader.Reader.begin.Goals as goal

pub returns-in-OpenList : goal.returns-in-OpenList
returns-in-OpenList c = rw c.in-OpenList.is c.open_at.ensures

pub returns-in-OpenObject : goal.returns-in-OpenObject
returns-in-OpenObject c = rw c.in-OpenObject.is c.open_at-in-OpenObject.ensures

pub begin_number-requires : goal.begin_number-requires
begin_number-requires c = kind_small c.args.byte c.args.kind c.requires (λ e. absurd (cc (e, c.in-Minus.is)))

pub begin_number-requires-in-Zero : goal.begin_number-requires-in-Zero
begin_number-requires-in-Zero c = kind_small c.args.byte c.args.kind c.requires (λ e. absurd (cc (e, c.in-Zero.is)))

pub begin_number-requires-in-Digit : goal.begin_number-requires-in-Digit
begin_number-requires-in-Digit c = kind_small c.args.byte c.args.kind c.requires (λ e. absurd (cc (e, c.in-Digit.is)))
