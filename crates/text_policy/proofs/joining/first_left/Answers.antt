use Rattle.split_policy.proofs.Bits.{first-among}
use Rattle.text_policy.proofs.Joins.{first-is}
use Rattle.text_policy.proofs.joining.first_left.Goals as goal

pub returns : goal.returns
returns c = first-is _ _ (first-among c.args.division.now.left c.requires.some c.requires.divided.left)
