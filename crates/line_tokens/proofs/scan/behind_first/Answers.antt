use Rattle.line_tokens.proofs.Cuts.{first_cut}
use Rattle.line_tokens.proofs.scan.behind_first.Goals as goal

pub split_at-requires : goal.split_at-requires
split_at-requires c = first_cut c.args.text.now c.utf8.text c.requires.some c.requires.ascii
