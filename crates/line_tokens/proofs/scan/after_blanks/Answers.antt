use Rattle.line_tokens.proofs.Cuts.{blank_cut}
use Rattle.line_tokens.proofs.scan.after_blanks.Goals as goal

pub split_at-requires : goal.split_at-requires
split_at-requires c = rw (c.blank_len.ensures, c.as_bytes.ensures.value) (blank_cut c.args.text.now c.utf8.text)
