use Rattle.irtree_top.proofs.Transcripts.{transcript-some}
use Rattle.irtree_top.proofs.top.transcript_is_some.Goals as goal

pub returns : goal.returns
returns c = transcript-some c.outcome_is_some.ensures
