use Rattle.irtree_top.proofs.Transcripts.{transcript-one}
use Rattle.irtree_top.proofs.top.transcript_is_one.Goals as goal

pub returns : goal.returns
returns c = transcript-one c.outcome_is_one.ensures
