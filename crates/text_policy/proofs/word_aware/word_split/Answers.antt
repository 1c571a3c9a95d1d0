use Rattle.text_policy.specs.Splits.{IsWordSplit}
use Rattle.text_policy.proofs.Once.{split-once}
use Rattle.text_policy.proofs.word_aware.word_split.Goals as goal

-- the mask that is returned is that of the split by words
is_split : (c : goal.After-divide) → IsWordSplit c.args.rects.now c.args.like.now c.divide.result
is_split c = record {
  i = c.beginners-pair.result.first;
  j = c.beginners-pair.result.second;
  beginners = c.beginners-pair.ensures;
  ends = c.divide.ensures.ends;
}

pub returns-clause-split : goal.returns-clause-split
returns-clause-split c = is_split c

pub returns-clause-only : goal.returns-clause-only
returns-clause-only c = λ mask other. split-once c.args.rects.now c.args.like.now c.divide.result mask (is_split c) other
