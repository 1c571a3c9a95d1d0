use Rattle.std.proofs.Common.{[], ◌∷◌, get_or}
use Rattle.json_spelled.proofs.Feeds.{refused_front, first_byte}
use Rattle.json_spelled.proofs.feed.Feed.take_some.Goals as goal

pub returns-in-Err-clause-refused : goal.returns-in-Err-clause-refused
returns-in-Err-clause-refused c = λ bytes r.
    refused_front bytes c.whole_characters-text.result.now c.args.rest.now c.in-Err.fault c.whole_characters-text.ensures.front (c.in-Err.ensures.refused bytes r)

pub returns-in-Err-take_byte-clause-refused : goal.returns-in-Err-take_byte-clause-refused
returns-in-Err-take_byte-clause-refused c = λ bytes r.
    refused_front bytes (get_or c.args.rest.now 0 0 ∷ []) c.args.rest.now c.in-Err-take_byte.fault (first_byte c.args.rest.now c.requires.some) (c.in-Err-take_byte.ensures.refused bytes r)
