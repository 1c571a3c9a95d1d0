use Rattle.json_spelled.specs.Reader.{state_of}
use Rattle.json_spelled.proofs.Feeds.{takes_text, refuses_text}
use Rattle.json_spelled.proofs.feed.Feed.take_text.Goals as goal

pub returns-in-Err-clause-refused : goal.returns-in-Err-clause-refused
returns-in-Err-clause-refused c = λ bytes r.
    let feed = c.args.self.now in
    refuses_text bytes feed.pending.items c.args.text.now feed.at (state_of feed.reader) c.in-Err.fault c.requires.none r c.utf8.text c.in-Err.ensures.stops

pub returns-clause-reading : goal.returns-clause-reading
returns-clause-reading c = λ bytes r.
    let feed = c.args.self.now in
    takes_text bytes feed.pending.items c.args.text.now feed.at (state_of feed.reader) (state_of c.take_text.new.self) c.requires.none r c.utf8.text c.in_default.ensures.reads
