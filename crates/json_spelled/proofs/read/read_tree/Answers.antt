use Rattle.std.proofs.Common.{[]}
use Rattle.json_spelled.proofs.read.read_tree.Goals as goal

pub returns-clause-read : goal.returns-clause-read
returns-clause-read c = (c.end.ensures.told c.args.bytes.now (c.push-pushed.ensures.took [] c.new-feed.ensures.took)).read

pub returns-clause-only : goal.returns-clause-only
returns-clause-only c = (c.end.ensures.told c.args.bytes.now (c.push-pushed.ensures.took [] c.new-feed.ensures.took)).only

pub returns-clause-refused : goal.returns-clause-refused
returns-clause-refused c = (c.end.ensures.told c.args.bytes.now (c.push-pushed.ensures.took [] c.new-feed.ensures.took)).refused

pub returns-clause-no_offence : goal.returns-clause-no_offence
returns-clause-no_offence c = (c.end.ensures.told c.args.bytes.now (c.push-pushed.ensures.took [] c.new-feed.ensures.took)).no_offence
