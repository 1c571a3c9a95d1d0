use Rattle.std.proofs.Common.{◌≤◌, length, arith}
use Rattle.std.proofs.lemmas.Str.{IsCharBoundary-start}
use Rattle.json_spelled.specs.Reader.{state_of}
use Rattle.json_spelled.proofs.Runs.{leads_none, leads_on, leads_all, stops_on}
use Rattle.json_spelled.proofs.reader.Reader.take_text.Goals as goal

pub loop-index-init : goal.loop-index-init
loop-index-init c = record {
  within = omega arith;
  reads = leads_none c.args.text.now (state_of c.args.self.now);
  boundary = λ open'. IsCharBoundary-start c.args.text.now c.utf8.text;
}

pub loop-index-preserved : goal.loop-index-preserved
loop-index-preserved c = record {
  within = c.in-Ok.ensures.next.1;
  reads = leads_on c.args.text.now c.loop-index.index c.in-Ok.next (state_of c.args.self.now) (state_of c.loop-index.self) (state_of c.advance.new.self) c.loop-index.invariant.reads c.in-Ok.ensures.leads;
  boundary = c.in-Ok.ensures.boundary;
}

pub returns-in-Err-clause-stops : goal.returns-in-Err-clause-stops
returns-in-Err-clause-stops c = rw c.refusal.ensures
    (stops_on c.args.text.now c.loop-index.index c.args.at (state_of c.args.self.now) (state_of c.loop-index.self) c.in-Err.fault c.loop-index.invariant.reads c.in-Err.ensures.stops)

pub returns-clause-reads : goal.returns-clause-reads
returns-clause-reads c =
    let all : length c.args.text.now ≤ c.loop-index.index = omega arith in
    leads_all c.args.text.now c.loop-index.index (state_of c.args.self.now) (state_of c.loop-index.self) all c.loop-index.invariant.reads
