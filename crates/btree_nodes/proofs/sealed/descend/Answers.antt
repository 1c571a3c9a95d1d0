use Rattle.std.proofs.Common.{arith, ◌≡◌}
use Rattle.page_face.specs.Number.{number}
use Rattle.page_face.specs.Nodes.{count_of}
use Rattle.btree_nodes.proofs.sealed.descend.Goals as goal

pub returns-clause-steps : goal.returns-clause-steps
returns-clause-steps c = record {
  at = c.place_in-at.result;
  within = let e : c.args.count ≡ count_of c.args.page.now = c.requires.count in let w = c.place_in-at.ensures.within in omega arith;
  place = c.place_in-at.ensures.place;
  is = c.child_at.ensures;
  from = c.narrow.ensures.low;
  to = c.narrow.ensures.high;
  over = c.narrow.ensures.from (number c.args.key.now) c.place_in-at.ensures.place;
  under = c.narrow.ensures.to (number c.args.key.now) c.place_in-at.ensures.place;
}
