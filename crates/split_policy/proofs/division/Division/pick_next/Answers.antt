use Rattle.std.proofs.Common.{arith, ap, ◌∙◌}
use Rattle.split_policy.specs.Quadratic.{preference_of}
use Rattle.split_policy.proofs.Areas.{read-rect}
use Rattle.split_policy.proofs.Best.{greatest-first}
use Rattle.split_policy.proofs.Bits.{first-among}
use Rattle.split_policy.proofs.division.Division.pick_next.Goals as goal

pub listed : goal.listed
listed c = let first = first-among c.args.self.now.left c.requires.some c.requires.divided.left in let within = first.0.0 in omega arith

pub bounds-rects-first : goal.bounds-rects-first
bounds-rects-first c = (first-among c.args.self.now.left c.requires.some c.requires.divided.left).0.0

pub loop-entry-init : goal.loop-entry-init
loop-entry-init c =
    let first = first-among c.args.self.now.left c.requires.some c.requires.divided.left in
    let read = read-rect c.args.rects.now _ 33 c.index-rects-first.result c.told-rects first.0.0 in
    record {
      greatest = c.preference-greatest.ensures ∙ ap (preference_of c.args.self.now) read;
      best = greatest-first _ _ _ first.0 first.1;
    }
