use Rattle.std.proofs.Common.{◌<◌, ℕ, sym, subst}
use Rattle.rtree_nodes.specs.Slots.{Slots, filled}
use Rattle.rtree_nodes.specs.Reach.{item_of}
use Rattle.rtree_nodes.specs.Pages.{slots_in}
use Rattle.irtree_insert.specs.Fits.{Fits}
use Rattle.irtree_insert.specs.Parts.{IsPutAt}
use Rattle.irtree_insert.proofs.Halves.{halves-room}
use Rattle.irtree_insert.proofs.part.part.Goals as goal
use Rattle.irtree_insert.proofs.part.part.Goals.{then-is_moved, else-is_moved}

pub returns-clause-parts : goal.returns-clause-parts
returns-clause-parts c = λ draft fits full is.
    let x = item_of c.args.slot.now in
    let s : Slots = slots_in c.args.draft.now.bytes in
    let same = c.low_bits-moves.ensures in
    let moved = c.split_off-other.ensures.moved draft in
    let kept = c.split_off-other.ensures.kept draft in
    let room = halves-room c.args.mask c.low_bits-moves.result same is s full in
    record {
      same = same;
      goes = sym c.is_set-is_moved.ensures;
      are = elim c.if-is_moved.branch [
        | then-is_moved w ↦
            let fits' = subst (λ (l : ℕ). Fits l c.args.slot.now) (sym c.split_off-other.ensures.its_level) fits in
            let few = subst (λ (u : Slots). filled u < 32) (sym moved) room.1 in
            let put = w.put_free-at.ensures.put (c.split_off-other.ensures.its_draft draft) fits' few in
            rw (w.if-is_moved.true, w.draft-is, w.other-is, w.at-is)
            (kept, subst (λ (u : Slots). IsPutAt u x w.put_free-at.result (slots_in w.put_free-at.new.self.bytes)) moved put)
        | else-is_moved w ↦
            let fits' = subst (λ (l : ℕ). Fits l c.args.slot.now) (sym c.split_off-other.ensures.level) fits in
            let few = subst (λ (u : Slots). filled u < 32) (sym kept) room.0 in
            let put = w.put_free-at-else-is_moved.ensures.put (c.split_off-other.ensures.draft draft) fits' few in
            rw (w.if-is_moved.false, w.draft-is, w.other-is, w.at-is)
            (subst (λ (u : Slots). IsPutAt u x w.put_free-at-else-is_moved.result (slots_in w.put_free-at-else-is_moved.new.self.bytes)) kept put, moved)
      ];
    }
