use Rattle.std.proofs.Common.{◌≡◌, ◌∙◌, ◌++◌, ◌∷◌, [], ℕ, ◌<◌, ◌≤◌, ◌*◌, is_ok, Option, Some, None, List, length, sym, ap, inl, inr, refl}
use Rattle.place_values.specs.declared.query.Chosen.{Chosen}
use Rattle.group_sum.specs.Shared.{better_of}
use Rattle.group_sum.specs.Tables.{AreLow, cost_in}
use Rattle.group_sum.proofs.Origins.{kept-from}
use Rattle.group_sum.proofs.Tables.{better-kept, least-more, split-kept, place-kept, grown-low, grown-some}
use Rattle.group_sum.proofs.table.Table.keep.Goals as goal
use Rattle.group_sum.proofs.table.Table.keep.Goals.{in-Some+in_ok-picks, in_default}

pub invariant_of-self : goal.invariant_of-self
invariant_of-self c =
    let kept : List (Option Chosen) = c.args.self.now.kept.items in
    let few : c.args.self.now.count ≤ 8 = c.args.self.now.few in
    let some : 0 < length kept = c.args.self.now.begun in
    let low : AreLow kept = c.args.self.now.low in
    let at_most : cost_in c.match-hit.best ≤ 2545584412 * length kept =
    elim c.match-hit.branch [
      | in-Some+in_ok-picks w ↦ place-kept c.args.self.now.count kept c.args.split c.match-hit.best w.dist.result w.in_ok-picks.picks.items low some c.requires.split w.dist.ensures.far (w.best-is ∙ w.put_first.ensures)
      | in_default w ↦ split-kept c.args.self.now.count kept c.args.split c.match-hit.best low c.requires.split w.best-is
    ] in
    record {
      few = few;
      begun = grown-some (is_ok c.push.result) kept c.push.new.self.items c.match-hit.best some c.push.ensures.items;
      low = grown-low (is_ok c.push.result) kept c.push.new.self.items c.match-hit.best low at_most c.push.ensures.items;
    }

-- the best choice is the better of the split and the place
pub returns-clause-least : goal.returns-clause-least
returns-clause-least c =
    let kept : List (Option Chosen) = c.args.self.now.kept.items in
    let some : 0 < length kept = c.args.self.now.begun in
    let better : c.match-hit.best ≡ better_of c.args.at.now c.args.words.now c.args.split c.args.hit =
    elim c.match-hit.branch [
      | in-Some+in_ok-picks w ↦ better-kept c.args.at.now c.args.words.now c.args.split c.match-hit.best c.args.hit w.in-Some.hit w.dist.result w.in_ok-picks.picks.items w.in-Some.is w.dist.ensures.value w.in_ok-picks.ensures (w.best-is ∙ w.put_first.ensures)
      | in_default w ↦ w.best-is ∙ ap (better_of c.args.at.now c.args.words.now c.args.split) (sym w.in_default.is)
    ] in
    λ lists. least-more c.args.at.now c.args.words.now c.args.self.now.count lists kept c.push.new.self.items c.args.split c.match-hit.best c.args.hit some c.requires.room c.requires.split better c.in_ok-push.ensures.items

pub returns-clause-from : goal.returns-clause-from
returns-clause-from c =
    let better : c.match-hit.best ≡ better_of c.args.at.now c.args.words.now c.args.split c.args.hit =
    elim c.match-hit.branch [
      | in-Some+in_ok-picks w ↦ better-kept c.args.at.now c.args.words.now c.args.split c.match-hit.best c.args.hit w.in-Some.hit w.dist.result w.in_ok-picks.picks.items w.in-Some.is w.dist.ensures.value w.in_ok-picks.ensures (w.best-is ∙ w.put_first.ensures)
      | in_default w ↦ w.best-is ∙ ap (better_of c.args.at.now c.args.words.now c.args.split) (sym w.in_default.is)
    ] in
    kept-from c.args.at.now c.args.words.now c.args.self.now.count c.args.self.now.kept.items c.push.new.self.items c.args.split c.match-hit.best c.args.hit c.requires.split better c.in_ok-push.ensures.items
