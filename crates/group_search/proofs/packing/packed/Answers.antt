use Rattle.std.proofs.Common.{◌≡◌, ◌≤◌, ◌∙◌, IsPermutation, List, Vec, Global, sym, subst}
use Rattle.std.proofs.lemmas.Result.{IfOk-weaker}
use Rattle.std.specs.List.{AllByRecursion}
use Rattle.spatial_base.specs.Point.{Viewpoint, distance}
use Rattle.best_first.specs.Lists.{all_moved}
use Rattle.place_values.specs.declared.query.Pick.{Pick}
use Rattle.group_search.specs.declared.packing.Block.{Block}
use Rattle.group_search.specs.Blocks.{IsBlock, block_picks}
use Rattle.group_search.specs.Choices.{IsSame}
use Rattle.group_search.specs.Picks.{AreNear, AreMeasured}
use Rattle.group_search.proofs.Blocks.{same-moved}
use Rattle.group_search.proofs.packing.packed.Goals as goal

pub cut_to_blocks-requires-clause-near : goal.cut_to_blocks-requires-clause-near
cut_to_blocks-requires-clause-near c =
    let picks : List Pick = c.args.picks.now in
    let ordered : List Pick = c.sort_unstable_by_key.new.self.items in
    let moved : IsPermutation picks ordered = subst (λ (l : List Pick). IsPermutation l ordered) c.in_ok-ordered.ensures.items c.sort_unstable_by_key.ensures.permutation in
    subst AreNear (sym c.deref.ensures.value) (all_moved (λ (pick : Pick). pick.dist ≤ 2545584412) picks ordered moved c.requires)

pub returns-clause-same : goal.returns-clause-same
returns-clause-same c =
    let picks : List Pick = c.args.picks.now in
    let ordered : List Pick = c.sort_unstable_by_key.new.self.items in
    let moved : IsPermutation picks ordered = subst (λ (l : List Pick). IsPermutation l ordered) c.in_ok-ordered.ensures.items c.sort_unstable_by_key.ensures.permutation in
    IfOk-weaker c.cut_to_blocks.result (λ (b : Vec Block Global). block_picks b.items ≡ c.deref.result.now) (λ (b : Vec Block Global). IsSame picks (block_picks b.items))
    (λ b is. subst (IsSame picks) (sym (is ∙ c.deref.ensures.value)) (same-moved picks ordered moved)) c.cut_to_blocks.ensures.picks

pub returns-clause-blocks : goal.returns-clause-blocks
returns-clause-blocks c =
    let picks : List Pick = c.args.picks.now in
    let ordered : List Pick = c.sort_unstable_by_key.new.self.items in
    let moved : IsPermutation picks ordered = subst (λ (l : List Pick). IsPermutation l ordered) c.in_ok-ordered.ensures.items c.sort_unstable_by_key.ensures.permutation in
    IfOk-weaker c.cut_to_blocks.result (λ (b : Vec Block Global). (at : Viewpoint) → AreMeasured at c.deref.result.now → AllByRecursion (IsBlock at) b.items) (λ (b : Vec Block Global). (at : Viewpoint) → AreMeasured at picks → AllByRecursion (IsBlock at) b.items)
    (λ b h at measured. h at (subst (AreMeasured at) (sym c.deref.ensures.value) (all_moved (λ (pick : Pick). pick.dist ≡ distance at pick.point) picks ordered moved measured))) c.cut_to_blocks.ensures.blocks
