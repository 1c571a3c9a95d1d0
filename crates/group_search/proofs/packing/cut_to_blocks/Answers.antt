use Rattle.std.proofs.Common.{◌≡◌, ◌≤◌, ◌++◌, ◌∷◌, [], ◌∙◌, List, append_assoc, ap, sym, subst}
use Rattle.std.specs.List.{AllByRecursion}
use Rattle.spatial_base.specs.Point.{distance}
use Rattle.best_first.specs.Lists.{all_append, all_parts}
use Rattle.place_values.specs.declared.query.Pick.{Pick}
use Rattle.group_search.specs.declared.packing.Block.{Block}
use Rattle.group_search.specs.Blocks.{IsBlock, block_picks}
use Rattle.group_search.specs.Picks.{AreNear, AreMeasured}
use Rattle.group_search.proofs.Blocks.{block-pushed}
use Rattle.group_search.proofs.packing.cut_to_blocks.Goals as goal

pub loop-first-preserved : goal.loop-first-preserved
loop-first-preserved c =
    let h = c.loop-first.invariant in
    let blocks : List Block = c.loop-first.blocks.items in
    let block : Block = c.in_ok-block.block in
    let rest : List Pick = c.loop-first.rest.now in
    let front : List Pick = c.split_at.result.0.now in
    let others : List Pick = c.split_at.result.1.now in
    let whole : rest ≡ front ++ others = c.split_at.ensures.by_index.0 in
    let pushed : c.push.new.self.items ≡ blocks ++ block ∷ [] = c.in_ok-push.ensures.items in
    record {
      picks = ap (λ (l : List Block). block_picks l ++ others) pushed ∙ ap (λ (l : List Pick). l ++ others) (block-pushed blocks block) ∙ append_assoc (block_picks blocks) block.picks.items others
          ∙ ap (λ (l : List Pick). block_picks blocks ++ (l ++ others)) c.in_ok-block.ensures.picks ∙ ap (λ (l : List Pick). block_picks blocks ++ l) (sym whole) ∙ h.picks;
      blocks = λ at measured.
          let own : Pick → Type 0 = λ pick. pick.dist ≡ distance at pick.point in
          let left : AreMeasured at rest = (all_parts own (block_picks blocks) rest (subst (AreMeasured at) (sym h.picks) measured)).1 in
          let mine : AreMeasured at front = (all_parts own front others (subst (AreMeasured at) whole left)).0 in
          subst (AllByRecursion (IsBlock at)) (sym pushed) (all_append (IsBlock at) blocks (block ∷ []) (h.blocks at measured) (c.in_ok-block.ensures.block at mine, tt));
      near = (all_parts (λ (pick : Pick). pick.dist ≤ 2545584412) front others (subst AreNear whole h.near)).1;
    }
