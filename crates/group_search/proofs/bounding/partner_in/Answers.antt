use Rattle.std.proofs.Common.{◌≡◌, ◌+◌, ◌++◌, ◌∷◌, [], ◌∙◌, ℕ, List, ap, sym, subst, take}
use Rattle.std.proofs.lemmas.List.{take_all, take_more}
use Rattle.std.proofs.lemmas.List.Elements.{Contains-get_or}
use Rattle.std.specs.List.{Contains}
use Rattle.group_search.specs.declared.packing.Block.{Block}
use Rattle.group_search.specs.Blocks.{IsBelowPairs, block_picks}
use Rattle.group_search.proofs.Blocks.{below-pushed, block-among}
use Rattle.group_search.proofs.bounding.partner_in.Goals as goal

pub loop-block-preserved : goal.loop-block-preserved
loop-block-preserved c =
    let h = c.loop-block.invariant in
    let scale = c.args.at.now.scale in
    let anchor = c.args.anchor.now in
    let blocks : List Block = c.args.blocks.now in
    let at : ℕ = c.loop-block.block-index in
    let block : Block = c.block-item.result in
    let old : ℕ = c.loop-block.best.cost in
    let new : ℕ = c.better_of-best.result.cost in
    let more : take (at + 1) blocks ≡ take at blocks ++ block ∷ [] = take_more blocks at block c.loop-block-test.true ∙ ap (λ (b : Block). take at blocks ++ b ∷ []) (sym c.block-item.is) in
    let member : Contains blocks block = subst (Contains blocks) (sym c.block-item.is) (Contains-get_or blocks at block c.loop-block-test.true) in
    record {
      below = subst (λ (l : List Block). IsBelowPairs scale new anchor (block_picks l)) (sym more) (below-pushed scale old new anchor (take at blocks) block c.better_of-best.ensures.less h.below c.better_of-best.ensures.below);
      among = c.better_of-best.ensures.among (block_picks blocks) h.among (λ pick one. block-among blocks block pick member one);
    }

pub returns-clause-below : goal.returns-clause-below
returns-clause-below c =
    subst (λ (l : List Block). IsBelowPairs c.args.at.now.scale c.loop-block.best.cost c.args.anchor.now (block_picks l)) (take_all c.loop-block.block-index c.args.blocks.now c.loop-block-test.false) c.loop-block.invariant.below
