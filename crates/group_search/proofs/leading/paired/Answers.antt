use Rattle.std.proofs.Common.{◌≡◌, ◌+◌, ◌++◌, ◌∷◌, [], ◌∙◌, ℕ, Bool, List, Vec, Global, append-nil, ap, sym, take, arith}
use Rattle.std.proofs.lemmas.List.{take_more}
use Rattle.std.proofs.lemmas.List.Elements.{filter-append}
use Rattle.std.specs.List.{filter}
use Rattle.place_values.specs.declared.query.Pick.{Pick}
use Rattle.group_search.specs.declared.packing.Block.{Block}
use Rattle.group_search.specs.Blocks.{block_picks}
use Rattle.group_search.specs.Joins.{may_join}
use Rattle.group_search.proofs.Blocks.{block-pushed, none-joins}
use Rattle.group_search.proofs.leading.paired.Goals as goal
use Rattle.group_search.proofs.leading.paired.Goals.{then-block_cost-most+in_ok-add_paired, else-block_cost-most}

pub loop-block-preserved : goal.loop-block-preserved
loop-block-preserved c =
    let h = c.loop-block.invariant in
    let scale = c.args.at.now.scale in
    let most = c.args.most in
    let anchor : Pick = c.args.anchor.now in
    let test : Pick → Bool = may_join scale most anchor in
    let blocks : List Block = c.args.blocks.now in
    let at : ℕ = c.loop-block.block-index in
    let block : Block = c.block-item.result in
    let picks : List Pick = block.picks.items in
    let before : List Pick = block_picks (take at blocks) in
    let more : block_picks (take (at + 1) blocks) ≡ before ++ picks =
    ap block_picks (take_more blocks at block c.loop-block-test.true ∙ ap (λ (b : Block). take at blocks ++ b ∷ []) (sym c.block-item.is)) ∙ block-pushed (take at blocks) block in
    let parts : filter test before ++ filter test picks ≡ filter test (block_picks (take (at + 1) blocks)) = sym (filter-append test before picks) ∙ ap (filter test) (sym more) in
    elim c.if-block_cost-most.branch [
      | then-block_cost-most+in_ok-add_paired w ↦
          ap (λ (v : Vec Pick Global). v.items) w.near-is ∙ w.in_ok-add_paired.ensures ∙ (λ i. h i ++ filter test (w.deref.ensures.value i)) ∙ parts
      | else-block_cost-most w ↦
          (let none : filter test picks ≡ [] = none-joins scale most c.block_cost.result anchor picks (omega (arith, w.if-block_cost-most.false)) c.block_cost.ensures.below in
          ap (λ (v : Vec Pick Global). v.items) w.near-is ∙ h ∙ sym (append-nil (filter test before)) ∙ ap (λ (l : List Pick). filter test before ++ l) (sym none) ∙ parts)
    ]
