use Rattle.std.proofs.Common.{◌≡◌, ◌+◌, ◌++◌, ◌∷◌, [], ◌∙◌, ℕ, List, Vec, Global, ap, sym, subst, take}
use Rattle.std.proofs.lemmas.List.{map-append, take_more}
use Rattle.std.proofs.lemmas.List.Elements.{Contains-get_or}
use Rattle.std.specs.List.{AllByRecursion, Contains}
use Rattle.best_first.specs.Lists.{all_append}
use Rattle.place_values.specs.declared.query.Pick.{Pick}
use Rattle.place_values.specs.Search.{lists_in}
use Rattle.group_search.specs.declared.packing.Block.{Block}
use Rattle.group_search.specs.Blocks.{IsBlock, ArePacks, block_picks, packed_lists}
use Rattle.group_search.specs.Choices.{IsSame, AreCut}
use Rattle.group_search.specs.Picks.{AreMeasured}
use Rattle.group_search.proofs.Cuts.{cut-push}
use Rattle.group_search.proofs.packing.packed_each.Goals as goal
use Rattle.boolean_queries.proofs.Histories.{all-contained}

pub loop-list-preserved : goal.loop-list-preserved
loop-list-preserved c =
    let h = c.loop-list.invariant in
    let spare : Pick → Type 0 = λ pick. Unit {0} in
    let lists : List (Vec Pick Global) = c.args.lists.now in
    let i : ℕ = c.loop-list.list-index in
    let one : Vec Pick Global = c.list-item.result in
    let packs : List (Vec Block Global) = c.loop-list.packs.items in
    let blocks : Vec Block Global = c.in_ok-blocks.blocks in
    let pushed : c.push.new.self.items ≡ packs ++ blocks ∷ [] = c.in_ok-push.ensures.items in
    let is : c.deref.result.now ≡ one.items = c.deref.ensures.value in
    let same : IsSame one.items (block_picks blocks.items) = subst (λ (l : List Pick). IsSame l (block_picks blocks.items)) is c.in_ok-blocks.ensures.same in
    let taken : lists_in (take (i + 1) lists) ≡ lists_in (take i lists) ++ one.items ∷ [] =
    ap lists_in (take_more lists i one c.loop-list-test.true ∙ ap (λ (l : Vec Pick Global). take i lists ++ l ∷ []) (sym c.list-item.is)) ∙ map-append (λ (list : Vec Pick Global). list.items) (take i lists) (one ∷ []) in
    let among : Contains lists one = subst (Contains lists) (sym c.list-item.is) (Contains-get_or lists i one c.loop-list-test.true) in
    record {
      same = subst (λ (ls : List (List Pick)). AreCut spare ls (packed_lists c.push.new.self.items)) (sym taken)
          (subst (AreCut spare (lists_in (take i lists) ++ one.items ∷ [])) (sym (ap packed_lists pushed ∙ map-append (λ (pack : Vec Block Global). block_picks pack.items) packs (blocks ∷ [])))
          (cut-push spare (lists_in (take i lists)) (packed_lists packs) one.items (block_picks blocks.items) h.same same));
      blocks = λ at measured. subst (ArePacks at) (sym pushed)
          (all_append (λ (pack : Vec Block Global). AllByRecursion (IsBlock at) pack.items) packs (blocks ∷ []) (h.blocks at measured)
          (c.in_ok-blocks.ensures.blocks at (subst (AreMeasured at) (sym is) (all-contained (λ (list : Vec Pick Global). AreMeasured at list.items) lists one measured among)), tt));
    }
