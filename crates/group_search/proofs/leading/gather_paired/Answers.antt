use Rattle.std.proofs.Common.{◌≡◌, ◌<◌, ◌≤◌, ◌++◌, ◌∷◌, [], ◌∙◌, ℕ, List, Vec, Global, vec_len, length, nat_eq, if◌then◌else◌, sym, subst, arith}
use Rattle.std.proofs.lemmas.Bool.{eqb-true}
use Rattle.std.specs.List.{AllByRecursion}
use Rattle.best_first.specs.Lists.{all_append}
use Rattle.place_values.specs.declared.query.Pick.{Pick}
use Rattle.place_values.specs.Search.{lists_in}
use Rattle.group_search.specs.declared.packing.Block.{Block}
use Rattle.group_search.specs.Blocks.{block_picks}
use Rattle.group_search.specs.Choices.{IsCut}
use Rattle.group_search.specs.Leads.{IsPaired}
use Rattle.group_search.specs.Picks.{AreNear, AreMeasured}
use Rattle.group_search.proofs.Blocks.{paired-pushed, paired-none, paired-all}
use Rattle.group_search.proofs.leading.gather_paired.Goals as goal

pub loop-index-preserved : goal.loop-index-preserved
loop-index-preserved c =
    let h = c.loop-index.invariant in
    let from = c.args.at.now in
    let own = c.args.own in
    let most = c.args.most in
    let anchor : Pick = c.args.anchor.now in
    let packs : List (Vec Block Global) = c.args.packs.now in
    let at : ℕ = c.loop-index.index in
    let pack : Vec Block Global = c.index-packs-index.result in
    let lists = c.loop-index.lists.items in
    let picks = c.in_ok-picks.picks in
    let pushed : c.push.new.self.items ≡ lists ++ picks ∷ [] = c.in_ok-push.ensures.items in
    let inside : at < length packs = omega arith in
    let cut : IsCut (IsPaired from anchor most) (if nat_eq at own then anchor ∷ [] else block_picks pack.items) picks.items =
    subst (λ (l : List Block). IsCut (IsPaired from anchor most) (if nat_eq at own then anchor ∷ [] else block_picks l) picks.items) c.deref.ensures.value c.in_ok-picks.ensures.cut in
    record {
      cut = paired-pushed from packs own at most anchor pack lists c.push.new.self.items picks inside c.index-packs-index.is pushed cut h.cut;
      near = subst (AllByRecursion (λ (list : Vec Pick Global). AreNear list.items)) (sym pushed) (all_append (λ (list : Vec Pick Global). AreNear list.items) lists (picks ∷ []) h.near (c.in_ok-picks.ensures.near, tt));
      measured = subst (AllByRecursion (λ (list : Vec Pick Global). AreMeasured from list.items)) (sym pushed) (all_append (λ (list : Vec Pick Global). AreMeasured from list.items) lists (picks ∷ []) h.measured (c.in_ok-picks.ensures.measured, tt));
    }

pub returns-then-is_empty-clause-gathered : goal.returns-then-is_empty-clause-gathered
returns-then-is_empty-clause-gathered c = λ choice is all_count.
    let from = c.args.at.now in
    let own = c.args.own in
    let most = c.args.most in
    let anchor : Pick = c.args.anchor.now in
    let packs : List (Vec Block Global) = c.args.packs.now in
    let at : ℕ = c.loop-index.index in
    let pack : Vec Block Global = c.index-packs-index.result in
    let picks = c.in_ok-picks.picks in
    let inside : at < length packs = omega arith in
    let len : vec_len picks ≡ 0 = eqb-true (vec_len picks) 0 (sym c.is_empty.ensures ∙ c.if-is_empty.true) in
    let none : length picks.items ≡ 0 = omega arith in
    let cut : IsCut (IsPaired from anchor most) (if nat_eq at own then anchor ∷ [] else block_picks pack.items) picks.items =
    subst (λ (l : List Block). IsCut (IsPaired from anchor most) (if nat_eq at own then anchor ∷ [] else block_picks l) picks.items) c.deref.ensures.value c.in_ok-picks.ensures.cut in
    paired-none from packs own at most anchor pack picks.items choice inside c.index-packs-index.is none cut is all_count

pub returns-clause-gathered : goal.returns-clause-gathered
returns-clause-gathered c =
    let packs : List (Vec Block Global) = c.args.packs.now in
    let long : length packs ≤ c.loop-index.index = omega arith in
    paired-all c.args.at.now packs c.args.own c.loop-index.index c.args.most c.args.anchor.now (lists_in c.loop-index.lists.items) long c.loop-index.invariant.cut
