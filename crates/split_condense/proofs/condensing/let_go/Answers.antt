use Rattle.std.proofs.Common.{◌≡◌, ◌∙◌, ◌≤◌, ◌+◌, ℕ, List, Some, None, Option, option_map, ap, sym, subst, arith}
use Rattle.std.proofs.lemmas.Result.{on_ok_weaker}
use Rattle.rtree_nodes.specs.Slots.{Item, Held, got}
use Rattle.rtree_nodes.specs.Trees.{IsItem}
use Rattle.rtree_nodes.specs.Loose.{total_loose, AllLoose}
use Rattle.rtree_nodes.specs.Reach.{item_of}
use Rattle.rtree_nodes.specs.Pages.{stored_in}
use Rattle.node_rows.specs.Impacts.{impact_in}
use Rattle.irtree_shape.specs.Words.{joined_item, words_on}
use Rattle.split_condense.specs.declared.orphan.Orphan.{Orphan}
use Rattle.split_condense.specs.Orphans.{loose_in, AreLow}
use Rattle.split_condense.proofs.Pushes.{push-total, push-all, worded-joined}
use Rattle.split_condense.proofs.condensing.let_go.Goals as goal

pub returns-in-Ok-None-clause-sums : goal.returns-in-Ok-None-clause-sums
returns-in-Ok-None-clause-sums c = λ F b is.
    let none : stored_in c.args.bytes.now c.args.at ≡ None = sym c.in-Ok-None.ensures.stored ∙ ap (option_map item_of) c.in-Ok-None.field-0-is in
    let z : got (F c.args.level) (words_on b (stored_in c.args.bytes.now) c.args.at) ≡ 0 = ap (λ (o : Option Item). got (F c.args.level) (option_map (joined_item b c.args.at) o)) none in
    omega arith

pub returns-in-Ok-None-clause-items : goal.returns-in-Ok-None-clause-items
returns-in-Ok-None-clause-items c = λ nodes b is held all. all

pub returns-clause-sums : goal.returns-clause-sums
returns-clause-sums c = λ F b is.
    let at : ℕ = c.args.at in
    let there : stored_in c.args.bytes.now at ≡ Some (item_of c.in-Ok-Some.slot) = sym c.in-Ok-Some.ensures.stored ∙ ap (option_map item_of) c.in-Ok-Some.field-0-is in
    let same = worded-joined (impact_in c.in-Ok.words.items) b at (item_of c.in-Ok-Some.slot) (λ w. c.in-Ok.ensures.words w ∙ is w at) in
    on_ok_weaker c.push_orphan.result (λ e. ap (λ (xs : List Orphan). total_loose F (loose_in xs)) e ∙ push-total F c.args.orphans.now.items _
    ∙ ap (λ (y : Item). total_loose F (loose_in c.args.orphans.now.items) + F c.args.level y) same
    ∙ ap (λ (o : Option Item). total_loose F (loose_in c.args.orphans.now.items) + got (F c.args.level) (option_map (joined_item b at) o)) (sym there)) c.push_orphan.ensures.pushed

pub returns-clause-items : goal.returns-clause-items
returns-clause-items c = λ nodes b is held all.
    let at : ℕ = c.args.at in
    let there : stored_in c.args.bytes.now at ≡ Some (item_of c.in-Ok-Some.slot) = sym c.in-Ok-Some.ensures.stored ∙ ap (option_map item_of) c.in-Ok-Some.field-0-is in
    let same = worded-joined (impact_in c.in-Ok.words.items) b at (item_of c.in-Ok-Some.slot) (λ w. c.in-Ok.ensures.words w ∙ is w at) in
    let its : IsItem nodes c.args.level (joined_item b at (item_of c.in-Ok-Some.slot)) = subst (λ (o : Option Item). Held (λ y. IsItem nodes c.args.level y) (option_map (joined_item b at) o)) there held in
    on_ok_weaker c.push_orphan.result (λ e. subst (λ (xs : List Orphan). AllLoose (λ l y. IsItem nodes l y) (loose_in xs)) (sym e)
    (push-all (λ l y. IsItem nodes l y) c.args.orphans.now.items _ all (subst (IsItem nodes c.args.level) (sym same) its))) c.push_orphan.ensures.pushed

pub returns-clause-low : goal.returns-clause-low
returns-clause-low c = λ top within all.
    on_ok_weaker c.push_orphan.result (λ e. subst (λ (xs : List Orphan). AreLow top (loose_in xs)) (sym e) (push-all (λ l y. l ≤ top) c.args.orphans.now.items _ all within)) c.push_orphan.ensures.pushed
