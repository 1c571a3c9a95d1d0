use Rattle.std.proofs.Common.{◌≡◌, ◌∙◌, ◌++◌, ℕ, List, Option, length, vec_len, sym, ap, subst, arith, ⊎_elim}
use Rattle.std.proofs.lemmas.List.{length-map}
use Rattle.std.proofs.lemmas.List.Elements.{Contains-append_left, Contains-append_right}
use Rattle.std.specs.List.{Contains}
use Rattle.page_face.specs.FreeList.{PageMap}
use Rattle.place_values.specs.declared.hit.Hit.{Hit}
use Rattle.place_values.specs.declared.query.Pick.{Pick}
use Rattle.rtree_nodes.specs.Slots.{NodeMap}
use Rattle.best_first.specs.Fits.{nodes_at}
use Rattle.collective_query.specs.Opened.{FindsPicks}
use Rattle.collective_query.specs.TreePicks.{tree_picks, tree_lists}
use Rattle.collective_query.proofs.Opened.{finds-fewer, finds-then}
use Rattle.group_sum.specs.Sets.{flags_from, in_set}
use Rattle.group_sum.specs.Shared.{IsNearestShared, limit_of, shared_in}
use Rattle.group_sum.specs.Tables.{picks_kept}
use Rattle.group_sum.proofs.Masks.{contains-flagged}
use Rattle.group_sum.proofs.TreeSets.{set-lists, lists-named}
use Rattle.group_sum.proofs.filling.keep_next.Goals as goal

pub returns-in-Ok-keep-clause-least : goal.returns-in-Ok-keep-clause-least
returns-in-Ok-keep-clause-least g c = λ fits once least.
    let tree = c.args.tree.now in
    let ids = c.args.ids.now in
    let at = c.args.at.now in
    let words : List (List ℕ) = c.args.words.now in
    let nodes : NodeMap = nodes_at (g.P.Pages.pages c.args.pages.now) tree in
    let of : List (List ℕ) → List (List Pick) = tree_lists ids at nodes tree.root in
    let lists : List (List Pick) = of words in
    let set : ℕ = length c.args.table.now.kept.items in
    let own : List (List ℕ) = c.in-Ok.own.items in
    let split = c.in-Ok-least_split.split in
    let hit : Option Hit = c.in-Ok-nearest_with_all.hit in
    let many : vec_len c.args.table.now.kept ≡ set = omega arith in
    let own_is : own ≡ in_set set words = c.in-Ok.ensures ∙ ap (λ (n : ℕ). in_set n words) (c.len.ensures ∙ many) in
    let found : IsNearestShared at own (of own) c.limit_from-limit.result hit = subst (λ (w : List (List ℕ)). IsNearestShared at w (of w) c.limit_from-limit.result hit) c.deref.ensures.value (c.in-Ok-nearest_with_all.ensures.nearest fits once) in
    let within : IsNearestShared at own (of own) (limit_of split) hit = subst (λ (limit : Option ℕ). IsNearestShared at own (of own) limit hit) c.limit_from-limit.ensures found in
    let near : IsNearestShared at own (in_set set lists) (limit_of split) hit = subst (λ (some : List (List Pick)). IsNearestShared at own some (limit_of split) hit) (ap of own_is ∙ set-lists ids at nodes tree.root set words) within in
    c.in-Ok-keep.ensures.least lists (length-map words (tree_picks ids at nodes tree.root) ∙ sym c.requires.count) (lists-named ids at nodes tree.root once words) least
    (subst (λ (w : List (List ℕ)). IsNearestShared at w (in_set set lists) (limit_of split) hit) (sym c.deref-2.ensures.value) near)

pub returns-in-Ok-keep-clause-opened : goal.returns-in-Ok-keep-clause-opened
returns-in-Ok-keep-clause-opened g c = λ fits before known.
    let P = g.P.Pages in
    let pages : PageMap = P.pages c.args.pages.now in
    let tree = c.args.tree.now in
    let ids = c.args.ids.now in
    let at = c.args.at.now in
    let words : List (List ℕ) = c.args.words.now in
    let old : List ℕ = P.asked c.args.pages.now in
    let new : List ℕ = P.asked c.nearest_with_all.new.pages in
    let own : List (List ℕ) = c.in-Ok.own.items in
    let hit : Option Hit = c.in-Ok-nearest_with_all.hit in
    let shared : List Pick = shared_in at c.deref.result.now hit in
    let was : List Pick = picks_kept c.args.table.now.kept.items in
    let is : List Pick = picks_kept c.keep.new.self.kept.items in
    let among : (word : List ℕ) → Contains c.deref.result.now word → Contains words word =
    λ word one. contains-flagged (flags_from c.len.result 0 (length words)) words word (subst (λ (l : List (List ℕ)). Contains l word) (c.deref.ensures.value ∙ c.in-Ok.ensures) one) in
    finds-fewer pages tree ids at words before new (was ++ shared) is
    (λ pick one. ⊎_elim
    (λ (early : Contains was pick). Contains-append_left was shared pick early)
    (λ (here : Contains (shared_in at c.deref-2.result.now hit) pick). Contains-append_right was shared pick (subst (λ (w : List (List ℕ)). Contains (shared_in at w hit) pick) (c.deref-2.ensures.value ∙ sym c.deref.ensures.value) here))
    (c.in-Ok-keep.ensures.from pick one))
    (finds-then pages tree ids at words before old new was shared known (c.in-Ok-nearest_with_all.ensures.opened fits words among))
