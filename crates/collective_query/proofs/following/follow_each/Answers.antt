use Rattle.std.proofs.Common.{◌≡◌, ◌+◌, ◌++◌, ◌∷◌, [], ◌∙◌, ℕ, List, get_or, ap, sym, subst, take, rules, arith, IfSome}
use Rattle.std.proofs.lemmas.List.{take_all, take_more}
use Rattle.std.proofs.lemmas.List.Elements.{Contains-get_or, Contains-append_right}
use Rattle.std.specs.List.{Contains}
use Rattle.page_face.specs.FreeList.{PageMap}
use Rattle.place_values.specs.declared.query.Pick.{Pick}
use Rattle.place_values.specs.declared.query.Chosen.{Chosen}
use Rattle.best_first.specs.Fits.{FitsTree, nodes_at}
use Rattle.group_search.specs.Leads.{AreLeads, Follows}
use Rattle.collective_query.specs.Opened.{FindsPicks}
use Rattle.collective_query.specs.TreePicks.{tree_lists, first_lists}
use Rattle.group_search.specs.Tried.{IsChosen}
use Rattle.group_search.proofs.Behind.{behind-follows, still-among}
use Rattle.group_search.proofs.Leads.{none-follows, follows-then}
use Rattle.best_first.proofs.Histories.{contains_head as contains-here}
use Rattle.collective_query.proofs.Searches.{searches-give, searches-refused, searches-then}
use Rattle.collective_query.proofs.following.follow_each.Goals as goal
use Rattle.boolean_queries.proofs.Histories.{all-contained}

pub loop-anchor-init : goal.loop-anchor-init
loop-anchor-init g c = record {
  followed = λ fits same leads was before known has each start.
      let tree = c.args.tree.now in
      let all : List (List Pick) = tree_lists c.args.ids.now c.args.at.now (nodes_at (g.P.Pages.pages c.args.pages.now) tree) tree.root c.args.words.now in
      (none-follows c.args.at.now all c.args.own c.args.best.now was, start);
  last = tt;
  cost = omega arith;
  search = search rules;
}

pub loop-anchor-preserved-then-is_behind : goal.loop-anchor-preserved-then-is_behind
loop-anchor-preserved-then-is_behind g c =
    let h = c.loop-anchor.invariant in
    let tree = c.args.tree.now in
    let from = c.args.at.now in
    let own = c.args.own in
    let leads : List Pick = c.args.leads.now in
    let anchor : Pick = c.anchor-item.result in
    let at : ℕ = c.loop-anchor.anchor-index in
    let first : Chosen = c.args.best.now in
    let best : Chosen = c.loop-anchor.best in
    let all : List (List Pick) = tree_lists c.args.ids.now from (nodes_at (g.P.Pages.pages c.args.pages.now) tree) tree.root c.args.words.now in
    let more : take (at + 1) leads ≡ take at leads ++ anchor ∷ [] = take_more leads at anchor c.loop-anchor-test.true ∙ ap (λ (l : Pick). take at leads ++ l ∷ []) (sym c.anchor-item.is) in
    record {
      followed = λ fits same are was before known has each start.
          let so_far = h.followed fits same are was before known has each start in
          (subst (λ (l : List Pick). Follows from all own l first best) (sym more) (behind-follows from all own (take at leads) anchor c.loop-anchor.last first best h.last (c.is_behind.ensures c.if-is_behind.true) so_far.0), so_far.1);
      last = subst (λ (l : List Pick). IfSome c.loop-anchor.last (Contains l)) (sym more) (still-among c.loop-anchor.last (take at leads) (anchor ∷ []) h.last);
      cost = h.cost;
      search = h.search;
    }

pub loop-anchor-preserved : goal.loop-anchor-preserved
loop-anchor-preserved g c =
    let P = g.P.Pages in
    let h = c.loop-anchor.invariant in
    let f = h.search.frame in
    let tree = c.args.tree.now in
    let ids = c.args.ids.now in
    let from = c.args.at.now in
    let own = c.args.own in
    let words : List (List ℕ) = c.args.words.now in
    let leads : List Pick = c.args.leads.now in
    let anchor : Pick = c.anchor-item.result in
    let at : ℕ = c.loop-anchor.anchor-index in
    let first : Chosen = c.args.best.now in
    let best : Chosen = c.loop-anchor.best in
    let new : Chosen = c.follow.new.best in
    let old : PageMap = P.pages c.args.pages.now in
    let between : List ℕ = P.asked c.loop-anchor.pages in
    let after : List ℕ = P.asked c.follow.new.pages in
    let all : PageMap → List (List Pick) = λ p. tree_lists ids from (nodes_at p tree) tree.root words in
    let more : take (at + 1) leads ≡ take at leads ++ anchor ∷ [] = take_more leads at anchor c.loop-anchor-test.true ∙ ap (λ (l : Pick). take at leads ++ l ∷ []) (sym c.anchor-item.is) in
    let member : Contains leads anchor = subst (Contains leads) (sym c.anchor-item.is) (Contains-get_or leads at anchor c.loop-anchor-test.true) in
    record {
      followed = λ fits same are was before known has each start.
          let still : FitsTree (P.pages c.loop-anchor.pages) (P.count c.loop-anchor.pages) (P.first c.loop-anchor.pages) tree = rw (f.pages, f.count, f.first) fits in
          let so_far = h.followed fits same are was before known has each start in
          let one : AreLeads (all old) own (anchor ∷ []) = record { inside = are.inside; among = (all-contained (Contains (get_or (all old) own [])) leads anchor are.among member, tt) } in
          let step : Follows from (all old) own (anchor ∷ []) best new × FindsPicks old tree ids from words before after (known ++ new.picks) =
          subst (λ (p : PageMap). Follows from (all p) own (anchor ∷ []) best new × FindsPicks p tree ids from words before after (known ++ new.picks)) f.pages
          (c.in-Ok.ensures.followed still
          (same ∙ ap (λ (p : PageMap). first_lists ids from (nodes_at p tree) tree.root words) (sym f.pages))
          (subst (λ (p : PageMap). AreLeads (all p) own (anchor ∷ [])) (sym f.pages) one)
          (subst (λ (p : PageMap). IsChosen from (all p) best) (sym f.pages) so_far.0.chosen)
          before known has (each anchor member)
          (subst (λ (p : PageMap). FindsPicks p tree ids from words before between (known ++ best.picks)) (sym f.pages) so_far.1)) in
          (subst (λ (l : List Pick). Follows from (all old) own l first new) (sym more) (follows-then from (all old) own (take at leads) (anchor ∷ []) first best new so_far.0 step.0), step.1);
      last = subst (λ (l : List Pick). Contains l anchor) (sym more) (Contains-append_right (take at leads) (anchor ∷ []) anchor (contains-here anchor []));
      cost = omega (arith, c.in-Ok.ensures.cost, h.cost);
      search = searches-give P tree _ _ _ _ 0 c.in-Ok.is (searches-then P g.met.P.Pages.goes_further g.met.P.Pages.reads_further tree _ _ _ _ _ h.search c.follow.ensures.search);
    }

pub returns-in-Err-clause-search : goal.returns-in-Err-clause-search
returns-in-Err-clause-search g c =
    searches-refused g.P.Pages c.args.tree.now _ _ _ _ c.in-Err.is (searches-then g.P.Pages g.met.P.Pages.goes_further g.met.P.Pages.reads_further c.args.tree.now _ _ _ _ _ c.loop-anchor.invariant.search c.follow.ensures.search)

pub returns-clause-followed : goal.returns-clause-followed
returns-clause-followed g c = λ fits same leads was before known has each start.
    let tree = c.args.tree.now in
    let all : List (List Pick) = tree_lists c.args.ids.now c.args.at.now (nodes_at (g.P.Pages.pages c.args.pages.now) tree) tree.root c.args.words.now in
    let so_far = c.loop-anchor.invariant.followed fits same leads was before known has each start in
    (subst (λ (l : List Pick). Follows c.args.at.now all c.args.own l c.args.best.now c.loop-anchor.best) (take_all c.loop-anchor.anchor-index c.args.leads.now c.loop-anchor-test.false) so_far.0, so_far.1)
