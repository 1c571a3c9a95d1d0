-- Picks in blocks, pairs with a lead pick, and what a choice that takes it costs at least.
use Rattle.std.proofs.Common.{◌≡◌, ℕ, zero, suc, take, append-nil, ◌+◌, ◌<◌, ◌≤◌, max, Bool, true, false, nat_eq, if◌then◌else◌, List, [], ◌∷◌, ◌++◌, Vec, Option, Some, IfSome, IsSomeAnd, length, get_or, map, refl, sym, ap, subst, ◌∙◌, arith, ⊎_elim}
use Rattle.std.proofs.lemmas.Bool.{cases_lt}
use Rattle.std.proofs.lemmas.Bool.Decides.{nat_tests}
use Rattle.std.proofs.lemmas.Int.{ints}
use Rattle.std.proofs.lemmas.List.{map-append, length-map, get_or-map, take_all, take_more}
use Rattle.std.proofs.lemmas.List.Concat.{flat_map-append}
use Rattle.std.proofs.lemmas.List.Elements.{Contains-get_or, Contains-append_right}
use Rattle.std.proofs.lemmas.List.Sorted.{IsPermutation-sym}
use Rattle.std.specs.List.{AllByRecursion, Contains, filter}
use Rattle.std.specs.List.Sorted.{IsPermutation}
use Rattle.std.specs.declared.alloc.Global.{Global}
use Rattle.best_first.specs.Lists.{all_in, all_weaker, all_append, all_moved, flat_all}
use Rattle.spatial_base.specs.Point.{Position, Viewpoint, seen_from, distance}
use Rattle.spatial_base.specs.Rect.{Bounds, Holds, Covers, rect_of}
use Rattle.place_values.specs.declared.query.Pick.{Pick}
use Rattle.place_values.specs.declared.query.Chosen.{Chosen}
use Rattle.place_values.specs.Group.{choice_cost, least_of}
use Rattle.place_values.specs.GroupLaws.{least_cost}
use Rattle.place_values.specs.Search.{lists_in}
use Rattle.group_search.specs.declared.packing.Block.{Block}
use Rattle.group_search.specs.declared.bounding.Lead.{Lead}
use Rattle.group_search.specs.Blocks.{IsBlock, IsBelowPairs, block_picks, packed_lists}
use Rattle.group_search.specs.Choices.{IsChoice, IsWithin, IsCut, IsSame, AreCut}
use Rattle.group_search.specs.Joins.{pair_cost, may_join}
use Rattle.group_search.specs.Leads.{led_by, AreLeads, IsBehind, IsPaired, IsBound, AreBounds, Betters, Follows, lead_picks}
use Rattle.group_search.specs.Picks.{AreNear, AreMeasured}
use Rattle.group_search.specs.Tried.{IsChosen, IsFirst, IsBetter, IsBest}
use Rattle.group_search.proofs.Cuts.{cut-choice, counted-choice, cut-push, none-counted}
use Rattle.group_search.proofs.Joins.{member-far, member-wide, choice-meets, contains-filter, filter-contains}
use Rattle.group_search.proofs.Leads.{led-length, led-takes, led-is, led-here, chained, dear, dear-follows, follows-then, follows-all, all-within}
use Rattle.group_search.proofs.Behind.{behind-follows, still-among}
use Rattle.group_search.proofs.Least.{itself, least-among, least-first}
use Rattle.group_search.proofs.Members.{contains-cases, contains-none, contains-flat, contains-map, all-map, map-all}
use Rattle.best_first.proofs.Histories.{contains_head as contains-here}
use Rattle.group_search.proofs.Products.{choice-push}
use Rattle.boolean_queries.proofs.Histories.{all-contained}

-- what a rectangle holds, one that covers it holds
pub covers-holds : (outer inner : Bounds) (p : Position) → Covers outer inner → Holds inner p → Holds outer p
covers-holds outer inner p covers holds = record {
  west = grind (arith, ints, covers.west, holds.west);
  east = grind (arith, ints, covers.east, holds.east);
  south = grind (arith, ints, covers.south, holds.south);
  north = grind (arith, ints, covers.north, holds.north);
}

-- and so it is of several points
pub all-held : (outer inner : Bounds) (picks : List Pick) → Covers outer inner → AllByRecursion (λ (pick : Pick). Holds inner pick.point) picks → AllByRecursion (λ (pick : Pick). Holds outer pick.point) picks
all-held outer inner picks covers = all_weaker (λ (pick : Pick). Holds inner pick.point) (λ (pick : Pick). Holds outer pick.point) (λ pick. covers-holds outer inner pick.point covers) picks

-- a point is in what covers its own rectangle
pub point-held : (outer inner : Bounds) (p : Position) → inner ≡ rect_of p → Covers outer inner → Holds outer p
point-held outer inner p is covers =
    let own : Covers outer (rect_of p) = subst (Covers outer) is covers in
    record { west = own.west; east = own.east; south = own.south; north = own.north }

-- the same picks in another order
pub same-moved : (xs ys : List Pick) → IsPermutation xs ys → IsSame xs ys
same-moved xs ys moved = record {
  among = λ pick c. all-contained (Contains xs) ys pick (all_moved (Contains xs) xs ys moved (all_in xs)) c;
  whole = λ pick c _. all-contained (Contains ys) xs pick (all_moved (Contains ys) ys xs (IsPermutation-sym xs ys moved) (all_in ys)) c;
}

-- no pair with a pick of a block costs less than its rectangle and its nearest pick let it
pub block-below : (at : Viewpoint) (anchor : Pick) (bounds : Bounds) (nearest way cost : ℕ) (picks : List Pick) → AllByRecursion (λ (pick : Pick). Holds bounds pick.point) picks → AllByRecursion (λ (pick : Pick). nearest ≤ pick.dist) picks
    → ((q : Position) → Holds bounds q → way ≤ distance (seen_from anchor.point at.scale) q) → cost ≡ max anchor.dist nearest + way → IsBelowPairs at.scale cost anchor picks
block-below at anchor bounds nearest way cost [] held lowest near is = tt
block-below at anchor bounds nearest way cost (pick ∷ picks) held lowest near is =
    ((let d = near pick.point held.0 in let l = lowest.0 in omega arith), block-below at anchor bounds nearest way cost picks held.1 lowest.1 near is)

-- nor one at a lesser cost
pub below-less : (scale cost less : ℕ) (anchor : Pick) (picks : List Pick) → less ≤ cost → IsBelowPairs scale cost anchor picks → IsBelowPairs scale less anchor picks
below-less scale cost less anchor picks le = all_weaker (λ (pick : Pick). cost ≤ pair_cost scale anchor pick) (λ (pick : Pick). less ≤ pair_cost scale anchor pick) (λ pick h. omega arith) picks

-- where no pair costs so little, none may join
pub none-joins : (scale most cost : ℕ) (anchor : Pick) (picks : List Pick) → most < cost → IsBelowPairs scale cost anchor picks → filter (may_join scale most anchor) picks ≡ []
none-joins scale most cost anchor [] more below = refl
none-joins scale most cost anchor (pick ∷ picks) more below =
    let b : cost ≤ pair_cost scale anchor pick = below.0 in
    let f : may_join scale most anchor pick ≡ false = grind (arith, nat_tests) in
    rw f (none-joins scale most cost anchor picks more below.1)

-- the picks that may join the lead are those that are paired with it
pub joins-paired : (at : Viewpoint) (anchor : Pick) (most : ℕ) (picks : List Pick) → anchor.dist ≡ distance at anchor.point → AreMeasured at picks → IsCut (IsPaired at anchor most) picks (filter (may_join at.scale most anchor) picks)
joins-paired at anchor most picks dist measured = record {
  among = filter-contains (may_join at.scale most anchor) picks;
  whole = λ pick c close.
      let own : pick.dist ≡ distance at pick.point = all-contained (λ (p : Pick). p.dist ≡ distance at p.point) picks pick measured c in
      let test : may_join at.scale most anchor pick ≡ true = grind (arith, nat_tests) in
      contains-filter (may_join at.scale most anchor) picks pick c test;
}

-- the lead is paired with itself at any cost, as a list of itself
pub own-paired : (at : Viewpoint) (anchor : Pick) (most : ℕ) → IsCut (IsPaired at anchor most) (anchor ∷ []) (anchor ∷ [])
own-paired at anchor most = record { among = λ pick c. c; whole = λ pick c close. c }

-- what is cut from a list keeps what holds of all
pub all-cut : (counts P : Pick → Type 0) (all cut : List Pick) → IsCut counts all cut → AllByRecursion P all → AllByRecursion P cut
all-cut counts P all cut is h = all_weaker (Contains cut) P (λ pick c. all-contained P all pick h (is.among pick c)) cut (all_in cut)

-- the picks of a choice that costs at most so much are paired with its lead
pub all-paired : (at : Viewpoint) (most : ℕ) (anchor : Pick) (choice : List Pick) → Contains choice anchor → choice_cost at choice ≤ most → AllByRecursion (IsPaired at anchor most) choice
all-paired at most anchor choice takes cheap = all_weaker (Contains choice) (IsPaired at anchor most)
    (λ pick c.
    let far = member-far at choice pick c in
    let also = member-far at choice anchor takes in
    let wide = member-wide at.scale choice anchor pick takes c in
    omega arith)
    choice (all_in choice)

-- so the lead is followed, where the choices of what is paired with it are
pub paired-follows : (at : Viewpoint) (lists : List (List Pick)) (own : ℕ) (anchor : Pick) (old new : Chosen) → own < length lists → IsChosen at lists old → Betters at lists (IsPaired at anchor old.cost) (led_by own anchor lists) old new
    → Follows at lists own (anchor ∷ []) old new
paired-follows at lists own anchor old new inside was better = record {
  chosen = better.chosen;
  after = better.after;
  first = (
    λ choice is. ⊎_elim
        (λ (more : old.cost < choice_cost at choice). chained at old.picks new.picks choice better.after (dear at lists old choice was more))
        (λ (cheap : choice_cost at choice ≤ old.cost). better.first choice is (all-paired at old.cost anchor choice (led-takes own anchor lists choice inside is) cheap))
        (cases_lt old.cost (choice_cost at choice)),
    tt,
  );
}

-- a list's least pair costs no more than a choice with a pick of it
pub pair-bound : (at : Viewpoint) (lists : List (List Pick)) (own index cost : ℕ) (anchor : Pick) (list choice : List Pick) → own < length lists → index < length lists → get_or (led_by own anchor lists) index [] ≡ list
    → anchor.dist ≡ distance at anchor.point → AreMeasured at list → IsBelowPairs at.scale cost anchor list → IsChoice (led_by own anchor lists) choice → cost ≤ choice_cost at choice
pair-bound at lists own index cost anchor list choice inside within is dist measured below one =
    let led : List (List Pick) = led_by own anchor lists in
    let there : index < length led = omega (arith, led-length own anchor lists) in
    let takes = led-takes own anchor lists choice inside one in
    let met = choice-meets led choice (get_or led index []) one (Contains-get_or led index [] there) in
    let here : Contains list met.0 = subst (λ (l : List Pick). Contains l met.0) is met.2 in
    let pair : cost ≤ pair_cost at.scale anchor met.0 = all-contained (λ (pick : Pick). cost ≤ pair_cost at.scale anchor pick) list met.0 below here in
    let own_dist : met.0.dist ≡ distance at met.0.point = all-contained (λ (pick : Pick). pick.dist ≡ distance at pick.point) list met.0 measured here in
    let far = member-far at choice met.0 met.1 in
    let also = member-far at choice anchor takes in
    let wide = member-wide at.scale choice anchor met.0 takes met.1 in
    omega arith

-- the better of a choice and another one
pub kept-better : (at : Viewpoint) (lists : List (List Pick)) (old new : Chosen) (picks : List Pick) → IsChosen at lists old → IsChoice lists picks → Some new ≡ least_of at (old.picks ∷ picks ∷ []) → IsBetter at lists old new
kept-better at lists old new picks was is least =
    let firsts = least-first at (old.picks ∷ picks ∷ []) new (sym least) in
    record {
      chosen = record {
        choice = ⊎_elim (λ (same : old.picks ≡ new.picks). subst (IsChoice lists) same was.choice)
            (λ (later : Contains (picks ∷ []) new.picks). ⊎_elim (λ (same : picks ≡ new.picks). subst (IsChoice lists) same is) (λ (none : Contains [] new.picks). absurd (contains-none new.picks none)) (contains-cases picks [] new.picks later))
            (contains-cases old.picks (picks ∷ []) new.picks (least-among at (old.picks ∷ picks ∷ []) new (sym least)));
        cost = least_cost (choice_cost at) (old.picks ∷ picks ∷ []) new (sym least);
      };
      after = firsts.0;
    }

-- nothing better
pub still-better : (at : Viewpoint) (lists : List (List Pick)) (best : Chosen) → IsChosen at lists best → IsBetter at lists best best
still-better at lists best was = record { chosen = was; after = itself at best.picks }

-- one after another
pub better-then : (at : Viewpoint) (lists : List (List Pick)) (old mid new : Chosen) → IsBetter at lists old mid → IsBetter at lists mid new → IsBetter at lists old new
better-then at lists old mid new a b = record { chosen = b.chosen; after = chained at mid.picks new.picks old.picks b.after a.after }

-- what holds of no choice for less holds of each choice
all-spare : (choice : List Pick) → AllByRecursion (λ pick. Unit {0}) choice
all-spare [] = tt
all-spare (pick ∷ picks) = (tt, all-spare picks)

-- the same lists have the same choices
pub same-choice : (lists cuts : List (List Pick)) (choice : List Pick) → AreCut (λ pick. Unit {0}) lists cuts → IsChoice lists choice → IsChoice cuts choice
same-choice lists cuts choice same is = counted-choice (λ pick. Unit {0}) lists cuts choice same is (all-spare choice)

-- so the best of one is that of the other
pub same-best : (at : Viewpoint) (lists cuts : List (List Pick)) (old new : Chosen) → AreCut (λ pick. Unit {0}) lists cuts → IsBest at cuts old new → IsBest at lists old new
same-best at lists cuts old new same is = record {
  chosen = record { choice = cut-choice (λ pick. Unit {0}) lists cuts new.picks same is.chosen.choice; cost = is.chosen.cost };
  after = is.after;
  first = λ choice one. is.first choice (same-choice lists cuts choice same one);
}

pub same-chosen : (at : Viewpoint) (lists cuts : List (List Pick)) (best : Chosen) → AreCut (λ pick. Unit {0}) lists cuts → IsChosen at lists best → IsChosen at cuts best
same-chosen at lists cuts best same is = record { choice = same-choice lists cuts best.picks same is.choice; cost = is.cost }

-- one list and its cut
pub cut-at : (counts : Pick → Type 0) (lists cuts : List (List Pick)) (index : ℕ) → AreCut counts lists cuts → index < length lists → IsCut counts (get_or lists index []) (get_or cuts index [])
cut-at counts [] cuts index are inside = absurd (omega arith)
cut-at counts (list ∷ lists) [] index are inside = absurd are
cut-at counts (list ∷ lists) (cut ∷ cuts) zero are inside = are.0
cut-at counts (list ∷ lists) (cut ∷ cuts) (suc index) are inside = cut-at counts lists cuts index are.1 (omega arith)

-- there are as many
pub cut-length : (counts : Pick → Type 0) (lists cuts : List (List Pick)) → AreCut counts lists cuts → length lists ≡ length cuts
cut-length counts [] [] are = refl
cut-length counts [] (cut ∷ cuts) are = absurd are
cut-length counts (list ∷ lists) [] are = absurd are
cut-length counts (list ∷ lists) (cut ∷ cuts) are = ap suc (cut-length counts lists cuts are.1)

-- what counts in fewer cases
pub cuts-wider : (counts others : Pick → Type 0) (lists cuts : List (List Pick)) → ((pick : Pick) → others pick → counts pick) → AreCut counts lists cuts → AreCut others lists cuts
cuts-wider counts others [] [] wider are = tt
cuts-wider counts others [] (cut ∷ cuts) wider are = absurd are
cuts-wider counts others (list ∷ lists) [] wider are = absurd are
cuts-wider counts others (list ∷ lists) (cut ∷ cuts) wider are = (record { among = are.0.among; whole = λ pick c other. are.0.whole pick c (wider pick other) }, cuts-wider counts others lists cuts wider are.1)

-- where lists are cut to what is as near as the best choice costs, it is one of the cut ones
pub within-chosen : (at : Viewpoint) (lists cuts : List (List Pick)) (best : Chosen) → AreCut (IsWithin at best.cost) lists cuts → IsChosen at lists best → IsChosen at cuts best
within-chosen at lists cuts best cut was =
    let costs : best.cost ≡ choice_cost at best.picks = was.cost in
    record { choice = counted-choice (IsWithin at best.cost) lists cuts best.picks cut was.choice (all-within at best.cost best.picks (omega arith)); cost = was.cost }

-- and the best of these is that of all
pub within-best : (at : Viewpoint) (lists cuts : List (List Pick)) (old new : Chosen) → AreCut (IsWithin at old.cost) lists cuts → IsChosen at lists old → IsBest at cuts old new → IsBest at lists old new
within-best at lists cuts old new cut was is = record {
  chosen = record { choice = cut-choice (IsWithin at old.cost) lists cuts new.picks cut is.chosen.choice; cost = is.chosen.cost };
  after = is.after;
  first = λ choice one. ⊎_elim
      (λ (more : old.cost < choice_cost at choice). chained at old.picks new.picks choice is.after (dear at lists old choice was more))
      (λ (cheap : choice_cost at choice ≤ old.cost). is.first choice (counted-choice (IsWithin at old.cost) lists cuts choice cut one (all-within at old.cost choice cheap)))
      (cases_lt old.cost (choice_cost at choice));
}

-- with the best choice of all, any leads are followed
pub best-follows : (at : Viewpoint) (lists : List (List Pick)) (own : ℕ) (leads : List Pick) (old new : Chosen) → AllByRecursion (Contains (get_or lists own [])) leads → IsBest at lists old new → Follows at lists own leads old new
best-follows at lists own leads old new among is = record {
  chosen = is.chosen;
  after = is.after;
  first = all_weaker (Contains (get_or lists own [])) (λ anchor. IsFirst at (led_by own anchor lists) new) (λ anchor c choice one. is.first choice (led-is own anchor lists choice c one)) leads among;
}

-- the picks of leads in another order
pub moved-leads : (old new : List Lead) (pick : Pick) → IsPermutation old new → Contains (lead_picks old) pick → Contains (lead_picks new) pick
moved-leads old new pick moved c =
    let P : Lead → Type 0 = λ lead. Contains (lead_picks new) lead.pick in
    let all : AllByRecursion P new = all-map (Contains (lead_picks new)) (λ (lead : Lead). lead.pick) new (all_in (lead_picks new)) in
    let back : AllByRecursion P old = all_moved P new old (IsPermutation-sym old new moved) all in
    all-contained (Contains (lead_picks new)) (lead_picks old) pick (map-all (Contains (lead_picks new)) (λ (lead : Lead). lead.pick) old back) c

-- one block more
pub block-pushed : (blocks : List Block) (block : Block) → block_picks (blocks ++ block ∷ []) ≡ block_picks blocks ++ block.picks.items
block-pushed blocks block = flat_map-append (λ (b : Block). b.picks.items) blocks (block ∷ []) ∙ ap (λ l. block_picks blocks ++ l) (append-nil block.picks.items)

-- the picks of a block are among those of all
pub block-among : (blocks : List Block) (block : Block) (pick : Pick) → Contains blocks block → Contains block.picks.items pick → Contains (block_picks blocks) pick
block-among blocks block pick c d = contains-flat (λ (b : Block). b.picks.items) blocks block pick c d

-- what holds of the picks of each block holds of all
pub blocks-near : (at : Viewpoint) (blocks : List Block) → AllByRecursion (IsBlock at) blocks → AreNear (block_picks blocks)
blocks-near at blocks all = flat_all (λ (pick : Pick). pick.dist ≤ 2545584412) (λ (b : Block). b.picks.items) blocks (all_weaker (IsBlock at) (λ (b : Block). AreNear b.picks.items) (λ b h. h.near) blocks all)

pub blocks-measured : (at : Viewpoint) (blocks : List Block) → AllByRecursion (IsBlock at) blocks → AreMeasured at (block_picks blocks)
blocks-measured at blocks all = flat_all (λ (pick : Pick). pick.dist ≡ distance at pick.point) (λ (b : Block). b.picks.items) blocks (all_weaker (IsBlock at) (λ (b : Block). AreMeasured at b.picks.items) (λ b h. h.measured) blocks all)

-- of either of two lists
pub of-either : (P : List Pick → Type 0) (first : Bool) (xs ys : List Pick) → P xs → P ys → P (if first then xs else ys)
of-either P true xs ys h k = h
of-either P false xs ys h k = k

-- the pairs with one more block
pub below-pushed : (scale cost new : ℕ) (anchor : Pick) (blocks : List Block) (block : Block) → new ≤ cost → IsBelowPairs scale cost anchor (block_picks blocks) → IsBelowPairs scale new anchor block.picks.items → IsBelowPairs scale new anchor (block_picks (blocks ++ block ∷ []))
below-pushed scale cost new anchor blocks block le old more =
    subst (IsBelowPairs scale new anchor) (sym (block-pushed blocks block))
    (all_append (λ (pick : Pick). new ≤ pair_cost scale anchor pick) (block_picks blocks) block.picks.items (below-less scale cost new anchor (block_picks blocks) le old) more)

-- the list of a word where it is led by a pick, from the packs
pub led-pack : (own index : ℕ) (anchor : Pick) (packs : List (Vec Block Global)) (pack : Vec Block Global) → index < length packs → pack ≡ get_or packs index pack
    → get_or (led_by own anchor (packed_lists packs)) index [] ≡ (if nat_eq index own then anchor ∷ [] else block_picks pack.items)
led-pack own index anchor packs pack inside is =
    let f : Vec Block Global → List Pick = λ p. block_picks p.items in
    let within : index < length (map f packs) = omega (arith, length-map packs f) in
    led-here own index anchor (packed_lists packs) (block_picks pack.items) within (get_or-map f packs index pack [] inside ∙ ap f (sym is))

-- there are as many lists as packs
pub packs-length : (packs : List (Vec Block Global)) → length (packed_lists packs) ≡ length packs
packs-length packs = length-map packs (λ (pack : Vec Block Global). block_picks pack.items)

-- a list that each choice takes one of lets none cost less
pub bound-step : (at : Viewpoint) (packs : List (Vec Block Global)) (own index least cost more : ℕ) (anchor : Pick) (pack : Vec Block Global) → AreLeads (packed_lists packs) own (anchor ∷ []) → index < length packs → pack ≡ get_or packs index pack
    → anchor.dist ≡ distance at anchor.point → AllByRecursion (IsBlock at) pack.items → IsBelowPairs at.scale cost anchor (if nat_eq index own then anchor ∷ [] else block_picks pack.items)
    → more ≡ max least cost → IsBound at (packed_lists packs) own least anchor → IsBound at (packed_lists packs) own more anchor
bound-step at packs own index least cost more anchor pack are inside is dist blocks below most was choice one =
    let lists = packed_lists packs in
    let list : List Pick = if nat_eq index own then anchor ∷ [] else block_picks pack.items in
    let n = packs-length packs in
    let within : index < length lists = omega arith in
    let measured : AreMeasured at list = of-either (AreMeasured at) (nat_eq index own) (anchor ∷ []) (block_picks pack.items) (dist, tt) (blocks-measured at pack.items blocks) in
    let low = was choice one in
    let pair = pair-bound at lists own index cost anchor list choice are.inside within (led-pack own index anchor packs pack inside is) dist measured below one in
    omega arith

-- one pick more of the lists that a lead leads
pub partner-pushed : (packs : List (Vec Block Global)) (own index : ℕ) (anchor : Pick) (pack : Vec Block Global) (picks new : List Pick) (pick : Pick) → index < length packs → pack ≡ get_or packs index pack
    → new ≡ picks ++ pick ∷ [] → Contains (if nat_eq index own then anchor ∷ [] else block_picks pack.items) pick → IsChoice (take index (led_by own anchor (packed_lists packs))) picks → IsChoice (take (index + 1) (led_by own anchor (packed_lists packs))) new
partner-pushed packs own index anchor pack picks new pick inside is pushed among was =
    let led : List (List Pick) = led_by own anchor (packed_lists packs) in
    let list : List Pick = if nat_eq index own then anchor ∷ [] else block_picks pack.items in
    let n = packs-length packs in
    let there : index < length led = omega (arith, led-length own anchor (packed_lists packs)) in
    subst (λ ls. IsChoice ls new) (sym (take_more led index [] there ∙ ap (λ (l : List Pick). take index led ++ l ∷ []) (led-pack own index anchor packs pack inside is)))
    (subst (IsChoice (take index led ++ list ∷ [])) (sym pushed) (choice-push (take index led) picks list pick was among))

-- a choice of all of them is one of the lists
pub led-taken : (packs : List (Vec Block Global)) (own index : ℕ) (anchor : Pick) (picks : List Pick) → length packs ≤ index → AreLeads (packed_lists packs) own (anchor ∷ []) → IsChoice (take index (led_by own anchor (packed_lists packs))) picks → IsChoice (packed_lists packs) picks
led-taken packs own index anchor picks long are was =
    let led : List (List Pick) = led_by own anchor (packed_lists packs) in
    let n = packs-length packs in
    let all : length led ≤ index = omega (arith, led-length own anchor (packed_lists packs)) in
    led-is own anchor (packed_lists packs) picks are.among.0 (subst (λ ls. IsChoice ls picks) (take_all index led all) was)

-- a lead among several is one by itself
pub one-lead : (lists : List (List Pick)) (own : ℕ) (leads : List Pick) (pick : Pick) → AreLeads lists own leads → Contains leads pick → AreLeads lists own (pick ∷ [])
one-lead lists own leads pick are c = record { inside = are.inside; among = (all-contained (Contains (get_or lists own [])) leads pick are.among c, tt) }

module _ (at : Viewpoint) (lists : List (List Pick)) (own : ℕ) (leads : List Lead) (index : ℕ) (lead : Lead) (inside : index < length leads) (is : lead ≡ get_or leads index lead) where
  -- one lead more
  lead-more : lead_picks (take (index + 1) leads) ≡ lead_picks (take index leads) ++ lead.pick ∷ []
  lead-more = ap lead_picks (take_more leads index lead inside ∙ ap (λ (l : Lead). take index leads ++ l ∷ []) (sym is)) ∙ map-append (λ (l : Lead). l.pick) (take index leads) (lead ∷ [])

  -- it is one of them
  pub lead-member : Contains leads lead
  lead-member = subst (Contains leads) (sym is) (Contains-get_or leads index lead inside)

  pub lead-pick-member : Contains (lead_picks leads) lead.pick
  lead-pick-member = contains-map (λ (l : Lead). l.pick) leads lead lead-member

  -- one that costs too much needn't be followed
  pub passed-dear : (old best : Chosen) → AreBounds at lists own leads → best.cost < lead.least → Follows at lists own (lead_picks (take index leads)) old best → Follows at lists own (lead_picks (take (index + 1) leads)) old best
  passed-dear old best bounds dear_one so_far =
      let bound : IsBound at lists own lead.least lead.pick = all-contained (λ (l : Lead). IsBound at lists own l.least l.pick) leads lead bounds lead-member in
      let one = dear-follows at lists own lead.pick best so_far.chosen (λ choice c. let low = bound choice c in omega arith) in
      subst (λ l. Follows at lists own l old best) (sym lead-more) (follows-then at lists own (lead_picks (take index leads)) (lead.pick ∷ []) old best best so_far one)

  -- nor one behind the last
  pub passed-behind : (last : Option Pick) (old best : Chosen) → IfSome last (Contains (lead_picks (take index leads))) → IsSomeAnd last (IsBehind lead.pick) → Follows at lists own (lead_picks (take index leads)) old best
      → Follows at lists own (lead_picks (take (index + 1) leads)) old best
  passed-behind last old best among behind so_far =
      subst (λ l. Follows at lists own l old best) (sym lead-more) (behind-follows at lists own (lead_picks (take index leads)) lead.pick last old best among behind so_far)

  -- and one that is followed
  pub followed-more : (old mid new : Chosen) → Follows at lists own (lead_picks (take index leads)) old mid → Follows at lists own (lead.pick ∷ []) mid new → Follows at lists own (lead_picks (take (index + 1) leads)) old new
  followed-more old mid new so_far one = subst (λ l. Follows at lists own l old new) (sym lead-more) (follows-then at lists own (lead_picks (take index leads)) (lead.pick ∷ []) old mid new so_far one)

  -- the last that was followed is still among them
  pub last-more : (last : Option Pick) → IfSome last (Contains (lead_picks (take index leads))) → IfSome last (Contains (lead_picks (take (index + 1) leads)))
  last-more last among = subst (λ l. IfSome last (Contains l)) (sym lead-more) (still-among last (lead_picks (take index leads)) (lead.pick ∷ []) among)

  -- or it is this one
  pub last-now : Contains (lead_picks (take (index + 1) leads)) lead.pick
  last-now = subst (λ l. Contains l lead.pick) (sym lead-more) (Contains-append_right (lead_picks (take index leads)) (lead.pick ∷ []) lead.pick (contains-here lead.pick []))

-- with all leads followed, the best choice is the best of all
pub leads-best : (at : Viewpoint) (lists : List (List Pick)) (own : ℕ) (leads : List Pick) (old mid new : Chosen) → own < length lists → ((pick : Pick) → Contains (get_or lists own []) pick → Contains leads pick) → AllByRecursion (Contains (get_or lists own [])) leads
    → IsBetter at lists old mid → Follows at lists own leads mid new → IsBest at lists old new
leads-best at lists own leads old mid new inside whole among better follows = record {
  chosen = follows.chosen;
  after = chained at mid.picks new.picks old.picks follows.after better.after;
  first = follows-all at lists own leads mid new inside better.chosen record { among = λ pick c. all-contained (Contains (get_or lists own [])) leads pick among c; whole = λ pick c _. whole pick c } follows;
}

-- the lists of a word more are cut
pub paired-pushed : (at : Viewpoint) (packs : List (Vec Block Global)) (own index most : ℕ) (anchor : Pick) (pack : Vec Block Global) (lists new : List (Vec Pick Global)) (picks : Vec Pick Global) → index < length packs → pack ≡ get_or packs index pack
    → new ≡ lists ++ picks ∷ [] → IsCut (IsPaired at anchor most) (if nat_eq index own then anchor ∷ [] else block_picks pack.items) picks.items
    → AreCut (IsPaired at anchor most) (take index (led_by own anchor (packed_lists packs))) (lists_in lists) → AreCut (IsPaired at anchor most) (take (index + 1) (led_by own anchor (packed_lists packs))) (lists_in new)
paired-pushed at packs own index most anchor pack lists new picks inside is pushed cut was =
    let counts : Pick → Type 0 = IsPaired at anchor most in
    let led : List (List Pick) = led_by own anchor (packed_lists packs) in
    let list : List Pick = if nat_eq index own then anchor ∷ [] else block_picks pack.items in
    let n = packs-length packs in
    let there : index < length led = omega (arith, led-length own anchor (packed_lists packs)) in
    subst (λ ls. AreCut counts ls (lists_in new)) (sym (take_more led index [] there ∙ ap (λ (l : List Pick). take index led ++ l ∷ []) (led-pack own index anchor packs pack inside is)))
    (subst (AreCut counts (take index led ++ list ∷ [])) (sym (ap lists_in pushed ∙ map-append (λ (l : Vec Pick Global). l.items) lists (picks ∷ [])))
    (cut-push counts (take index led) (lists_in lists) list picks.items was cut))

-- or a word has none
pub paired-none : (at : Viewpoint) (packs : List (Vec Block Global)) (own index most : ℕ) (anchor : Pick) (pack : Vec Block Global) (picks choice : List Pick) → index < length packs → pack ≡ get_or packs index pack → length picks ≡ 0
    → IsCut (IsPaired at anchor most) (if nat_eq index own then anchor ∷ [] else block_picks pack.items) picks → IsChoice (led_by own anchor (packed_lists packs)) choice → AllByRecursion (IsPaired at anchor most) choice → ⊥
paired-none at packs own index most anchor pack picks choice inside is none cut one all =
    let counts : Pick → Type 0 = IsPaired at anchor most in
    let led : List (List Pick) = led_by own anchor (packed_lists packs) in
    let list : List Pick = if nat_eq index own then anchor ∷ [] else block_picks pack.items in
    let n = packs-length packs in
    let there : index < length led = omega (arith, led-length own anchor (packed_lists packs)) in
    none-counted counts led choice (get_or led index []) (Contains-get_or led index [] there)
    (subst (λ (l : List Pick). IsCut counts l []) (sym (led-pack own index anchor packs pack inside is)) (subst (IsCut counts list) (no-items picks none) cut)) one all
  where
    no-items : (xs : List Pick) → length xs ≡ 0 → xs ≡ []
    no-items [] empty = refl
    no-items (x ∷ xs) empty = absurd (omega arith)

-- the lists of all words are cut
pub paired-all : (at : Viewpoint) (packs : List (Vec Block Global)) (own index most : ℕ) (anchor : Pick) (lists : List (List Pick)) → length packs ≤ index
    → AreCut (IsPaired at anchor most) (take index (led_by own anchor (packed_lists packs))) lists → AreCut (IsPaired at anchor most) (led_by own anchor (packed_lists packs)) lists
paired-all at packs own index most anchor lists long was =
    let led : List (List Pick) = led_by own anchor (packed_lists packs) in
    let n = packs-length packs in
    let all : length led ≤ index = omega (arith, led-length own anchor (packed_lists packs)) in
    subst (λ ls. AreCut (IsPaired at anchor most) ls lists) (take_all index led all) was

-- what holds of some picks holds of the leads that have them, in any order
pub sorted-all : (P : Pick → Type 0) (picks : List Pick) (old new : List Lead) → lead_picks old ≡ picks → IsPermutation old new → AllByRecursion P picks → AllByRecursion P (lead_picks new)
sorted-all P picks old new is moved all =
    map-all P (λ (lead : Lead). lead.pick) new (all_moved (λ (lead : Lead). P lead.pick) old new moved (all-map P (λ (lead : Lead). lead.pick) old (subst (AllByRecursion P) (sym is) all)))

-- a list's picks lead the packs of it
pub packed-leads : (lists mine : List (List Pick)) (own : ℕ) (picks : List Pick) → own < length lists → AreCut (λ pick. Unit {0}) lists mine → picks ≡ get_or lists own [] → AreLeads mine own picks
packed-leads lists mine own picks inside same is =
    let n = cut-length (λ pick. Unit {0}) lists mine same in
    let cut = cut-at (λ pick. Unit {0}) lists mine own same inside in
    record {
      inside = omega arith;
      among = all_weaker (Contains picks) (Contains (get_or mine own [])) (λ pick c. cut.whole pick (subst (λ (l : List Pick). Contains l pick) is c) tt) picks (all_in picks);
    }

-- and so do they in any order
pub sorted-leads : (mine : List (List Pick)) (own : ℕ) (picks : List Pick) (old new : List Lead) → lead_picks old ≡ picks → IsPermutation old new → AreLeads mine own picks → AreLeads mine own (lead_picks new)
sorted-leads mine own picks old new is moved are = record { inside = are.inside; among = sorted-all (Contains (get_or mine own [])) picks old new is moved are.among }

-- where all of them are followed, the best choice is the best of all
pub searched-best : (at : Viewpoint) (lists mine : List (List Pick)) (own : ℕ) (picks : List Pick) (likely sorted : List Lead) (best mid new : Chosen) → own < length lists → AreCut (λ pick. Unit {0}) lists mine → picks ≡ get_or lists own []
    → lead_picks likely ≡ picks → IsPermutation likely sorted → IsBetter at mine best mid → Follows at mine own (lead_picks sorted) mid new → IsBest at lists best new
searched-best at lists mine own picks likely sorted best mid new inside same is leads moved better follows =
    let n = cut-length (λ pick. Unit {0}) lists mine same in
    let cut = cut-at (λ pick. Unit {0}) lists mine own same inside in
    let are = sorted-leads mine own picks likely sorted leads moved (packed-leads lists mine own picks inside same is) in
    same-best at lists mine best new same
    (leads-best at mine own (lead_picks sorted) best mid new (omega arith)
    (λ pick c. moved-leads likely sorted pick moved (subst (λ (l : List Pick). Contains l pick) (sym is ∙ sym leads) (cut.among pick c))) are.among better follows)

-- the first of some that are there
pub some-of : {X : Type 0} (xs : List X) (n : ℕ) → n < length xs → X
some-of [] n inside = absurd (omega arith)
some-of (x ∷ xs) n inside = x
