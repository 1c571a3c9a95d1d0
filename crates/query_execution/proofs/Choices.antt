-- The choices of the tree's entries are those of the places that they stand for, in another order.
use Rattle.std.proofs.Common.{◌≡◌, ℕ, List, [], ◌∷◌, All, map, take, Option, sym, ap, subst, ◌∙◌}
use Rattle.std.specs.List.{AllByRecursion, Contains}
use Rattle.spatial_base.specs.Key.{Name}
use Rattle.spatial_base.specs.Point.{Viewpoint, seen_from}
use Rattle.place_values.specs.Members.{SameMembers, ranked_same}
use Rattle.best_first.specs.Lists.{flat_map_same}
use Rattle.best_first.specs.Lists.{all_in}
use Rattle.page_face.specs.FreeList.{PageMap}
use Rattle.place_values.specs.declared.query.Pick.{Pick}
use Rattle.place_values.specs.declared.query.Query.{Query}
use Rattle.place_values.specs.declared.query.Query.TheVariants.{Range, Inside, Nearest, Top, Rare, Group, Gather}
use Rattle.place_values.specs.declared.query.Chosen.{Chosen}
use Rattle.place_values.specs.declared.query.Answer.TheVariants as answers
use Rattle.place_values.specs.Answer.{answer_of}
use Rattle.place_values.specs.Group.{word_picks, picks_for, choices, choice_cost, head_by, least_by}
use Rattle.place_values.specs.GroupLaws.{choices_linear}
use Rattle.place_values.specs.Sum.{sum_cost}
use Rattle.place_values.specs.State.{Contents}
use Rattle.row_codec.specs.declared.stored.Stored.{Stored}
use Rattle.row_codec.specs.Stored.{held_pairs}
use Rattle.node_rows.specs.Impacts.{impact_in}
use Rattle.node_rows.specs.declared.roots.Tree.{Tree}
use Rattle.rtree_nodes.specs.Slots.{Item, NodeMap}
use Rattle.irtree_shape.specs.Whole.{tree_sum}
use Rattle.node_filter.specs.Entries.{tree_places}
use Rattle.node_filter.specs.Numbers.{Numbers}
use Rattle.best_first.specs.Fits.{nodes_at}
use Rattle.collective_query.specs.TreePicks.{pick_item, tree_picks, tree_choices}
use Rattle.collective_query.proofs.Agreements.{pick-agrees}
use Rattle.group_search.proofs.Products.{AreSame, product-same}
use Rattle.store_tables.specs.Coded.{IsPlaceEntry}
use Rattle.store_tables.specs.Entries.{Entries}
use Rattle.store_tables.specs.declared.tables.Tables.{Tables}
use Rattle.store_tables.specs.Words.{WordsAgree}
use Rattle.store_model.specs.Stands.{entry_sum, place_in, places_in}
use Rattle.query_execution.specs.Answers.{choice_by, IsChoice}
use Rattle.query_execution.specs.Asked.{AreKnown, asked_in}
use Rattle.query_execution.proofs.Kept.{AreKept}
use Rattle.query_execution.proofs.Members.{item_at, same-entries, given-same, impacts-agree}

-- the same choices have the same least one
least-same : (price : List Pick → ℕ) (choices others : List (List Pick)) → SameMembers choices others → least_by price others ≡ least_by price choices
least-same price choices others same = ap (λ in_order. head_by price (take 1 in_order)) (ranked_same (choices_linear price) choices others same)

module _ (ids : Numbers) (entries : Entries) (next_word : ℕ) (agree : WordsAgree entries next_word) (nodes : NodeMap) (root : ℕ)
    (are : (f : Item → ℕ) → tree_sum nodes root f ≡ entry_sum f entries.places) (each : All IsPlaceEntry entries.places) (at : Viewpoint) (words : List (List ℕ)) (known : AreKnown ids entries.texts words)
  where
    -- an entry gives to a word what its place gives
    pick-same : (word : List ℕ) → Contains words word → (e : Name × Stored) → IsPlaceEntry e → pick_item ids at word (item_at e) ≡ word_picks at word (e.0, place_in entries.numbers e.1)
    pick-same word among e is =
        pick-agrees ids (impact_in (held_pairs e.1)) e.0 (place_in entries.numbers e.1) is.0 is.1.0.point at word (impacts-agree ids entries next_word agree words known e is word among)

    -- so the picks of the places for a word are those of the entries
    picks-same : (word : List ℕ) → Contains words word → SameMembers (picks_for (places_in entries) at word) (tree_picks ids at nodes root word)
    picks-same word among =
        subst (λ (picks : List Pick). SameMembers picks (tree_picks ids at nodes root word))
        (given-same item_at (λ (e : Name × Stored). (e.0, place_in entries.numbers e.1)) (pick_item ids at word) (word_picks at word) IsPlaceEntry (pick-same word among) entries.places each)
        (flat_map_same (pick_item ids at word) (map item_at entries.places) (tree_places nodes root) (same-entries nodes root entries.places are))

    all-same : (some : List (List ℕ)) → AllByRecursion (Contains words) some → AreSame (map (picks_for (places_in entries) at) some) (map (tree_picks ids at nodes root) some)
    all-same [] among = tt
    all-same (word ∷ some) among = (picks-same word among.0, all-same some among.1)

    -- and the least choice of the entries is that of the places
    pub least-entries : (price : List Pick → ℕ) → least_by price (tree_choices ids at nodes root words) ≡ least_by price (choices (places_in entries) at words)
    least-entries price =
        least-same price (choices (places_in entries) at words) (tree_choices ids at nodes root words)
        (product-same (map (picks_for (places_in entries) at) words) (map (tree_picks ids at nodes root) words) (all-same words (all_in words)))

-- so it is over pages that keep the entries
pub kept-least : (pages : PageMap) (count first : ℕ) (tables : Tables) (tree : Tree) (state : Contents) → (kept : AreKept pages count first tables tree state)
    → (ids : Numbers) (at : Viewpoint) (words : List (List ℕ)) → AreKnown ids kept.entries.texts words
    → (price : List Pick → ℕ) → least_by price (tree_choices ids at (nodes_at pages tree) tree.root words) ≡ least_by price (choices state.places at words)
kept-least pages count first tables tree state kept ids at words known price =
    least-entries ids kept.entries tables.next_word kept.agree (nodes_at pages tree) tree.root kept.entries_are kept.holds.places.each at words known price
    ∙ ap (λ (s : Contents). least_by price (choices s.places at words)) (sym kept.is)

-- and so the choice of the tree's entries for a query is the answer to it
pub kept-choice : (pages : PageMap) (count first : ℕ) (tables : Tables) (tree : Tree) (state : Contents) → (kept : AreKept pages count first tables tree state)
    → (ids : Numbers) (query : Query) → AreKnown ids kept.entries.texts (asked_in query) → (chosen : Option Chosen) → chosen ≡ choice_by ids query (nodes_at pages tree) tree.root
    → IsChoice query (answer_of state query) chosen
kept-choice pages count first tables tree state kept ids (Group at scale words) known chosen is =
    ap answers.Group (sym (is ∙ kept-least pages count first tables tree state kept ids (seen_from at scale) words known (choice_cost (seen_from at scale))))
kept-choice pages count first tables tree state kept ids (Gather at scale words) known chosen is =
    ap answers.Group (sym (is ∙ kept-least pages count first tables tree state kept ids (seen_from at scale) words known sum_cost))
kept-choice pages count first tables tree state kept ids (Range at scale radius filter) known chosen is = is
kept-choice pages count first tables tree state kept ids (Inside rect filter) known chosen is = is
kept-choice pages count first tables tree state kept ids (Nearest at scale k filter) known chosen is = is
kept-choice pages count first tables tree state kept ids (Top at scale k alpha reach words) known chosen is = is
kept-choice pages count first tables tree state kept ids (Rare at scale k alpha reach words) known chosen is = is
