-- The tree's entries give to a query what the places give that they stand for.
use Rattle.std.proofs.Common.{◌≡◌, ℕ, List, [], ◌∷◌, ◌++◌, All, map, take, refl, sym, ap, subst, ◌∙◌}
use Rattle.std.proofs.lemmas.List.Elements.{All-head, All-tail}
use Rattle.std.specs.List.{flat_map}
use Rattle.spatial_base.specs.Key.{Name, form_of}
use Rattle.term_impacts.specs.Pairs as texts
use Rattle.spatial_base.specs.Point.{seen_from}
use Rattle.place_values.specs.First.{ranked, first}
use Rattle.place_values.specs.Members.{SameMembers, ranked_same}
use Rattle.best_first.specs.Lists.{flat_map_same}
use Rattle.place_values.specs.declared.hit.Hit.{Hit}
use Rattle.place_values.specs.declared.query.Query.{Query}
use Rattle.place_values.specs.declared.query.Query.TheVariants.{Range, Inside, Nearest, Top, Rare, Group, Gather}
use Rattle.place_values.specs.declared.query.Answer.TheVariants as answers
use Rattle.place_values.specs.Answer.{answer_of, asked_of, hits_of}
use Rattle.place_values.specs.Hit.{comes_before, hits_linear}
use Rattle.place_values.specs.Rarity.{weighed_by_rarity}
use Rattle.place_values.specs.RarityLaws.{words_weighed}
use Rattle.place_values.specs.State.{Contents}
use Rattle.row_codec.specs.declared.stored.Stored.{Stored}
use Rattle.row_codec.specs.Stored.{held_pairs}
use Rattle.node_rows.specs.Impacts.{impact_in}
use Rattle.node_rows.specs.declared.roots.Tree.{Tree}
use Rattle.page_face.specs.FreeList.{PageMap}
use Rattle.rtree_nodes.specs.Slots.{Item, NodeMap}
use Rattle.rtree_nodes.specs.Pages.{node_of}
use Rattle.rtree_nodes.specs.Reach.{place_item}
use Rattle.irtree_shape.specs.Made.{nodes_in}
use Rattle.irtree_shape.specs.Whole.{tree_sum}
use Rattle.node_filter.specs.Entries.{tree_places}
use Rattle.node_filter.specs.Numbers.{Numbers, by_number, impact_of}
use Rattle.node_filter.proofs.Agreements.{worded-impact, near-agrees, range-agrees, box-agrees, top-agrees}
use Rattle.node_filter.proofs.Places.{tree-sum}
use Rattle.store_tables.specs.Coded.{IsPlaceEntry}
use Rattle.store_tables.specs.Entries.{Entries}
use Rattle.store_tables.specs.declared.tables.Tables.{Tables}
use Rattle.store_tables.specs.Words.{WordsAgree, holders, words_of_place}
use Rattle.irtree_shape.specs.Entries.{entry_at}
use Rattle.store_model.specs.Stands.{entry_sum, place_in, places_in, state_in}
use Rattle.query_execution.specs.Asked.{AreKnown, asked_in}
use Rattle.query_execution.specs.Answers.{cut_by, hits_by, IsAnswer}
use Rattle.query_execution.proofs.Kept.{AreKept}
use Rattle.query_execution.proofs.Impacts.{word-impact}
use Rattle.query_execution.proofs.Words.{AgreeAmong, agree-by, agree-weighed}
use Rattle.group_search.proofs.Products.{weight-mapped}

-- the item of an entry of the place table
abbrev pub item_at : Name × Stored → Item
item_at e = entry_at e.0 e.1

-- a tree's entries are the places' where all sums over them are
pub same-entries : (nodes : NodeMap) (root : ℕ) (places : List (Name × Stored)) → ((f : Item → ℕ) → tree_sum nodes root f ≡ entry_sum f places)
    → SameMembers (map item_at places) (tree_places nodes root)
same-entries nodes root places are f = sym (tree-sum nodes f root) ∙ are f ∙ sym (weight-mapped f item_at places)

-- what each member gives the one way it gives the other way
pub given-same : {X Y Z A : Type 0} (p : X → Y) (q : X → Z) (g : Y → List A) (h : Z → List A) (P : X → Type 0) → ((x : X) → P x → g (p x) ≡ h (q x))
    → (xs : List X) → All P xs → flat_map g (map p xs) ≡ flat_map h (map q xs)
given-same p q g h P same [] all = refl
given-same p q g h P same (x ∷ xs) all = λ i. same x (All-head P x xs all) i ++ given-same p q g h P same xs (All-tail P x xs all) i

-- entries that give nothing have no hits
pub no-hits : (xs : List Item) → ranked comes_before (flat_map (λ x. []) xs) ≡ []
no-hits [] = refl
no-hits (x ∷ xs) = no-hits xs

module _ (ids : Numbers) (entries : Entries) (next_word : ℕ) (agree : WordsAgree entries next_word) where
  -- the impacts of an entry's words by number are those of its place by text
  pub impacts-agree : (words : List (List ℕ)) → AreKnown ids entries.texts words → (e : Name × Stored) → IsPlaceEntry e
      → AgreeAmong (impact_of ids (item_at e)) (texts.impact_in (words_of_place entries.numbers e.1)) words
  impacts-agree words known e is word among =
      worded-impact ids (impact_in (held_pairs e.1)) (place_item e.1.point (form_of e.0)) word
      ∙ ap (by_number (impact_in (held_pairs e.1))) (known word among)
      ∙ word-impact (λ number. holders number entries.places) entries.texts entries.numbers next_word agree word e.1 is.1.1

  -- an entry gives to a query what its place gives
  gives-same : (query : Query) → AreKnown ids entries.texts (asked_in query) → (e : Name × Stored) → IsPlaceEntry e → hits_by ids query (item_at e) ≡ hits_of query (e.0, place_in entries.numbers e.1)
  gives-same (Range at scale radius filter) known e is =
      range-agrees ids (impact_in (held_pairs e.1)) e.0 (place_in entries.numbers e.1) is.0 is.1.0.point (seen_from at scale) radius filter
      (agree-by (impact_of ids (item_at e)) (texts.impact_in (words_of_place entries.numbers e.1)) filter (impacts-agree _ known e is))
  gives-same (Inside rect filter) known e is =
      box-agrees ids (impact_in (held_pairs e.1)) e.0 (place_in entries.numbers e.1) is.0 is.1.0.point rect filter
      (agree-by (impact_of ids (item_at e)) (texts.impact_in (words_of_place entries.numbers e.1)) filter (impacts-agree _ known e is))
  gives-same (Nearest at scale k filter) known e is =
      near-agrees ids (impact_in (held_pairs e.1)) e.0 (place_in entries.numbers e.1) is.0 is.1.0.point (seen_from at scale) filter
      (agree-by (impact_of ids (item_at e)) (texts.impact_in (words_of_place entries.numbers e.1)) filter (impacts-agree _ known e is))
  gives-same (Top at scale k alpha reach words) known e is =
      top-agrees ids (impact_in (held_pairs e.1)) e.0 (place_in entries.numbers e.1) is.0 is.1.0.point (seen_from at scale) alpha reach words
      (agree-weighed (impact_of ids (item_at e)) (texts.impact_in (words_of_place entries.numbers e.1)) words (impacts-agree _ known e is))
  gives-same (Rare at scale k alpha reach words) known e is = refl
  gives-same (Group at scale words) known e is = refl
  gives-same (Gather at scale words) known e is = refl

  -- so the tree's entries, ranked, are the places, ranked
  ranked-same : (nodes : NodeMap) (root : ℕ) → ((f : Item → ℕ) → tree_sum nodes root f ≡ entry_sum f entries.places) → All IsPlaceEntry entries.places
      → (query : Query) → AreKnown ids entries.texts (asked_in query) → ranked comes_before (flat_map (hits_by ids query) (tree_places nodes root)) ≡ ranked comes_before (flat_map (hits_of query) (places_in entries))
  ranked-same nodes root are each query known =
      ranked_same hits_linear (flat_map (hits_by ids query) (map item_at entries.places)) (flat_map (hits_by ids query) (tree_places nodes root)) (flat_map_same (hits_by ids query) (map item_at entries.places) (tree_places nodes root) (same-entries nodes root entries.places are))
      ∙ ap (ranked comes_before) (given-same item_at (λ (e : Name × Stored). (e.0, place_in entries.numbers e.1)) (hits_by ids query) (hits_of query) IsPlaceEntry (gives-same query known) entries.places each)

  -- and the hits of the tree's entries to the query as it is asked of the places are the answer to it over these
  pub hits-answer : (nodes : NodeMap) (root serial number : ℕ) → ((f : Item → ℕ) → tree_sum nodes root f ≡ entry_sum f entries.places) → All IsPlaceEntry entries.places
      → (query : Query) → AreKnown ids entries.texts (asked_in query)
      → IsAnswer query (answer_of (state_in entries serial number) query) (cut_by (asked_of (state_in entries serial number) query) (flat_map (hits_by ids (asked_of (state_in entries serial number) query)) (tree_places nodes root)))
  hits-answer nodes root serial number are each (Range at scale radius filter) known = ap answers.Hits (sym (ranked-same nodes root are each (Range at scale radius filter) known))
  hits-answer nodes root serial number are each (Inside rect filter) known = ap answers.Hits (sym (ranked-same nodes root are each (Inside rect filter) known))
  hits-answer nodes root serial number are each (Nearest at scale k filter) known = ap (λ hits. answers.Hits (take k hits)) (sym (ranked-same nodes root are each (Nearest at scale k filter) known))
  hits-answer nodes root serial number are each (Top at scale k alpha reach words) known = ap (λ hits. answers.Hits (take k hits)) (sym (ranked-same nodes root are each (Top at scale k alpha reach words) known))
  hits-answer nodes root serial number are each (Rare at scale k alpha reach words) known =
      ap (λ hits. answers.Hits (take k hits))
      (sym (ranked-same nodes root are each (Top at scale k alpha reach (weighed_by_rarity (places_in entries) words)) (subst (AreKnown ids entries.texts) (sym (words_weighed (places_in entries) words)) known)))
  hits-answer nodes root serial number are each (Group at scale words) known = no-hits (tree_places nodes root)
  hits-answer nodes root serial number are each (Gather at scale words) known = no-hits (tree_places nodes root)

-- so it is over pages that keep the entries
pub kept-answer : (pages : PageMap) (count first : ℕ) (tables : Tables) (tree : Tree) (state : Contents) → (kept : AreKept pages count first tables tree state)
    → (ids : Numbers) (query asked : Query) → AreKnown ids kept.entries.texts (asked_in query) → asked ≡ asked_of (state_in kept.entries kept.serial kept.number) query
    → (hits : List Hit) → hits ≡ cut_by asked (flat_map (hits_by ids asked) (tree_places (nodes_in node_of pages tree.rows) tree.root))
    → IsAnswer query (answer_of state query) hits
kept-answer pages count first tables tree state kept ids query asked known is hits are =
    let entries = kept.entries in
    let nodes = nodes_in node_of pages tree.rows in
    let same : hits ≡ cut_by (asked_of (state_in entries kept.serial kept.number) query) (flat_map (hits_by ids (asked_of (state_in entries kept.serial kept.number) query)) (tree_places nodes tree.root)) =
    are ∙ ap (λ (q : Query). cut_by q (flat_map (hits_by ids q) (tree_places nodes tree.root))) is in
    subst (IsAnswer query (answer_of state query)) (sym same)
    (subst (λ (s : Contents). IsAnswer query (answer_of s query) (cut_by (asked_of (state_in entries kept.serial kept.number) query) (flat_map (hits_by ids (asked_of (state_in entries kept.serial kept.number) query)) (tree_places nodes tree.root)))) (sym kept.is)
    (hits-answer ids entries tables.next_word kept.agree nodes tree.root kept.serial kept.number kept.entries_are kept.holds.places.each query known))
