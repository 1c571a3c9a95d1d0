-- Where the picks of a choice are from.
use Rattle.std.proofs.Common.{◌≡◌, ℕ, ◌<◌, ◌++◌, ◌∙◌, ap, append_assoc, append-nil, Bool, true, false, ◌&&◌, nat_lt, nat_le, if◌then◌else◌, List, [], ◌∷◌, map, Vec, Option, Some, refl, sym, subst, arith, ⊎_elim}
use Rattle.std.proofs.lemmas.List.Elements.{Contains-append_left, Contains-append_right}
use Rattle.std.proofs.lemmas.List.Concat.{flat_map-append}
use Rattle.std.specs.Borrow.{Bor}
use Rattle.std.specs.List.{Contains, flat_map}
use Rattle.std.specs.declared.alloc.Global.{Global}
use Rattle.page_face.specs.FreeList.{PageMap}
use Rattle.btree_nodes.specs.Tree.{map_uses}
use Rattle.spatial_base.specs.Point.{Viewpoint, IsViewpoint, distance}
use Rattle.place_values.specs.First.{first}
use Rattle.place_values.specs.declared.hit.Hit.{Hit}
use Rattle.place_values.specs.declared.query.Expr.{Expr}
use Rattle.place_values.specs.declared.query.Expr.TheVariants.{Has}
use Rattle.place_values.specs.declared.query.Query.TheVariants as asked_for
use Rattle.place_values.specs.declared.query.Pick.{Pick}
use Rattle.place_values.specs.declared.query.Chosen.{Chosen}
use Rattle.place_values.specs.Group.{product, least_of}
use Rattle.place_values.specs.Hit.{comes_before}
use Rattle.place_values.specs.Search.{lists_in}
use Rattle.rtree_nodes.specs.Slots.{Item, NodeMap}
use Rattle.rtree_nodes.specs.Stock.{rows_form}
use Rattle.node_rows.specs.declared.roots.Tree.{Tree}
use Rattle.node_rows.specs.Rows.{bytes_in}
use Rattle.best_first.specs.Openings.{Opened}
use Rattle.node_filter.specs.Entries.{point_of, tree_places}
use Rattle.node_filter.specs.Hits.{hit_near, near_item, range_item}
use Rattle.node_filter.specs.Numbers.{Numbers, impact_of}
use Rattle.best_first.specs.declared.ask.Ask.TheVariants.{Nearest}
use Rattle.best_first.specs.Fits.{FitsTree, nodes_at}
use Rattle.best_first.specs.Harms.{IsNodePage}
use Rattle.best_first.specs.NodeOpenings.{StandsIn, opened_in, started_in}
use Rattle.boolean_queries.specs.Opens.{Fits, filter_in, opens_in, starts_at}
use Rattle.boolean_queries.specs.Regions.{circle}
use Rattle.boolean_queries.specs.Walked.{Walked}
use Rattle.boolean_queries.proofs.Histories.{all-contained}
use Rattle.boolean_queries.specs.Logs.{OpensFew}
use Rattle.boolean_queries.proofs.Searches.{nearest-few}
use Rattle.boolean_queries.proofs.OpenedWalks.{range-few}
use Rattle.best_first.specs.Lists.{all_in}
use Rattle.boolean_queries.proofs.Words.{few-fewer, few-then, few-made, nearest-calls, range-calls}
use Rattle.group_search.specs.Choices.{IsChoice}
use Rattle.collective_query.specs.Opened.{FindsPicks, given_to}
use Rattle.group_search.specs.Picks.{picks_of}
use Rattle.collective_query.specs.TreePicks.{pick_in, pick_item, pick_from}
use Rattle.group_search.proofs.Least.{least-among}
use Rattle.group_search.proofs.Members.{contains-none, contains-cases}
use Rattle.group_search.proofs.Products.{all-choices}

-- what is made where a test holds is made of what is given there
made-where : (test : Bool) (x : Item) (hit given : Hit) (make : Hit → Pick) (pick : Pick) → pick ≡ make given → Contains (if test then given ∷ [] else []) hit → Contains (if test then pick ∷ [] else []) (make hit)
made-where true x hit given make pick is c = ⊎_elim
    (λ (same : given ≡ hit). subst (λ (h : Hit). Contains (pick ∷ []) (make h)) same (subst (λ (p : Pick). Contains (p ∷ []) (make given)) (sym is) (0, omega arith, refl)))
    (λ (later : Contains [] hit). absurd (contains-none hit later))
    (contains-cases given [] hit c)
made-where false x hit given make pick is c = absurd (contains-none hit c)

module _ (ids : Numbers) (at centre : Viewpoint) (word : List ℕ) where
  -- the hit that a place gives to a word is its pick
  pub near-made : (x : Item) (hit : Hit) → Contains (near_item ids centre (Some (Has word)) x) hit → Contains (pick_item ids at word x) (pick_from at word hit)
  near-made x hit c = made-where (nat_lt 0 (impact_of ids x word)) x hit (hit_near centre x) (pick_from at word) (pick_in at word x) refl c

  pub range-made : (radius : ℕ) (x : Item) (hit : Hit) → Contains (range_item ids centre radius (Some (Has word)) x) hit → Contains (pick_item ids at word x) (pick_from at word hit)
  range-made radius x hit c = near-made x hit (in-range (nat_le (distance centre (point_of x)) radius) (nat_lt 0 (impact_of ids x word)) (hit_near centre x) c)
    where
      in-range : (near there : Bool) (given : Hit) → Contains (if near && there then given ∷ [] else []) hit → Contains (if there then given ∷ [] else []) hit
      in-range true there given c = c
      in-range false there given c = absurd (contains-none hit c)

-- the picks of a choice are in the lists
pub choice-picks : (lists : List (Vec Pick Global)) (choice : List Pick) → IsChoice (lists_in lists) choice → (pick : Pick) → Contains choice pick → Contains (picks_of lists) pick
choice-picks [] [] is pick c = absurd (contains-none pick c)
choice-picks [] (one ∷ others) is pick c = absurd is
choice-picks (list ∷ lists) [] is pick c = absurd is
choice-picks (list ∷ lists) (one ∷ others) is pick c = ⊎_elim
    (λ (same : one ≡ pick). Contains-append_left list.items (picks_of lists) pick (subst (Contains list.items) same is.0))
    (λ (later : Contains others pick). Contains-append_right list.items (picks_of lists) pick (choice-picks lists others is.1 pick later))
    (contains-cases one others pick c)

-- the least of one choice and of all choices of lists has its picks from these
pub least-picks : (at : Viewpoint) (lists : List (Vec Pick Global)) (old new : Chosen) → Some new ≡ least_of at (old.picks ∷ product (lists_in lists)) → (pick : Pick) → Contains new.picks pick → Contains (old.picks ++ picks_of lists) pick
least-picks at lists old new is pick c =
    let all : List (List Pick) = product (lists_in lists) in
    ⊎_elim
    (λ (same : old.picks ≡ new.picks). Contains-append_left old.picks (picks_of lists) pick (subst (λ (picks : List Pick). Contains picks pick) (sym same) c))
    (λ (late : Contains all new.picks). Contains-append_right old.picks (picks_of lists) pick (choice-picks lists new.picks (all-contained (IsChoice (lists_in lists)) all new.picks (all-choices (lists_in lists)) late) pick c))
    (contains-cases old.picks all new.picks (least-among at (old.picks ∷ all) new (sym is)))

-- a list more
picks-pushed : (lists pushed : List (Vec Pick Global)) (picks : Vec Pick Global) → pushed ≡ lists ++ picks ∷ [] → picks_of pushed ≡ picks_of lists ++ picks.items
picks-pushed lists pushed picks is = ap picks_of is ∙ flat_map-append (λ (list : Vec Pick Global). list.items) lists (picks ∷ []) ∙ ap (λ l. picks_of lists ++ l) (append-nil picks.items)

module _ (pages : PageMap) (tree : Tree) (ids : Numbers) (at : Viewpoint) (words : List (List ℕ)) where
  abbrev Finds : List ℕ → List ℕ → List Pick → Type 0
  Finds old new picks = FindsPicks pages tree ids at words old new picks

  abbrev beside : ℕ → Type 0
  beside page = 0 < map_uses rows_form pages tree.rows page

  -- fewer picks
  pub finds-fewer : (old new : List ℕ) (found some : List Pick) → ((pick : Pick) → Contains some pick → Contains found pick) → Finds old new found → Finds old new some
  finds-fewer old new found some among few = few-fewer ids words (nodes_at pages tree) tree.root beside (given_to ids at) old new found some among few (all_in some)

  -- one search after another
  pub finds-then : (old mid new : List ℕ) (found more : List Pick) → Finds old mid found → Finds mid new more → Finds old new (found ++ more)
  finds-then old mid new found more a b = few-then ids words (nodes_at pages tree) tree.root beside (given_to ids at) old mid new found more a b

  -- of which one finds a list more
  pub finds-pushed : (old mid new : List ℕ) (lists pushed : List (Vec Pick Global)) (picks : Vec Pick Global) → pushed ≡ lists ++ picks ∷ [] → Finds old mid (picks_of lists) → Finds mid new picks.items → Finds old new (picks_of pushed)
  finds-pushed old mid new lists pushed picks is a b = subst (Finds old new) (sym (picks-pushed lists pushed picks is)) (finds-then old mid new (picks_of lists) picks.items a b)

  pub finds-behind : (old new : List ℕ) (front : List Pick) (lists pushed : List (Vec Pick Global)) (picks : Vec Pick Global) → pushed ≡ lists ++ picks ∷ [] → Finds old new ((front ++ picks_of lists) ++ picks.items) → Finds old new (front ++ picks_of pushed)
  finds-behind old new front lists pushed picks is a = subst (Finds old new) (append_assoc front (picks_of lists) picks.items ∙ ap (λ l. front ++ l) (sym (picks-pushed lists pushed picks is))) a

module _ (pages : PageMap) (count begin : ℕ) (tree : Tree) (ids : Numbers) (at centre : Viewpoint) (words : List (List ℕ)) (word : List ℕ) (among : Contains words word) (fits : FitsTree pages count begin tree) (old new : List ℕ) (found : List Hit) where
  abbrev nodes : NodeMap
  nodes = nodes_at pages tree

  abbrev kind : ℕ → Type 0
  kind page = 0 < map_uses rows_form pages tree.rows page

  -- what the nearest places with a word say of the log
  pub nearest-finds : IsViewpoint centre → (lent : Bor Expr) → lent.now ≡ Has word → found ≡ first comes_before 5 (flat_map (near_item ids centre (filter_in (Some lent))) (tree_places nodes tree.root))
      → Opened StandsIn pages (IsNodePage pages tree.rows) (FitsTree pages count begin tree) (opened_in ids centre (Nearest (Some lent)) nodes) (started_in ids (Nearest (Some lent)) nodes (bytes_in pages tree.rows) tree.root) tree.root old new 5 found
      → FindsPicks pages tree ids at words old new (map (pick_from at word) found)
  nearest-finds on lent asks is opened =
      let few = nearest-few pages count begin tree ids centre 5 found old new (Some lent) on fits (omega arith) is opened in
      few-made ids words nodes tree.root kind (given_to ids at) (asked_for.Nearest centre.point centre.scale 5 (Some (Has word))) (nearest-calls ids words nodes tree.root word among centre 5) (near_item ids centre (Some (Has word))) (pick_from at word) (near-made ids at centre word) old new found
      (subst (λ (filter : Expr). OpensFew kind (near_item ids centre (Some filter)) ids (asked_for.Nearest centre.point centre.scale 5 (Some filter)) nodes tree.root old new found) asks few)

  -- and those in a circle
  pub range-finds : (radius : ℕ) (filter : Option Expr) → filter ≡ Some (Has word) → (tree.root ≡ 0 → new ≡ old)
      → Walked (circle centre radius) pages (map_uses rows_form pages tree.rows) (Fits pages tree.rows count begin tree.root) (opens_in (circle centre radius) ids filter nodes) (starts_at nodes tree.root) tree.root old new found
      → FindsPicks pages tree ids at words old new (map (pick_from at word) found)
  range-finds radius filter asks empty walked =
      let few = range-few pages tree.rows count begin tree.root ids filter (fits.0, fits.1) found old new empty centre radius walked in
      few-made ids words nodes tree.root kind (given_to ids at) (asked_for.Range centre.point centre.scale radius (Some (Has word))) (range-calls ids words nodes tree.root word among centre radius) (range_item ids centre radius (Some (Has word))) (pick_from at word) (range-made ids at centre word radius) old new found
      (subst (λ (f : Option Expr). OpensFew kind (range_item ids centre radius f) ids (asked_for.Range centre.point centre.scale radius f) nodes tree.root old new found) asks few)
