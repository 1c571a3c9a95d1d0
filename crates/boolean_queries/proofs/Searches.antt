-- A best-first search opens only nodes that its query calls for.
use Rattle.std.proofs.Common.{◌≡◌, ℕ, zero, suc, ◌+◌, ◌<◌, ◌≤◌, Bool, true, false, ◌||◌, if◌then◌else◌, List, [], ◌∷◌, ◌++◌, length, Option, Some, None, refl, sym, ap, subst, ◌∙◌, arith, ◌⊎◌, inl, inr, ⊎_elim}
use Rattle.std.specs.Prelude.{option_map}
use Rattle.std.specs.Borrow.{Bor}
use Rattle.std.specs.List.{AllByRecursion, Contains, flat_map}
use Rattle.std.proofs.lemmas.Bool.{cases_Bool}
use Rattle.page_face.specs.FreeList.{PageMap}
use Rattle.btree_nodes.specs.Tree.{map_uses}
use Rattle.spatial_base.specs.Point.{Viewpoint, IsViewpoint}
use Rattle.place_values.specs.First.{first}
use Rattle.place_values.specs.declared.hit.Hit.{Hit}
use Rattle.place_values.specs.declared.query.Expr.{Expr}
use Rattle.place_values.specs.declared.query.Query as queries
use Rattle.place_values.specs.declared.query.Query.TheVariants as asked_for
use Rattle.place_values.specs.Hit.{comes_before}
use Rattle.place_values.specs.Top.{Weighted}
use Rattle.rtree_nodes.specs.Slots.{Item, NodeMap, got}
use Rattle.rtree_nodes.specs.Stock.{rows_form}
use Rattle.rtree_nodes.specs.Trees.{root_least, reach_of}
use Rattle.rtree_nodes.proofs.Heights.{tops-at, none_or}
use Rattle.rtree_nodes.specs.Pages.{node_of}
use Rattle.rtree_nodes.specs.Subtrees.{IsNodeAt}
use Rattle.node_rows.specs.declared.roots.Tree.{Tree}
use Rattle.node_rows.specs.Rows.{bytes_in}
use Rattle.irtree_shape.specs.Words.{joined_item}
use Rattle.irtree_shape.specs.Whole.{IsWell, level_at}
use Rattle.irtree_shape.proofs.Relinks.{word-reach}
use Rattle.best_first.specs.declared.item.Item as best
use Rattle.best_first.specs.declared.item.Item.TheVariants.{Node, Place}
use Rattle.best_first.specs.Items.{pages_of}
use Rattle.best_first.specs.Openings.{Opening, pages_opened, IsFromLeaf, Opened, last_cost}
use Rattle.best_first.specs.Lists.{all_in, all_weaker, all_append}
use Rattle.best_first.proofs.Firsts.{kept_short}
use Rattle.node_filter.specs.Entries.{tree_places, node_places}
use Rattle.node_filter.specs.Hits.{near_item, top_item}
use Rattle.node_filter.specs.Numbers.{Numbers, number_of, by_number, impact_of, byte_of}
use Rattle.best_first.specs.declared.ask.Ask.{Ask}
use Rattle.best_first.specs.declared.ask.Ask.TheVariants.{Nearest, Top}
use Rattle.best_first.specs.Asks.{qualifies, hit_by, hits_for, bound_by, IsTopFor}
use Rattle.best_first.specs.Belows.{all-spread}
use Rattle.best_first.specs.Fits.{FitsTree, nodes_at}
use Rattle.best_first.specs.Harms.{IsNodePage}
use Rattle.best_first.specs.Laws.{top-hits}
use Rattle.best_first.specs.NodeOpenings.{given_by, given_at, some_below, first_in, opened_in, started_in, StandsIn}
use Rattle.boolean_queries.specs.Opens.{filter_in}
use Rattle.boolean_queries.proofs.Covers.{IsPlace, leaf-places}
use Rattle.boolean_queries.proofs.Subtrees.{well-node, well-level}
use Rattle.boolean_queries.specs.BoundingItems.{reaching, bounding_item, bounding_item_at}
use Rattle.boolean_queries.specs.Logs.{IsUpToLast, CallsFor, IsOpened, IsFromAsked, OpensFew}
use Rattle.boolean_queries.proofs.OpenedLists.{all-both, all-pages, asked-in, up-to-last}
use Rattle.boolean_queries.proofs.Histories.{all-contained as of-member}
use Rattle.boolean_queries.proofs.BoundingItems.{node-farthest}
use Rattle.boolean_queries.proofs.Belows.{places-are, place-some}
use Rattle.boolean_queries.proofs.Chains.{Gives, IsReached, AreReached, all-reached, root-reached, opened-from, found-from, opened-reach}
use Rattle.boolean_queries.proofs.Rankings.{IsPlain, IsCalled, qualifies-rises, qualifies-level, all-if, root-up, fewer-up}

-- one of the first n meets the test
some-below : (n : ℕ) (test : ℕ → Bool) → some_below n test ≡ true → (i : ℕ) × (i < n) × (test i ≡ true)
unfolding some_below
some-below zero test h = absurd (cc)
some-below (suc n) test h = ⊎_elim
    (λ (t : test n ≡ true). (n, omega arith, t))
    (λ (f : test n ≡ false). let r = some-below n test (sym (ap (λ (b : Bool). b || some_below n test) f) ∙ h) in (r.0, omega arith, r.2))
    (cases_Bool (test n))

-- the byte of a word at a slot is no more than the slot reaches to the word
byte-under : (b : ℕ → ℕ → ℕ) (i n : ℕ) (o : Option Item) → (o ≡ None → b n i ≡ 0) → b n i ≤ got (reach_of (4 + n)) (option_map (joined_item b i) o)
byte-under b i n None blank = let z = blank refl in omega arith
byte-under b i n (Some x) blank = let e = word-reach b i n x in omega arith

same-or : (n k : ℕ) → n ≤ k → (n ≡ k) ⊎ (n < k)
same-or n k l = grind arith

module _ (ids : Numbers) (at : Viewpoint) (ask : Ask) where
  -- a child is let through where a place below it may be an answer, and given with its bound
  abbrev pub LetsThrough : Item → ℕ → Type 0
  LetsThrough x bound = (qualifies ask 1 (impact_of ids x) ≡ true) × (bound ≡ bound_by at ask (impact_of ids x) x)

  -- it depends on how far the item reaches alone
  let-reach : (x y : Item) (bound : ℕ) → x.reach ≡ y.reach → LetsThrough x bound → LetsThrough y bound
  let-reach x y bound e h = subst (λ (r : ℕ → ℕ). LetsThrough (reaching r) bound) e h

  module _ (nodes : NodeMap) (root : ℕ) (Starts : Type 0) where
    slot-gives : (page level i : ℕ) → i < 32 → (o : Option Item) → (nodes page).slots i ≡ o
        → AllByRecursion (Gives nodes root Starts LetsThrough (hits_for ids at ask) page level) (given_at (λ x. given_by at ask level (impact_of ids x) x) o)
    slot-gives page level i l None e = tt
    slot-gives page zero i l (Some x) e =
        let hit : Hit = hit_by at ask (impact_of ids x) x in
        all-if (Gives nodes root Starts LetsThrough (hits_for ids at ask) page 0) (qualifies ask 0 (impact_of ids x)) (Place hit)
        (λ t. record { leaf = refl; at = i; within = l; item = x; is = e; gave = subst (λ (b : Bool). Contains (if b then hit ∷ [] else []) hit) (sym t) (all_in (hit ∷ [])).0 })
    slot-gives page (suc level) i l (Some x) e =
        all-if (Gives nodes root Starts LetsThrough (hits_for ids at ask) page (suc level)) (qualifies ask (suc level) (impact_of ids x)) (Node x.to level (bound_by at ask (impact_of ids x) x))
        (λ t. record { up = refl; at = i; within = l; item = x; is = e; to_is = refl; admitted = (sym (qualifies-level ask level (impact_of ids x)) ∙ t, refl) })

    -- what opening a node gives
    opens-give : (page level : ℕ) → AllByRecursion (Gives nodes root Starts LetsThrough (hits_for ids at ask) page level) (opened_in ids at ask nodes page level)
    opens-give page level =
        all-spread (Gives nodes root Starts LetsThrough (hits_for ids at ask) page level) 32 (λ i. given_at (λ x. given_by at ask level (impact_of ids x) x) ((nodes page).slots i))
        (λ i l. slot-gives page level i l ((nodes page).slots i) refl)

-- what holds of what a search starts with, and of its page
start-all : (P : best.Item → Type 0) (Q : ℕ → Type 0) (b : Bool) (root level : ℕ) → (0 < root → b ≡ true → P (Node root level 0) × Q root) → AllByRecursion P (first_in b root level) × AllByRecursion Q (pages_of (first_in b root level))
start-all P Q b zero level h = (tt, tt)
start-all P Q true (suc m) level h = let r = h (omega arith) refl in ((r.0, tt), (r.1, tt))
start-all P Q false (suc m) level h = (tt, tt)

-- what goes round the places below a root that isn't 0 goes round all places of the tree
root-places : (nodes : NodeMap) (root : ℕ) → 0 < root → node_places nodes (nodes root).level root ≡ tree_places nodes root
root-places nodes zero some = absurd (omega arith)
root-places nodes (suc m) some = refl

module _ (pages : PageMap) (count begin : ℕ) (tree : Tree) (ids : Numbers) (at : Viewpoint) (ask : Ask) (on : IsViewpoint at) (fits : FitsTree pages count begin tree) where
  abbrev nodes : NodeMap
  nodes = nodes_at pages tree

  -- there is a root, and one of the places below it may be an answer
  abbrev MayStart : Type 0
  MayStart = (0 < tree.root) × (qualifies ask 1 (impact_of ids (bounding_item_at nodes tree.root)) ≡ true)

  abbrev Reached : List Opening → ℕ → ℕ → ℕ → Type 0
  Reached openings page level bound = IsReached nodes tree.root MayStart (LetsThrough ids at ask) (hits_for ids at ask) openings page level bound

  byte-number : (i : ℕ) (o : Option ℕ) → i < 32 → IsNodeAt nodes (nodes tree.root).level tree.root → by_number (λ n. bytes_in pages tree.rows tree.root n i) o ≤ by_number (λ n. (bounding_item_at nodes tree.root).reach (4 + n)) o
  byte-number i None l node = omega arith
  byte-number i (Some n) l node =
      let a = byte-under (bytes_in pages tree.rows tree.root) i n ((node_of (pages tree.root)).slots i) (fits.1.blank tree.root n i) in
      let b = tops-at (4 + n) (nodes tree.root).slots i l in
      let c = node-farthest nodes (4 + n) (nodes tree.root).level tree.root node in
      omega arith

  -- a search starts with the root only where a place may be an answer
  may-start : 0 < tree.root → some_below 32 (λ i. qualifies ask 1 (byte_of ids (bytes_in pages tree.rows tree.root) i)) ≡ true → MayStart
  may-start there some =
      let one = some-below 32 (λ i. qualifies ask 1 (byte_of ids (bytes_in pages tree.rows tree.root) i)) some in
      let node = subst (λ (l : ℕ). IsNodeAt nodes l tree.root) (sym (well-level nodes tree.root there)) (well-node nodes tree.root there fits.1.tree) in (
        there,
        qualifies-rises ask (byte_of ids (bytes_in pages tree.rows tree.root) one.0) (impact_of ids (bounding_item_at nodes tree.root)) (λ word. byte-number one.0 (number_of ids word) one.1 node) one.2,
      )

  all-places : AllByRecursion IsPlace (tree_places nodes tree.root)
  all-places = by_root tree.root fits.1.tree
    where
      by_root : (root : ℕ) → IsWell nodes root → AllByRecursion IsPlace (tree_places nodes root)
      by_root zero well = tt
      by_root (suc m) well = places-are nodes (leaf-places pages tree.rows) (level_at nodes (suc m)) (root_least (level_at nodes (suc m))) (suc m) well

  -- one of the places below a node that is reached may be an answer
  called-may : (openings : List Opening) (page level bound : ℕ) → Reached openings page level bound → qualifies ask 1 (impact_of ids (bounding_item_at nodes page)) ≡ true
  called-may openings page level bound r = ⊎_elim
      (λ (e : (page ≡ tree.root) × MayStart). subst (λ (p : ℕ). qualifies ask 1 (impact_of ids (bounding_item_at nodes p)) ≡ true) (sym e.0) e.1.1)
      (λ f. (let-reach ids at ask f.gave.item (bounding_item_at nodes page) bound (opened-reach nodes tree.root MayStart (LetsThrough ids at ask) (hits_for ids at ask) openings page level bound f) f.gave.admitted).0)
      r.from

  module _ (k : ℕ) (found : List Hit) (query : queries.Query)
      (called : (openings : List Opening) (page level bound : ℕ) → Reached openings page level bound → (length found ≡ k → bound ≤ last_cost found) → (is_root : Type 0) → CallsFor ids query found is_root (bounding_item_at nodes page)) (old new : List ℕ) where
    -- what a search that opens only nodes that a query calls for says of its log
    pub search-by : Opened StandsIn pages (IsNodePage pages tree.rows) (FitsTree pages count begin tree) (opened_in ids at ask nodes) (started_in ids ask nodes (bytes_in pages tree.rows) tree.root) tree.root old new k found
        → OpensFew (λ page. 0 < map_uses rows_form pages tree.rows page) (hits_for ids at ask) ids query nodes tree.root old new found
    search-by o =
        let t = o.told in
        let openings : List Opening = t.openings in
        let l = t.log_given fits in
        let asked : List ℕ = l.more in
        let Is : ℕ → Type 0 = IsOpened ids query nodes tree.root asked found in
        let read : AllByRecursion (λ (p : Opening). Contains asked p.page) openings = all_weaker _ (λ (p : Opening). Contains asked p.page) (λ p since. asked-in old new asked p.page l.log since) openings t.read in
        let starting = start-all (AreReached nodes tree.root MayStart (LetsThrough ids at ask) (hits_for ids at ask) []) Is (some_below 32 (λ i. qualifies ask 1 (byte_of ids (bytes_in pages tree.rows tree.root) i))) tree.root (level_at nodes tree.root)
        (λ there may.
        let r = root-reached nodes tree.root MayStart (LetsThrough ids at ask) (hits_for ids at ask) 0 there fits.1.tree (may-start there may) in
        (r, opened-from nodes tree.root MayStart (LetsThrough ids at ask) (hits_for ids at ask) [] asked tt ids query found tree.root (level_at nodes tree.root) 0 r (called [] tree.root (level_at nodes tree.root) 0 r (λ all. omega arith) _))) in
        let begun : AllByRecursion (AreReached nodes tree.root MayStart (LetsThrough ids at ask) (hits_for ids at ask) []) t.start = subst (AllByRecursion (AreReached nodes tree.root MayStart (LetsThrough ids at ask) (hits_for ids at ask) [])) (sym (t.begun fits)) starting.0 in
        let reached = (all-reached nodes tree.root MayStart (LetsThrough ids at ask) (hits_for ids at ask) (opened_in ids at ask nodes) (opens-give ids at ask nodes tree.root MayStart) t.start begun openings t.trail (t.gave fits)).1 in
        let opened : AllByRecursion (λ (p : Opening). Is p.page) openings = all_weaker (λ (p : Opening). Contains openings p × Reached openings p.page p.level p.bound) (λ (p : Opening). Is p.page)
        (λ p h. opened-from nodes tree.root MayStart (LetsThrough ids at ask) (hits_for ids at ask) openings asked read ids query found p.page p.level p.bound h.1
        (called openings p.page p.level p.bound h.1 (λ all. of-member (λ (q : Opening). q.bound ≤ last_cost found) openings p (o.few fits all) h.0) _))
        openings (all-both (Contains openings) (λ (p : Opening). Reached openings p.page p.level p.bound) openings (all_in openings) reached) in
        let each : AllByRecursion Is (pages_of t.start ++ pages_opened openings) =
        all_append Is (pages_of t.start) (pages_opened openings) (subst (λ (items : List best.Item). AllByRecursion Is (pages_of items)) (sym (t.begun fits)) starting.1) (all-pages Is openings opened) in
        record {
          asked = asked;
          log = l.log;
          each = all_weaker _ (λ page. (0 < map_uses rows_form pages tree.rows page) ⊎ Is page)
              (λ page h. ⊎_elim (λ (none : map_uses rows_form pages tree.rows page ≡ 0). inr (of-member Is (pages_of t.start ++ pages_opened openings) page each (h none))) (λ used. inl used) (none_or (map_uses rows_form pages tree.rows page)))
              asked l.alone;
          from = all_weaker (IsFromLeaf openings) (IsFromAsked nodes asked (hits_for ids at ask))
              (λ hit leaf. found-from nodes tree.root MayStart (LetsThrough ids at ask) (hits_for ids at ask) openings asked read (opened_in ids at ask nodes) (opens-give ids at ask nodes tree.root MayStart) (t.gave fits)
              (λ p c. (of-member (λ (q : Opening). Reached openings q.page q.level q.bound) openings p reached c).node.level_is) hit leaf)
              found t.from_leaf;
        }

  module _ (k : ℕ) (found : List Hit) (some : 0 < k) (is : found ≡ first comes_before k (flat_map (hits_for ids at ask) (tree_places nodes tree.root))) where
    abbrev Calls : Item → Type 0
    Calls round = IsCalled ids at ask k found round

    called-full : (openings : List Opening) (page level bound : ℕ) → Reached openings page level bound → bound ≤ last_cost found → 0 < length found
        → IsUpToLast (bound_by at ask (impact_of ids (bounding_item_at nodes page)) (bounding_item_at nodes page)) found
    called-full openings page level bound r low any = ⊎_elim
        (λ (e : (page ≡ tree.root) × MayStart).
        subst (λ (p : ℕ). IsUpToLast (bound_by at ask (impact_of ids (bounding_item_at nodes p)) (bounding_item_at nodes p)) found) (sym e.0)
        (subst (λ (l : List Item). IsUpToLast (bound_by at ask (impact_of ids (bounding_item l)) (bounding_item l)) found) (sym (root-places nodes tree.root e.1.0))
        (root-up ids at ask on k (tree_places nodes tree.root) found is all-places any)))
        (λ f.
        let through : LetsThrough ids at ask (bounding_item_at nodes page) bound =
        let-reach ids at ask f.gave.item (bounding_item_at nodes page) bound (opened-reach nodes tree.root MayStart (LetsThrough ids at ask) (hits_for ids at ask) openings page level bound f) f.gave.admitted in
        subst (λ (b : ℕ). IsUpToLast b found) through.1 (up-to-last bound found any low))
        r.from

    called-plain : (openings : List Opening) (page level bound : ℕ) → Reached openings page level bound → length found < k → IsPlain ask
        → IsUpToLast (bound_by at ask (impact_of ids (bounding_item_at nodes page)) (bounding_item_at nodes page)) found
    called-plain openings page level bound r less plain =
        let here : node_places nodes level page ≡ node_places nodes (nodes page).level page = ap (λ (l : ℕ). node_places nodes l page) (sym r.node.level_is) in
        let may = called-may openings page level bound r in
        let xs : List Item = node_places nodes level page in
        let may_be : qualifies ask 1 (impact_of ids (bounding_item xs)) ≡ true = subst (λ (l : List Item). qualifies ask 1 (impact_of ids (bounding_item l)) ≡ true) (sym here) may in
        subst (λ (l : List Item). IsUpToLast (bound_by at ask (impact_of ids (bounding_item l)) (bounding_item l)) found) here
        (fewer-up ids at ask on k (tree_places nodes tree.root) found is xs less r.places (places-are nodes (leaf-places pages tree.rows) level 1 page r.node) plain (place-some nodes level 1 page (omega arith) r.node) may_be)

    -- a node that is reached is called for
    called : (openings : List Opening) (page level bound : ℕ) → Reached openings page level bound → (length found ≡ k → bound ≤ last_cost found) → Calls (bounding_item_at nodes page)
    called openings page level bound r low = record {
      may = called-may openings page level bound r;
      full = λ all. called-full openings page level bound r (low all) (omega arith);
      plain = λ plain. ⊎_elim
          (λ (all : length found ≡ k). called-full openings page level bound r (low all) (omega arith))
          (λ (less : length found < k). called-plain openings page level bound r less plain)
          (same-or (length found) k (kept_short k (flat_map (hits_for ids at ask) (tree_places nodes tree.root)) found is));
    }

    module _ (query : queries.Query) (calls : (round : Item) (is_root : Type 0) → Calls round → CallsFor ids query found is_root round) (old new : List ℕ) where
      -- what a search that found these hits says of its log
      pub search-few : Opened StandsIn pages (IsNodePage pages tree.rows) (FitsTree pages count begin tree) (opened_in ids at ask nodes) (started_in ids ask nodes (bytes_in pages tree.rows) tree.root) tree.root old new k found
          → OpensFew (λ page. 0 < map_uses rows_form pages tree.rows page) (hits_for ids at ask) ids query nodes tree.root old new found
      search-few o = search-by k found query (λ openings page level bound r low is_root. calls (bounding_item_at nodes page) is_root (called openings page level bound r low)) old new o

module _ (pages : PageMap) (count begin : ℕ) (tree : Tree) (ids : Numbers) (at : Viewpoint) (k : ℕ) (found : List Hit) (old new : List ℕ) where
  -- a nearest query
  pub nearest-few : (filter : Option (Bor Expr)) → IsViewpoint at → FitsTree pages count begin tree → 0 < k → found ≡ first comes_before k (flat_map (near_item ids at (filter_in filter)) (tree_places (nodes_at pages tree) tree.root))
      → Opened StandsIn pages (IsNodePage pages tree.rows) (FitsTree pages count begin tree) (opened_in ids at (Nearest filter) (nodes_at pages tree)) (started_in ids (Nearest filter) (nodes_at pages tree) (bytes_in pages tree.rows) tree.root) tree.root old new k found
      → OpensFew (λ page. 0 < map_uses rows_form pages tree.rows page) (near_item ids at (filter_in filter)) ids (asked_for.Nearest at.point at.scale k (filter_in filter)) (nodes_at pages tree) tree.root old new found
  nearest-few None on fits some is o = search-few pages count begin tree ids at (Nearest None) on fits k found some is (asked_for.Nearest at.point at.scale k None) (λ round is_root c. c.plain tt) old new o
  nearest-few (Some filter) on fits some is o = search-few pages count begin tree ids at (Nearest (Some filter)) on fits k found some is (asked_for.Nearest at.point at.scale k (Some filter.now)) (λ round is_root c. (c.may, c.full)) old new o

  -- A nearest query that finds at most k places, which needn't be the nearest: a limit may cut them. It opens what one for more than k does.
  pub limited-few : (filter : Bor Expr) → IsViewpoint at → FitsTree pages count begin tree → length found ≤ k
      → Opened StandsIn pages (IsNodePage pages tree.rows) (FitsTree pages count begin tree) (opened_in ids at (Nearest (Some filter)) (nodes_at pages tree)) (started_in ids (Nearest (Some filter)) (nodes_at pages tree) (bytes_in pages tree.rows) tree.root) tree.root old new k found
      → OpensFew (λ page. 0 < map_uses rows_form pages tree.rows page) (near_item ids at (Some filter.now)) ids (asked_for.Nearest at.point at.scale (suc k) (Some filter.now)) (nodes_at pages tree) tree.root old new found
  limited-few filter on fits short o =
      search-by pages count begin tree ids at (Nearest (Some filter)) on fits k found (asked_for.Nearest at.point at.scale (suc k) (Some filter.now))
      (λ openings page level bound r low is_root. (called-may pages count begin tree ids at (Nearest (Some filter)) on fits openings page level bound r, λ all. absurd (omega arith))) old new o

  top-calls : (alpha reach : ℕ) (words : Weighted) (ask : Ask) → IsTopFor alpha reach words ask → (round : Item) (is_root : Type 0) → IsCalled ids at ask k found round → CallsFor ids (asked_for.Top at.point at.scale k alpha reach words) found is_root round
  top-calls alpha reach words (Nearest filter) is round is_root c = absurd is
  top-calls alpha reach words (Top terms) is round is_root c =
      let a : terms.alpha ≡ alpha = is.0 in
      let r : terms.reach ≡ reach = is.1 in
      let w : terms.words.now ≡ words = is.2 in
      subst (λ (n : ℕ). CallsFor ids (asked_for.Top at.point at.scale k n reach words) found is_root round) a
      (subst (λ (n : ℕ). CallsFor ids (asked_for.Top at.point at.scale k terms.alpha n words) found is_root round) r
      (subst (λ (v : Weighted). CallsFor ids (asked_for.Top at.point at.scale k terms.alpha terms.reach v) found is_root round) w (c.may, c.plain tt)))

  -- a top query
  pub top-few : (alpha reach : ℕ) (words : Weighted) (ask : Ask) → IsTopFor alpha reach words ask → IsViewpoint at → FitsTree pages count begin tree → 0 < k
      → found ≡ first comes_before k (flat_map (top_item ids at alpha reach words) (tree_places (nodes_at pages tree) tree.root))
      → Opened StandsIn pages (IsNodePage pages tree.rows) (FitsTree pages count begin tree) (opened_in ids at ask (nodes_at pages tree)) (started_in ids ask (nodes_at pages tree) (bytes_in pages tree.rows) tree.root) tree.root old new k found
      → OpensFew (λ page. 0 < map_uses rows_form pages tree.rows page) (top_item ids at alpha reach words) ids (asked_for.Top at.point at.scale k alpha reach words) (nodes_at pages tree) tree.root old new found
  top-few alpha reach words ask top on fits some is o =
      let same = top-hits ids at alpha reach words ask top in
      let hits : found ≡ first comes_before k (flat_map (hits_for ids at ask) (tree_places (nodes_at pages tree) tree.root)) =
      is ∙ ap (λ (g : Item → List Hit). first comes_before k (flat_map g (tree_places (nodes_at pages tree) tree.root))) (sym same) in
      subst (λ (g : Item → List Hit). OpensFew (λ page. 0 < map_uses rows_form pages tree.rows page) g ids (asked_for.Top at.point at.scale k alpha reach words) (nodes_at pages tree) tree.root old new found) same
      (search-few pages count begin tree ids at ask on fits k found some hits (asked_for.Top at.point at.scale k alpha reach words) (top-calls alpha reach words ask top) old new o)
