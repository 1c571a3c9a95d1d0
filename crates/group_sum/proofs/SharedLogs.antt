-- Which nodes a search for a place that holds all of some words opened.
use Rattle.std.proofs.Common.{◌≡◌, ℕ, ◌<◌, ◌≤◌, Bool, true, false, ◌&&◌, nat_lt, if◌then◌else◌, List, [], ◌∷◌, length, Some, refl, sym, ap, subst, ◌∙◌, arith, ◌⊎◌, inl, inr, ⊎_elim}
use Rattle.std.specs.Borrow.{Bor}
use Rattle.std.specs.List.{AllByRecursion, Contains}
use Rattle.std.proofs.lemmas.Bool.{ltb-true}
use Rattle.page_face.specs.FreeList.{PageMap}
use Rattle.btree_nodes.specs.Tree.{map_uses}
use Rattle.spatial_base.specs.Point.{Viewpoint, IsViewpoint}
use Rattle.place_values.specs.declared.hit.Hit.{Hit}
use Rattle.place_values.specs.declared.query.Expr.{Expr}
use Rattle.place_values.specs.declared.query.Pick.{Pick}
use Rattle.place_values.specs.declared.query.Query.TheVariants as asked_for
use Rattle.rtree_nodes.specs.Slots.{Item, NodeMap}
use Rattle.rtree_nodes.specs.Stock.{rows_form}
use Rattle.node_rows.specs.declared.roots.Tree.{Tree}
use Rattle.node_rows.specs.Rows.{bytes_in}
use Rattle.node_filter.specs.Filters.{admits}
use Rattle.node_filter.specs.Hits.{hit_near, near_item}
use Rattle.node_filter.specs.Numbers.{Numbers, impact_of}
use Rattle.best_first.specs.declared.ask.Ask.TheVariants.{Nearest}
use Rattle.best_first.specs.Fits.{FitsTree, nodes_at}
use Rattle.best_first.specs.Harms.{IsNodePage}
use Rattle.best_first.specs.Lists.{all_weaker}
use Rattle.best_first.specs.NodeOpenings.{StandsIn, opened_in, started_in}
use Rattle.best_first.specs.Openings.{Opened}
use Rattle.best_first.proofs.Histories.{contains_head as contains-here}
use Rattle.boolean_queries.specs.Logs.{CallsFor, IsChildOfAsked, IsOpened, IsFromAsked, OpensFew}
use Rattle.boolean_queries.specs.Words.{HoldsOneOf, IsOpenedForWords}
use Rattle.boolean_queries.proofs.Searches.{limited-few}
use Rattle.boolean_queries.specs.BoundingItems.{bounding_item_at}
use Rattle.boolean_queries.proofs.Histories.{all-contained}
use Rattle.group_search.proofs.Members.{contains-later, contains-none, contains-cases}
use Rattle.collective_query.specs.Opened.{FindsPicks, given_to}
use Rattle.collective_query.specs.TreePicks.{pick_in, pick_item, pick_from}
use Rattle.group_sum.specs.Held.{holds_all, head_hit}
use Rattle.group_sum.specs.Shared.{shared_picks, shared_in}

and-parts : (a b : Bool) → (a && b) ≡ true → (a ≡ true) × (b ≡ true)
and-parts true b h = (refl, h)
and-parts false b h = absurd (cc)

-- where all of the words are held, each is
each-held : (f : List ℕ → ℕ) (words : List (List ℕ)) (word : List ℕ) → holds_all f words ≡ true → Contains words word → nat_lt 0 (f word) ≡ true
each-held f [] word all c = absurd (contains-none word c)
each-held f (one ∷ words) word all c =
    let parts = and-parts (nat_lt 0 (f one)) (holds_all f words) all in
    ⊎_elim
    (λ (same : one ≡ word). subst (λ (w : List ℕ). nat_lt 0 (f w) ≡ true) same parts.0)
    (λ (later : Contains words word). each-held f words word parts.1 later)
    (contains-cases one words word c)

module _ (pages : PageMap) (count begin : ℕ) (tree : Tree) (ids : Numbers) (at : Viewpoint) (first : List ℕ) (others all : List (List ℕ)) (lent : Bor Expr)
    (asks : (f : List ℕ → ℕ) → (level : ℕ) → admits level f lent.now ≡ holds_all f (first ∷ others)) (among : (word : List ℕ) → Contains (first ∷ others) word → Contains all word) (on : IsViewpoint at) (fits : FitsTree pages count begin tree) (old new : List ℕ) where
  abbrev nodes : NodeMap
  nodes = nodes_at pages tree

  abbrev words : List (List ℕ)
  words = first ∷ others

  abbrev kind : ℕ → Type 0
  kind page = 0 < map_uses rows_form pages tree.rows page

  -- a place that meets the condition is the pick of each of the words
  made-each : (word : List ℕ) → Contains words word → (x : Item) (hit : Hit) → Contains (near_item ids at (Some lent.now) x) hit → Contains (pick_item ids at word x) (pick_from at word hit)
  made-each word c x hit = by_test (admits 0 (impact_of ids x) lent.now) refl
    where
      by_test : (b : Bool) → admits 0 (impact_of ids x) lent.now ≡ b → Contains (if b then hit_near at x ∷ [] else []) hit → Contains (pick_item ids at word x) (pick_from at word hit)
      by_test true e has =
          let held : nat_lt 0 (impact_of ids x word) ≡ true = each-held (impact_of ids x) words word (sym (asks (impact_of ids x) 0) ∙ e) c in
          ⊎_elim
          (λ (same : hit_near at x ≡ hit). subst (λ (h : Hit). Contains (pick_item ids at word x) (pick_from at word h)) same (rw held (contains-here (pick_in at word x) [])))
          (λ (later : Contains [] hit). absurd (contains-none hit later))
          (contains-cases (hit_near at x) [] hit has)
      by_test false e has = absurd (contains-none hit has)

  -- a node is opened only where one of the words is held below it
  holds-below : (round : Item) (is_root : Type 0) (found : List Hit) → CallsFor ids (asked_for.Nearest at.point at.scale 2 (Some lent.now)) found is_root round → HoldsOneOf ids all round
  holds-below round is_root found c =
      (first, among first (contains-here first others), ltb-true 0 (impact_of ids round first) (each-held (impact_of ids round) words first (sym (asks (impact_of ids round) 1) ∙ c.0) (contains-here first others)))

  module _ (found : List Hit) (few : OpensFew kind (near_item ids at (Some lent.now)) ids (asked_for.Nearest at.point at.scale 2 (Some lent.now)) nodes tree.root old new found) where
    abbrev OpenedForAll : ℕ → Type 0
    OpenedForAll page = kind page ⊎ IsOpenedForWords ids all nodes tree.root few.asked page

    -- so it is with each node that was opened
    opened-for : (page : ℕ) → IsOpened ids (asked_for.Nearest at.point at.scale 2 (Some lent.now)) nodes tree.root few.asked found page → IsOpenedForWords ids all nodes tree.root few.asked page
    opened-for page o = record {
      used = o.used;
      from = ⊎_elim (λ (e : page ≡ tree.root). inl e) (λ (child : IsChildOfAsked nodes few.asked page). inr (child, holds-below (bounding_item_at nodes page) (page ≡ tree.root) found o.called)) o.from;
    }

    each-opened : AllByRecursion OpenedForAll few.asked
    each-opened = all_weaker _ OpenedForAll (λ page h. ⊎_elim (λ (t : kind page). inl t) (λ (o : IsOpened ids (asked_for.Nearest at.point at.scale 2 (Some lent.now)) nodes tree.root few.asked found page). inr (opened-for page o)) h) few.asked few.each

    -- what a search says that found no place
    finds-none : FindsPicks pages tree ids at all old new []
    finds-none = record { asked = few.asked; log = few.log; each = each-opened; from = tt }

    each-from : (hit : Hit) → IsFromAsked nodes few.asked (near_item ids at (Some lent.now)) hit → (some : List (List ℕ)) → ((word : List ℕ) → Contains some word → Contains words word)
        → AllByRecursion (λ (pick : Pick). IsFromAsked nodes few.asked (given_to ids at pick) pick) (shared_picks at some hit)
    each-from hit f [] inside = tt
    each-from hit f (word ∷ some) inside = (
      record { leaf = f.leaf; among = f.among; level_is = f.level_is; at = f.at; within = f.within; item = f.item; is = f.is; gave = made-each word (inside word (contains-here word some)) f.item hit f.gave },
      each-from hit f some (λ w c. inside w (contains-later word some w c)),
    )

    -- and one that found a place
    finds-some : (hit : Hit) → Contains found hit → FindsPicks pages tree ids at all old new (shared_picks at words hit)
    finds-some hit c = record { asked = few.asked; log = few.log; each = each-opened; from = each-from hit (all-contained (IsFromAsked nodes few.asked (near_item ids at (Some lent.now))) found hit few.from c) words (λ w c. c) }

-- what a search for all of some words says of the log
pub finds-shared : (pages : PageMap) (count begin : ℕ) (tree : Tree) (ids : Numbers) (at : Viewpoint) (words all : List (List ℕ)) (lent : Bor Expr) → 0 < length words → ((f : List ℕ → ℕ) → (level : ℕ) → admits level f lent.now ≡ holds_all f words)
    → ((word : List ℕ) → Contains words word → Contains all word) → IsViewpoint at → FitsTree pages count begin tree → (old new : List ℕ) (found : List Hit) → length found ≤ 1
    → Opened StandsIn pages (IsNodePage pages tree.rows) (FitsTree pages count begin tree) (opened_in ids at (Nearest (Some lent)) (nodes_at pages tree)) (started_in ids (Nearest (Some lent)) (nodes_at pages tree) (bytes_in pages tree.rows) tree.root) tree.root old new 1 found
    → FindsPicks pages tree ids at all old new (shared_in at words (head_hit found))
finds-shared pages count begin tree ids at [] all lent some asks among on fits old new found short opened = absurd (omega arith)
finds-shared pages count begin tree ids at (word ∷ words) all lent some asks among on fits old new [] short opened =
    finds-none pages count begin tree ids at word words all lent asks among on fits old new [] (limited-few pages count begin tree ids at 1 [] old new lent on fits short opened)
finds-shared pages count begin tree ids at (word ∷ words) all lent some asks among on fits old new (hit ∷ rest) short opened =
    finds-some pages count begin tree ids at word words all lent asks among on fits old new (hit ∷ rest) (limited-few pages count begin tree ids at 1 (hit ∷ rest) old new lent on fits short opened) hit (contains-here hit rest)
