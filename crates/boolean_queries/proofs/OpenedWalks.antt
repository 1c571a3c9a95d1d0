-- A walk opens only nodes that its query calls for.
use Rattle.std.proofs.Common.{◌≡◌, ℕ, zero, suc, ◌<◌, Bool, true, false, ◌&&◌, if◌then◌else◌, List, [], ◌∷◌, Option, Some, None, refl, sym, subst, ◌∙◌, arith, ◌⊎◌, inl, inr, ⊎_elim}
use Rattle.std.specs.List.{AllByRecursion, Contains}
use Rattle.std.proofs.lemmas.Bool.{and_parts, leb-true}
use Rattle.std.proofs.lemmas.List.{append-nil, append_cancel_left}
use Rattle.page_face.specs.FreeList.{PageMap}
use Rattle.btree_nodes.specs.Tree.{map_uses}
use Rattle.spatial_base.specs.Point.{Viewpoint}
use Rattle.spatial_base.specs.Rect.{Bounds, mindist_of}
use Rattle.place_values.specs.declared.hit.Hit.{Hit}
use Rattle.place_values.specs.declared.query.Expr.{Expr}
use Rattle.place_values.specs.declared.query.Query as queries
use Rattle.place_values.specs.declared.query.Query.TheVariants as asked_for
use Rattle.rtree_nodes.specs.Slots.{Item, NodeMap}
use Rattle.rtree_nodes.specs.Stock.{rows_form}
use Rattle.rtree_nodes.proofs.Heights.{none_or}
use Rattle.rtree_nodes.specs.Pages.{node_of}
use Rattle.irtree_shape.specs.Made.{nodes_in}
use Rattle.irtree_shape.specs.Whole.{level_at}
use Rattle.best_first.specs.declared.item.Item as best
use Rattle.best_first.specs.declared.item.Item.TheVariants.{Node}
use Rattle.best_first.specs.Openings.{Opening, pages_opened, IsFromLeaf}
use Rattle.best_first.specs.Lists.{all_in, all_weaker}
use Rattle.node_filter.specs.Entries.{point_of, rect_of_item, name_of}
use Rattle.node_filter.specs.Filters.{admits_by}
use Rattle.node_filter.specs.Hits.{range_item, box_item}
use Rattle.node_filter.specs.Numbers.{Numbers, impact_of}
use Rattle.boolean_queries.specs.Near.{listed, touches, given}
use Rattle.boolean_queries.specs.Opens.{Fits, gives, opens_in, starts_at}
use Rattle.boolean_queries.specs.Regions.{Area, circle, rectangle, meets, has_point, hit_in}
use Rattle.boolean_queries.specs.Walked.{Walked}
use Rattle.boolean_queries.proofs.Lists.{in-order-all}
use Rattle.boolean_queries.specs.Bounds.{may_pass}
use Rattle.boolean_queries.specs.BoundingItems.{reaching, bounding_item_at}
use Rattle.boolean_queries.specs.Logs.{CallsFor, IsOpened, IsFromAsked, OpensFew}
use Rattle.boolean_queries.proofs.OpenedLists.{all-pages, asked-in}
use Rattle.boolean_queries.proofs.Histories.{all-contained as of-member}
use Rattle.boolean_queries.proofs.Chains.{Gives, IsReached, AreReached, all-reached, root-reached, opened-from, found-from, opened-reach}
use Rattle.boolean_queries.proofs.Rankings.{all-if}

-- below words that are admitted above the leaves a place may pass
may-admitted : (f : List ℕ → ℕ) (level : ℕ) (filter : Option Expr) → admits_by (suc level) f filter ≡ true → may_pass f filter ≡ true
may-admitted f level None h = h
may-admitted f level (Some filter) h = h

-- a place in the region that passes the filter gives its hit
if-given : (b : Bool) (hit : Hit) → b ≡ true → Contains (if b then hit ∷ [] else []) hit
if-given true hit t = (all_in (hit ∷ [])).0
if-given false hit t = absurd (cc)

module _ (region : Area) (ids : Numbers) (filter : Option Expr) where
  -- a child is let through where its rectangle meets the region and a place below it may pass the filter
  abbrev pub LetsThrough : Item → ℕ → Type 0
  LetsThrough x bound = (meets region (rect_of_item x) ≡ true) × (may_pass (impact_of ids x) filter ≡ true)

  let-reach : (x y : Item) (bound : ℕ) → x.reach ≡ y.reach → LetsThrough x bound → LetsThrough y bound
  let-reach x y bound e h = subst (λ (r : ℕ → ℕ). LetsThrough (reaching r) bound) e h

  -- a place in the region that passes the filter gives its hit
  abbrev pub GivesHits : (Item → List Hit) → Type 0
  GivesHits give = (x : Item) → (has_point region (point_of x) && admits_by 0 (impact_of ids x) filter) ≡ true → Contains (give x) (hit_in region (point_of x) (name_of x))

  module _ (nodes : NodeMap) (root : ℕ) (Starts : Type 0) (give : Item → List Hit) (hit_given : GivesHits give) where
    slot-gives : (page level i : ℕ) → i < 32 → (o : Option Item) → (nodes page).slots i ≡ o
        → AllByRecursion (Gives nodes root Starts LetsThrough give page level) (listed (gives region ids filter level) o)
    slot-gives page level i l None e = tt
    slot-gives page zero i l (Some x) e =
        all-if (Gives nodes root Starts LetsThrough give page 0) (touches region 0 x && admits_by 0 (impact_of ids x) filter) (given region 0 x)
        (λ t. record { leaf = refl; at = i; within = l; item = x; is = e; gave = hit_given x t })
    slot-gives page (suc level) i l (Some x) e =
        all-if (Gives nodes root Starts LetsThrough give page (suc level)) (touches region (suc level) x && admits_by (suc level) (impact_of ids x) filter) (given region (suc level) x)
        (λ t.
        let both = and_parts (meets region (rect_of_item x)) (admits_by (suc level) (impact_of ids x) filter) t in
        record { up = refl; at = i; within = l; item = x; is = e; to_is = refl; admitted = (both.0, may-admitted (impact_of ids x) level filter both.1) })

    -- what opening a node gives
    opens-give : (page level : ℕ) → AllByRecursion (Gives nodes root Starts LetsThrough give page level) (opens_in region ids filter nodes page level)
    opens-give page level =
        in-order-all (Gives nodes root Starts LetsThrough give page level) 32 (λ i. listed (gives region ids filter level) ((nodes page).slots i))
        (λ i l. slot-gives page level i l ((nodes page).slots i) refl)

start-all : (P : best.Item → Type 0) (nodes : NodeMap) (root : ℕ) → (0 < root → P (Node root (level_at nodes root) 0)) → AllByRecursion P (starts_at nodes root)
start-all P nodes zero h = tt
start-all P nodes (suc m) h = (h (omega arith), tt)

module _ (pages : PageMap) (rows count begin root : ℕ) (region : Area) (ids : Numbers) (filter : Option Expr) (give : Item → List Hit) (hit_given : GivesHits region ids filter give) (fits : Fits pages rows count begin root) (query : queries.Query) (found : List Hit)
    (calls : (round : Item) (is_root : Type 0) → is_root ⊎ LetsThrough region ids filter round 0 → CallsFor ids query found is_root round) (old new : List ℕ) where
  abbrev nodes : NodeMap
  nodes = nodes_in node_of pages rows

  abbrev Reached : List Opening → ℕ → ℕ → ℕ → Type 0
  Reached openings page level bound = IsReached nodes root (Unit {0}) (LetsThrough region ids filter) give openings page level bound

  called : (openings : List Opening) (page level bound : ℕ) → Reached openings page level bound → CallsFor ids query found (page ≡ root) (bounding_item_at nodes page)
  called openings page level bound r = calls (bounding_item_at nodes page) (page ≡ root) (⊎_elim (λ (e : (page ≡ root) × Unit {0}). inl e.0)
      (λ f. inr (let-reach region ids filter f.gave.item (bounding_item_at nodes page) bound (opened-reach nodes root (Unit {0}) (LetsThrough region ids filter) give openings page level bound f) f.gave.admitted)) r.from)

  abbrev Walks : Type 0
  Walks = Walked region pages (map_uses rows_form pages rows) (Fits pages rows count begin root) (opens_in region ids filter nodes) (starts_at nodes root) root old new found

  abbrev Few : Type 0
  Few = OpensFew (λ page. 0 < map_uses rows_form pages rows page) give ids query nodes root old new found

  module _ (walked : Walks) where
    abbrev asked : List ℕ
    asked = walked.log.more

    abbrev Is : ℕ → Type 0
    Is page = IsOpened ids query nodes root asked found page

    abbrev openings : List Opening
    openings = walked.openings

    read : AllByRecursion (λ (p : Opening). Contains asked p.page) openings
    read = all_weaker _ (λ (p : Opening). Contains asked p.page) (λ p since. asked-in old new asked p.page walked.log.log since) openings walked.read

    reached : AllByRecursion (λ (p : Opening). Reached openings p.page p.level p.bound) openings
    reached =
        let Start : best.Item → Type 0 = AreReached nodes root (Unit {0}) (LetsThrough region ids filter) give [] in
        let begun : AllByRecursion Start walked.start =
        subst (AllByRecursion Start) (sym (walked.begun fits)) (start-all Start nodes root (λ there. root-reached nodes root (Unit {0}) (LetsThrough region ids filter) give 0 there fits.1.tree tt)) in
        (all-reached nodes root (Unit {0}) (LetsThrough region ids filter) give (opens_in region ids filter nodes) (opens-give region ids filter nodes root (Unit {0}) give hit_given) walked.start begun openings walked.trail (walked.gave fits)).1

    is-opened : AllByRecursion (λ (p : Opening). Is p.page) openings
    is-opened = all_weaker (λ (p : Opening). Reached openings p.page p.level p.bound) (λ (p : Opening). Is p.page)
        (λ p r. opened-from nodes root (Unit {0}) (LetsThrough region ids filter) give openings asked read ids query found p.page p.level p.bound r (called openings p.page p.level p.bound r))
        openings reached

    is-root : 0 < root → Is root
    is-root there =
        let r = root-reached nodes root (Unit {0}) (LetsThrough region ids filter) give 0 there fits.1.tree tt in
        opened-from nodes root (Unit {0}) (LetsThrough region ids filter) give [] asked tt ids query found root (level_at nodes root) 0 r (called [] root (level_at nodes root) 0 r)

    each-page : (root ≡ 0 → new ≡ old) → AllByRecursion (λ page. (0 < map_uses rows_form pages rows page) ⊎ Is page) asked
    each-page empty = ⊎_elim
        (λ (none : root ≡ 0).
        let no_page : asked ≡ [] = append_cancel_left old asked [] (sym walked.log.log ∙ empty none ∙ sym (append-nil old)) in
        subst (AllByRecursion (λ page. (0 < map_uses rows_form pages rows page) ⊎ Is page)) (sym no_page) tt)
        (λ (there : 0 < root).
        let all : AllByRecursion Is (root ∷ pages_opened openings) = (is-root there, all-pages Is openings is-opened) in
        all_weaker _ (λ page. (0 < map_uses rows_form pages rows page) ⊎ Is page)
        (λ page h. ⊎_elim (λ (c : Contains (root ∷ pages_opened openings) page). inr (of-member Is (root ∷ pages_opened openings) page all c)) (λ used. inl used) h)
        asked walked.log.alone)
        (none_or root)

    -- what a walk that found these hits says of its log
    pub walk-few : (root ≡ 0 → new ≡ old) → Few
    walk-few empty = record {
      asked = asked;
      log = walked.log.log;
      each = each-page empty;
      from = all_weaker (IsFromLeaf openings) (IsFromAsked nodes asked give)
          (λ hit leaf. found-from nodes root (Unit {0}) (LetsThrough region ids filter) give openings asked read (opens_in region ids filter nodes) (opens-give region ids filter nodes root (Unit {0}) give hit_given) (walked.gave fits)
          (λ p c. (of-member (λ (q : Opening). Reached openings q.page q.level q.bound) openings p reached c).node.level_is) hit leaf)
          found walked.from_leaf;
    }

module _ (pages : PageMap) (rows count begin root : ℕ) (ids : Numbers) (filter : Option Expr) (fits : Fits pages rows count begin root) (found : List Hit) (old new : List ℕ) (empty : root ≡ 0 → new ≡ old) where
  -- a range query
  pub range-few : (at : Viewpoint) (radius : ℕ)
      → Walked (circle at radius) pages (map_uses rows_form pages rows) (Fits pages rows count begin root) (opens_in (circle at radius) ids filter (nodes_in node_of pages rows)) (starts_at (nodes_in node_of pages rows) root) root old new found
      → OpensFew (λ page. 0 < map_uses rows_form pages rows page) (range_item ids at radius filter) ids (asked_for.Range at.point at.scale radius filter) (nodes_in node_of pages rows) root old new found
  range-few at radius walked =
      walk-few pages rows count begin root (circle at radius) ids filter (range_item ids at radius filter)
      (λ x t. if-given (has_point (circle at radius) (point_of x) && admits_by 0 (impact_of ids x) filter) (hit_in (circle at radius) (point_of x) (name_of x)) t) fits (asked_for.Range at.point at.scale radius filter) found
      (λ round is_root c. ⊎_elim (λ (r : is_root). inl r) (λ (h : LetsThrough (circle at radius) ids filter round 0). inr (h.1, leb-true (mindist_of (rect_of_item round) at) radius h.0)) c) old new walked empty

  -- a box query
  pub inside-few : (rect : Bounds)
      → Walked (rectangle rect) pages (map_uses rows_form pages rows) (Fits pages rows count begin root) (opens_in (rectangle rect) ids filter (nodes_in node_of pages rows)) (starts_at (nodes_in node_of pages rows) root) root old new found
      → OpensFew (λ page. 0 < map_uses rows_form pages rows page) (box_item ids rect filter) ids (asked_for.Inside rect filter) (nodes_in node_of pages rows) root old new found
  inside-few rect walked =
      walk-few pages rows count begin root (rectangle rect) ids filter (box_item ids rect filter)
      (λ x t. if-given (has_point (rectangle rect) (point_of x) && admits_by 0 (impact_of ids x) filter) (hit_in (rectangle rect) (point_of x) (name_of x)) t) fits (asked_for.Inside rect filter) found
      (λ round is_root c. ⊎_elim (λ (r : is_root). inl r) (λ (h : LetsThrough (rectangle rect) ids filter round 0). inr (h.1, h.0)) c) old new walked empty
