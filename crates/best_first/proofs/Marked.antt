-- What the marked slots of a page give.
use Rattle.std.proofs.Common.{◌≡◌, ℕ, zero, suc, ◌+◌, ◌*◌, ◌<◌, Bool, true, false, if◌then◌else◌, List, [], ◌∷◌, ◌++◌, take, drop, Option, Some, None, refl, sym, ap, subst, ◌∙◌, arith, ⊎_elim}
use Rattle.std.specs.List.{AllByRecursion}
use Rattle.std.proofs.lemmas.Bool.{cases_Bool, and_parts}
use Rattle.spatial_base.specs.Key.{form_of, name_in}
use Rattle.spatial_base.specs.Rect.{Bounds}
use Rattle.spatial_base.specs.Point.{Position, IsOnMap, Viewpoint, distance}
use Rattle.rtree_nodes.specs.Slots as shape
use Rattle.rtree_nodes.specs.Numbers.{int_at, number_at}
use Rattle.rtree_nodes.specs.Reach.{place_item, child_item}
use Rattle.rtree_nodes.specs.Cells.{item_in, has_form, point_of as cell_point, key_of as cell_key, is_on_map, is_key_form}
use Rattle.rtree_nodes.specs.Pages.{is_form, level_in, is_used, cell_at, item_at, stored_in}
use Rattle.rtree_nodes.proofs.Cells.{map-from}
use Rattle.rtree_nodes.proofs.Keys.{key-from, named}
use Rattle.rtree_nodes.proofs.Formed.{form-parts, stored-used, stored-unused}
use Rattle.rtree_nodes.proofs.Children.{leaf-item, inner-item, point_from, rect_from}
use Rattle.node_filter.specs.Entries.{point_of, name_of}
use Rattle.best_first.specs.declared.item.Item.{Item}
use Rattle.best_first.specs.declared.item.Item.TheVariants.{Node, Place}
use Rattle.best_first.specs.declared.ask.Ask.{Ask}
use Rattle.best_first.specs.Asks.{cost_by, qualifies, text_by, hit_with, bound_with}
use Rattle.best_first.specs.Items.{IsGivenAt}
use Rattle.best_first.specs.Cuts.{is_over, kept_of}
use Rattle.best_first.specs.Belows.{all-spread}
use Rattle.best_first.specs.NodeOpenings.{given_by, given_at, marked_by, spread, IsIn}
use Rattle.best_first.proofs.Sides.{place-point}

module _ (from : Viewpoint) (ask : Ask) where
  -- a slot that isn't marked gives nothing
  pub unmarked : (level text : ℕ) (o : Option shape.Item) → given_at (marked_by from ask level false text) o ≡ []
  unmarked level text None = refl
  unmarked zero text (Some x) = refl
  unmarked (suc level) text (Some x) = refl

  -- marks by the impacts of words
  marked-one : (level : ℕ) (marked : Bool) (text : ℕ) (f : List ℕ → ℕ) (x : shape.Item) → marked ≡ qualifies ask level f → text ≡ text_by ask f → marked_by from ask level marked text x ≡ given_by from ask level f x
  marked-one zero marked text f x m t = λ i. marked_by from ask 0 (m i) (t i) x
  marked-one (suc level) marked text f x m t = λ i. marked_by from ask (suc level) (m i) (t i) x

  pub marked-same : (level : ℕ) (marked : Bool) (text : ℕ) (f : List ℕ → ℕ) (o : Option shape.Item) → marked ≡ qualifies ask level f → text ≡ text_by ask f → given_at (marked_by from ask level marked text) o ≡ given_at (given_by from ask level f) o
  marked-same level marked text f None m t = refl
  marked-same level marked text f (Some x) m t = marked-one level marked text f x m t

  -- each slot gives what its node's level may
  marked-level : (level : ℕ) (marked : Bool) (text : ℕ) (o : Option shape.Item) → AllByRecursion (IsGivenAt level) (given_at (marked_by from ask level marked text) o)
  marked-level level marked text None = tt
  marked-level zero true text (Some x) = (tt, tt)
  marked-level zero false text (Some x) = tt
  marked-level (suc level) true text (Some x) = (refl, tt)
  marked-level (suc level) false text (Some x) = tt

  pub all-levels : (level : ℕ) (marked : ℕ → Bool) (text : ℕ → ℕ) (slots : shape.Slots) → AllByRecursion (IsGivenAt level) (spread 32 (λ i. given_at (marked_by from ask level (marked i) (text i)) (slots i)))
  all-levels level marked text slots = all-spread (IsGivenAt level) 32 (λ i. given_at (marked_by from ask level (marked i) (text i)) (slots i)) (λ i l. marked-level level (marked i) (text i) (slots i))

  marked-in : (slots : shape.Slots) (i level : ℕ) (marked : Bool) (text : ℕ) (o : Option shape.Item) → i < 32 → slots i ≡ o → (level ≡ 0 → (x : shape.Item) → o ≡ Some x → place_item (point_of x) (form_of (name_of x)) ≡ x)
      → AllByRecursion (IsIn slots) (given_at (marked_by from ask level marked text) o)
  marked-in slots i level marked text None l e h = tt
  marked-in slots i zero true text (Some x) l e h = ((i, l, e ∙ ap Some (sym (h refl x refl))), tt)
  marked-in slots i zero false text (Some x) l e h = tt
  marked-in slots i (suc level) true text (Some x) l e h = ((i, l, record { item = x; is = e; to_is = refl }), tt)
  marked-in slots i (suc level) false text (Some x) l e h = tt

  cell-whole : (level : ℕ) (cell : List ℕ) → level ≡ 0 → has_form level cell ≡ true → place_item (point_of (item_in level cell)) (form_of (name_of (item_in level cell))) ≡ item_in level cell
  cell-whole zero cell e h =
      let parts = and_parts (is_on_map (int_at 0 cell) (int_at 4 cell)) (is_key_form (cell_key cell)) h in
      let key = key-from (cell_key cell) parts.1 in
      let on : IsOnMap (int_at 0 cell) (int_at 4 cell) = map-from (int_at 0 cell) (int_at 4 cell) parts.0 in
      let point : point_of (place_item (cell_point cell) (cell_key cell)) ≡ cell_point cell = place-point (cell_point cell) (cell_key cell) on in
      let form : form_of (name_in (cell_key cell)) ≡ cell_key cell = ap (λ (k : List ℕ). form_of (name_in k)) key.2 ∙ ap form_of (named key.0 key.1) ∙ sym key.2 in
      (λ i. place_item (point i) (form i))
  cell-whole (suc level) cell e h = absurd (omega arith)

  item_or : shape.Item → Option shape.Item → shape.Item
  item_or d None = d
  item_or d (Some x) = x

  -- what is in a leaf's slot is a place with its point and its key
  place-whole : (page : List ℕ) (i : ℕ) → is_form page ≡ true → i < 32 → level_in page ≡ 0 → (x : shape.Item) → stored_in page i ≡ Some x → place_item (point_of x) (form_of (name_of x)) ≡ x
  unfolding item_or
  place-whole page i form l leaf x e = ⊎_elim
      (λ (u : is_used page i ≡ true).
      let same : item_at page i ≡ x = ap (item_or x) (sym (stored-used page i l u) ∙ e) in
      subst (λ (y : shape.Item). place_item (point_of y) (form_of (name_of y)) ≡ y) same (cell-whole (level_in page) (cell_at page i) leaf ((form-parts page form).values i l u)))
      (λ (u : is_used page i ≡ false). let n = stored-unused page i u in absurd (cc))
      (cases_Bool (is_used page i))

  -- each slot of a node's page gives what is in it
  pub all-stored : (page : List ℕ) (level : ℕ) (marked : ℕ → Bool) (text : ℕ → ℕ) → level ≡ level_in page → is_form page ≡ true
      → AllByRecursion (IsIn (stored_in page)) (spread 32 (λ i. given_at (marked_by from ask level (marked i) (text i)) (stored_in page i)))
  all-stored page level marked text e form = all-spread (IsIn (stored_in page)) 32 (λ i. given_at (marked_by from ask level (marked i) (text i)) (stored_in page i))
      (λ i l. marked-in (stored_in page) i level (marked i) (text i) (stored_in page i) l refl (λ z x s. place-whole page i form l (sym e ∙ z) x s))

  far-hit : (most : Option ℕ) (marked : Bool) (text : ℕ) (x : shape.Item) → is_over most (cost_by ask (distance from (point_of x)) text) ≡ true → kept_of most (marked_by from ask 0 marked text x) ≡ []
  far-hit most true text x h = ap (λ (b : Bool). (if b then [] else Place (hit_with from ask text x) ∷ []) ++ []) h
  far-hit most false text x h = refl

  -- a place that costs too much gives nothing
  pub place-far : (page : List ℕ) (at : ℕ) (p : Position) (most : Option ℕ) (marked : Bool) (text : ℕ) → p ≡ point_from page (16 + 74 * at) → IsOnMap p.x p.y → is_over most (cost_by ask (distance from p) text) ≡ true → at < 32 → is_used page at ≡ true → level_in page ≡ 0
      → kept_of most (given_at (marked_by from ask 0 marked text) (stored_in page at)) ≡ []
  place-far page at p most marked text is on over within used leaf =
      let key : List ℕ = take 66 (drop (16 + 74 * at + 8) page) in
      let whole : stored_in page at ≡ Some (place_item p key) = stored-used page at within used ∙ ap Some (leaf-item page at leaf ∙ ap (λ (q : Position). place_item q key) (sym is)) in
      ap (λ (o : Option shape.Item). kept_of most (given_at (marked_by from ask 0 marked text) o)) whole
      ∙ far-hit most marked text (place_item p key) (ap (λ (q : Position). is_over most (cost_by ask (distance from q) text)) (place-point p key on) ∙ over)

  -- what is in a used slot of an inner node is a child
  pub child-whole : (page : List ℕ) (at level : ℕ) (rect : Bounds) (child : ℕ) → at < 32 → is_used page at ≡ true → level ≡ level_in page → 0 < level → rect ≡ rect_from page (16 + 20 * at) → child ≡ number_at (16 + 20 * at + 16) page
      → stored_in page at ≡ Some (child_item rect child)
  child-whole page at level rect child within used same inner r n =
      stored-used page at within used ∙ ap Some (inner-item page at (subst (λ (k : ℕ). 0 < k) same inner) ∙ (λ i. child_item (sym r i) (sym n i)))

  -- and gives its node
  pub child-given : (level lower text : ℕ) (rect : Bounds) (child bound : ℕ) (o : Option shape.Item) → level ≡ suc lower → o ≡ Some (child_item rect child) → bound ≡ bound_with from ask text (child_item rect child)
      → given_at (marked_by from ask level true text) o ≡ Node child lower bound ∷ []
  child-given level lower text rect child bound o e s b =
      ap (λ (n : ℕ). given_at (marked_by from ask n true text) o) e
      ∙ ap (λ (p : Option shape.Item). given_at (marked_by from ask (suc lower) true text) p) s
      ∙ ap (λ (n : ℕ). Node child lower n ∷ []) (sym b)
