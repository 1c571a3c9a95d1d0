-- An item that was put in below a child, and the words of the child's slot.
use Rattle.std.proofs.Common.{◌≡◌, ℕ, suc, ◌+◌, ◌-◌, ◌<◌, ◌≤◌, ◌⊎◌, inl, inr, max, arith, refl, sym, ap, ◌∙◌, subst, Option, Some, None, List, ◌++◌, length, length-append, nat_lt, if◌then◌else◌}
use Rattle.page_face.specs.FreeList.{PageMap}
use Rattle.btree_nodes.specs.Supply.{one_at}
use Rattle.btree_nodes.proofs.Supplies.{one_at-same, one_at-other}
use Rattle.rtree_nodes.specs.Slots.{Item, Slots, NodeView, NodeMap, got, amount, tops, Held}
use Rattle.rtree_nodes.specs.Trees.{below, uses, IsItem, IsNode, Stands, node_below, node_uses, stand_uses}
use Rattle.rtree_nodes.specs.Heads.{heads, stand_heads, total_heads}
use Rattle.rtree_nodes.specs.Stock.{View, view, spare_in}
use Rattle.rtree_nodes.specs.Made.{Reads}
use Rattle.rtree_nodes.proofs.Amounts.{amount-at}
use Rattle.rtree_nodes.proofs.Frames.{SameSlots, SameItem, slots-frame, item-frame}
use Rattle.rtree_nodes.proofs.Heads.{item-heads, slots-heads, step-heads, total-append}
use Rattle.rtree_nodes.proofs.Steps.{Stepped, stepped}
use Rattle.node_rows.specs.Rows.{bytes_in}
use Rattle.irtree_shape.specs.Stock.{Moves}
use Rattle.irtree_shape.specs.Steps.{bounding_child_in}
use Rattle.irtree_shape.specs.Made.{nodes_in, IsReady, IsOpen, Makes, Puts}
use Rattle.irtree_shape.proofs.Stocks.{still, moves-as, moves-beside, moves-further}
use Rattle.irtree_shape.proofs.Words.{words-none}
use Rattle.irtree_shape.proofs.Stores.{blank-after}

-- what stands at a page, in another map of nodes
pub record StandsLater (olds news : NodeMap) (least level page : ℕ) (more : Option Item) (sums : (Item → ℕ) → ℕ) (reach : ℕ → ℕ) : Type 0 where
  pub stands : Stands news least level page more sums reach
  pub pages : (n : ℕ) → stand_uses news level page more n ≡ stand_uses olds level page more n

module _ (olds news : NodeMap) (least level page : ℕ) (sums : (Item → ℕ) → ℕ) (reach : ℕ → ℕ) where
  module _ (same : (n : ℕ) → 0 < node_uses olds level page n → news n ≡ olds n) where
    here : news page ≡ olds page
    here = same page (let o = one_at-same page in omega arith)

    kept : SameSlots olds news level (olds page).slots
    kept = slots-frame olds news level (olds page).slots (λ n j. same n (omega arith))

    in_page : (F : Item → ℕ) → amount F (news page).slots ≡ amount F (olds page).slots
    in_page F = ap (λ (v : NodeView). amount F v.slots) here

    node-later : (l : ℕ) → IsNode (λ y. IsItem olds level y) l level (olds page) → IsNode (λ y. IsItem news level y) l level (news page)
    node-later l h = rw here (record { level_is = h.level_is; some = h.some; items = kept.items h.items })

    below-later : (f : Item → ℕ) → node_below news f level page ≡ node_below olds f level page
    below-later f = in_page (λ y. below news f level y) ∙ kept.sums f

    uses-later : (n : ℕ) → node_uses news level page n ≡ node_uses olds level page n
    uses-later n = let a = in_page (λ y. uses news level y n) in let b = kept.pages n in omega arith

    tops-later : (d : ℕ) → tops d (news page).slots ≡ tops d (olds page).slots
    tops-later d = ap (λ (v : NodeView). tops d v.slots) here

  -- what stood there stands
  pub stands-later : (more : Option Item) → Stands olds least level page more sums reach → ((n : ℕ) → 0 < stand_uses olds level page more n → news n ≡ olds n) → StandsLater olds news least level page more sums reach
  stands-later None h same =
      let mine : (n : ℕ) → 0 < node_uses olds level page n → news n ≡ olds n = λ n j. same n (omega arith) in
      record {
        stands = record {
          node = node-later mine least h.node;
          beside = tt;
          sum_is = λ f. let a = below-later mine f in let b = h.sum_is f in omega arith;
          reach_is = λ d. ap (λ (m : ℕ). max m 0) (tops-later mine d) ∙ h.reach_is d;
        };
        pages = λ n. let a = uses-later mine n in omega arith;
      }
  stands-later (Some y) h same =
      let mine : (n : ℕ) → 0 < node_uses olds level page n → news n ≡ olds n = λ n j. same n (omega arith) in
      let its : SameItem olds news (suc level) y = item-frame olds news (suc level) y (λ n j. same n (omega arith)) in
      record {
        stands = record {
          node = node-later mine 12 h.node;
          beside = its.item h.beside;
          sum_is = λ f. let a = below-later mine f in let b = h.sum_is f in let i = its.sums f in omega arith;
          reach_is = λ d. ap (λ (m : ℕ). max m (y.reach d)) (tops-later mine d) ∙ h.reach_is d;
        };
        pages = λ n. let a = uses-later mine n in let i = its.pages n in omega arith;
      }

-- the nodes of what stands at a page, in another map of nodes
pub stand-heads : (olds news : NodeMap) (g : ℕ → ℕ → ℕ) (level page : ℕ) (more : Option Item) → ((n : ℕ) → 0 < stand_uses olds level page more n → news n ≡ olds n) → stand_heads news g level page more ≡ stand_heads olds g level page more
stand-heads olds news g level page more same =
    let here : news page ≡ olds page = same page (let o = one_at-same page in omega arith) in
    let a = slots-heads olds news g level (olds page).slots (λ n j. same n (omega arith)) in
    let b : amount (λ y. heads news g level y) (news page).slots ≡ amount (λ y. heads news g level y) (olds page).slots = ap (λ (v : NodeView). amount (λ y. heads news g level y) v.slots) here in
    let c = beside more (λ n j. same n (omega arith)) in
    omega arith
  where
    beside : (o : Option Item) → ((n : ℕ) → 0 < got (λ y. uses olds (suc level) y n) o → news n ≡ olds n) → got (λ y. heads news g (suc level) y) o ≡ got (λ y. heads olds g (suc level) y) o
    beside None h = refl
    beside (Some y) h = item-heads olds news g (suc level) y h

-- a page that is open is none of those that stay away
pub open_some : (reads : Reads) (before : View) (least level page goal : ℕ) (x : Item) → IsOpen reads before least level page goal x → 0 < page
open_some reads before least level page goal x opened = elim (zero_or page) [
  | inl e ↦ let a = opened.away in let s = one_at-same page in let k : one_at page 0 ≡ one_at page page = ap (one_at page) (sym e) in absurd (omega arith)
  | inr l ↦ l
]
  where
    zero_or : (m : ℕ) → (m ≡ 0) ⊎ (0 < m)
    zero_or m = grind arith

-- at the goal's level the slots of the page are ready for the item
pub open_here : (reads : Reads) (before : View) (least level page goal : ℕ) (x : Item) → level ≡ goal → IsOpen reads before least level page goal x
    → IsReady reads before least level page (nodes_in reads before.pages before.rows page) (Some x)
open_here reads before least level page goal x e opened = record {
  level_is = opened.node.level_is;
  some = opened.node.some;
  small = opened.small;
  items = opened.node.items;
  beside = subst (λ (l : ℕ). IsItem (nodes_in reads before.pages before.rows) l x) (sym e) opened.item;
  supplied = opened.supplied;
  once = λ n. subst (λ (l : ℕ). node_uses (nodes_in reads before.pages before.rows) level page n + uses (nodes_in reads before.pages before.rows) l x n + spare_in before n ≤ 1) (sym e) (opened.once n);
  blank = λ n d. opened.blank n;
  empty = λ w i none. opened.blank page w i (words-none (bytes_in before.pages before.rows page) (reads (before.pages page)).slots i none);
}

-- what was made of them is what was to be put in
pub put_here : (reads : Reads) (before : View) (pages : PageMap) (rows count first least level page goal : ℕ) (x : Item) (more : Option Item) (told : ℕ → ℕ) (rise : ℕ → Type 0) → level ≡ goal
    → Makes reads before pages rows count first least level page (nodes_in reads before.pages before.rows page).slots (Some x) more told rise → Puts reads before pages rows count first least level page goal x more told rise
put_here reads before pages rows count first least level page goal x more told rise e made =
    subst (λ (l : ℕ). Puts reads before pages rows count first least level page l x more told rise) e made

-- a child's words are the same where its node is
pub bounding-same : (a b : NodeMap) (m : Option Item) → ((y : Item) → m ≡ Some y → b y.to ≡ a y.to) → bounding_child_in b m ≡ bounding_child_in a m
bounding-same a b None h = refl
bounding-same a b (Some y) h = ap (λ (v : NodeView). Some (record y { reach = λ d. if nat_lt d 4 then y.reach d else tops d v.slots })) (h y refl)

-- above it
module _ (reads : Reads) (before : View) (least level page goal : ℕ) (x : Item) (opened : IsOpen reads before least (suc level) page goal x) (low : goal ≤ level)
    (at : ℕ) (z : Item) (within : at < 32) (here : (nodes_in reads before.pages before.rows page).slots at ≡ Some z) where
  its : IsItem (nodes_in reads before.pages before.rows) (suc level) z
  its = subst (Held (λ y. IsItem (nodes_in reads before.pages before.rows) (suc level) y)) here (opened.node.items at within)

  least_part : (n : ℕ) → uses (nodes_in reads before.pages before.rows) (suc level) z n ≤ amount (λ y. uses (nodes_in reads before.pages before.rows) (suc level) y n) (nodes_in reads before.pages before.rows page).slots
  least_part n = let a = amount-at (λ y. uses (nodes_in reads before.pages before.rows) (suc level) y n) (nodes_in reads before.pages before.rows page).slots at within in
      let b = ap (got (λ y. uses (nodes_in reads before.pages before.rows) (suc level) y n)) here in omega arith

  -- the item's page is open
  pub open_child : IsOpen reads before 12 level z.to goal x
  open_child = record {
    node = its.0;
    some = omega arith;
    small = omega arith;
    item = opened.item;
    deep = low;
    supplied = opened.supplied;
    once = λ n. let o = opened.once n in let a = least_part n in omega arith;
    away = let o = opened.away in let a = least_part 0 in omega arith;
    blank = opened.blank;
  }

  -- the item reaches as far as its node
  pub child_reach : (d : ℕ) → z.reach d ≡ tops d (nodes_in reads before.pages before.rows z.to).slots
  child_reach = its.1

  -- the child isn't the node itself
  pub child_apart : page ≡ z.to → ⊥
  child_apart e = let o = opened.once page in let a = least_part page in let p = one_at-same page in let q : one_at z.to page ≡ one_at page page = ap (λ (m : ℕ). one_at m page) (sym e) in omega arith

  -- the page itself isn't spare
  pub page_unspared : spare_in before page ≡ 0
  page_unspared = let o = opened.once page in let p = one_at-same page in omega arith

  -- nor below the child
  pub page_away : node_uses (nodes_in reads before.pages before.rows) level z.to page + uses (nodes_in reads before.pages before.rows) goal x page ≡ 0
  page_away = let o = opened.once page in let p = one_at-same page in let a = least_part page in omega arith

  module _ (mid : PageMap) (rows count first : ℕ) (m : Option Item) (told : ℕ → ℕ) (rise : ℕ → Type 0) (put : Puts reads before mid rows count first 12 level z.to goal x (bounding_child_in (nodes_in reads mid rows) m) told rise) where
    -- nor is it spare once the child has changed
    pub page_spare : spare_in (view mid rows count first put.free) page ≡ 0
    page_spare = let e = put.moves.kept page in let a = page_away in let u = page_unspared in omega arith

    -- and its rows are as before
    pub page_same : (w i : ℕ) → bytes_in mid rows page w i ≡ bytes_in before.pages before.rows page w i
    page_same w i = (put.moves.others page page_away page_unspared).bytes w i

    -- and so is the page itself
    pub page_held : mid page ≡ before.pages page
    page_held = (put.moves.others page page_away page_unspared).page

    -- the rows of the child and of what was made beside it stay where the page alone changes
    pub made_same : (linked : PageMap) (rows2 count2 first2 : ℕ) (free2 : List ℕ) → Moves (view mid rows count first put.free) (view linked rows2 count2 first2 free2) (one_at page) (one_at page)
        → (n : ℕ) → 0 < stand_uses (nodes_in reads mid rows) level z.to (bounding_child_in (nodes_in reads mid rows) m) n → (w i : ℕ) → bytes_in linked rows2 n w i ≡ bytes_in mid rows n w i
    made_same linked rows2 count2 first2 free2 shift n l = (let e = put.moves.kept n in let o = opened.once n in let a = least_part n in shift.others n (omega arith) (omega arith)).bytes

    module _ (linked : PageMap) (rows2 count2 first2 : ℕ) (free2 : List ℕ) (shift : Moves (view mid rows count first put.free) (view linked rows2 count2 first2 free2) (one_at page) (one_at page))
        (t : Slots) (z' : Item) (there : t at ≡ Some z') (same : (i : ℕ) → (i ≡ at → ⊥) → t i ≡ (nodes_in reads before.pages before.rows page).slots i) (to : z'.to ≡ z.to)
        (least_is : (d : ℕ) → z'.reach d ≡ tops d (nodes_in reads mid rows z.to).slots) (empty : (w i : ℕ) → t i ≡ None → bytes_in linked rows2 page w i ≡ 0) where
      later : (n : ℕ) → 0 < stand_uses (nodes_in reads mid rows) level z.to (bounding_child_in (nodes_in reads mid rows) m) n → nodes_in reads linked rows2 n ≡ nodes_in reads mid rows n
      later n l = still reads (view mid rows count first put.free) (view linked rows2 count2 first2 free2) n (let e = put.moves.kept n in let o = opened.once n in let a = least_part n in shift.others n (omega arith) (omega arith))

      stood : StandsLater (nodes_in reads mid rows) (nodes_in reads linked rows2) 12 level z.to (bounding_child_in (nodes_in reads mid rows) m) (λ f. node_below (nodes_in reads before.pages before.rows) f level z.to + below (nodes_in reads before.pages before.rows) f goal x) (λ d. max (tops d (nodes_in reads before.pages before.rows z.to).slots) (x.reach d))
      stood = stands-later (nodes_in reads mid rows) (nodes_in reads linked rows2) 12 level z.to _ _ (bounding_child_in (nodes_in reads mid rows) m) put.stands later

      child_same : nodes_in reads linked rows2 z.to ≡ nodes_in reads mid rows z.to
      child_same = later z.to (let o = one_at-same z.to in omega arith)

      step : Stepped (nodes_in reads before.pages before.rows) (nodes_in reads linked rows2) (suc level) (nodes_in reads before.pages before.rows page).slots t z z' (bounding_child_in (nodes_in reads mid rows) m) (λ f. below (nodes_in reads before.pages before.rows) f goal x) (λ d. x.reach d)
      step = stepped (nodes_in reads before.pages before.rows) (nodes_in reads linked rows2) level (nodes_in reads before.pages before.rows page).slots t at z z' (bounding_child_in (nodes_in reads mid rows) m) (λ f. below (nodes_in reads before.pages before.rows) f goal x) (λ d. x.reach d)
          within here there same to (λ d. least_is d ∙ ap (λ (v : NodeView). tops d v.slots) (sym child_same)) its.1
          opened.node.items (λ n. let o = opened.once n in omega arith)
          (λ n h l. let o = opened.once n in let e = put.moves.kept n in
          still reads (view mid rows count first put.free) (view linked rows2 count2 first2 free2) n (shift.others n (omega arith) (omega arith)) ∙ still reads before (view mid rows count first put.free) n (put.moves.others n (omega arith) (omega arith)))
          stood.stands

      more_same : bounding_child_in (nodes_in reads linked rows2) m ≡ bounding_child_in (nodes_in reads mid rows) m
      more_same = bounding-same (nodes_in reads mid rows) (nodes_in reads linked rows2) m (λ y e. later y.to (let o = one_at-same y.to in let a = ap (λ (q : Option Item). got (λ v. uses (nodes_in reads mid rows) (suc level) v y.to) (bounding_child_in (nodes_in reads mid rows) q)) e in omega arith))

      -- the slots may be written once the child has changed
      pub ready_again : (l : ℕ) → l ≡ suc level → IsReady reads (view linked rows2 count2 first2 free2) least (suc level) page (record { level = l; slots = t }) (bounding_child_in (nodes_in reads linked rows2) m)
      ready_again l e = subst (λ (q : Option Item). IsReady reads (view linked rows2 count2 first2 free2) least (suc level) page (record { level = l; slots = t }) q) (sym more_same) (record {
        level_is = e;
        some = let a = step.as_many in let b = opened.node.some in omega arith;
        small = opened.small;
        items = step.items;
        beside = step.beside;
        supplied = shift.supplied;
        once = λ n. let a = put.moves.kept n in let b = shift.kept n in let p = step.pages n in let o = opened.once n in let q = stood.pages n in let u : one_at z'.to n ≡ one_at z.to n = ap (λ (v : ℕ). one_at v n) to in
            let w : amount (λ y. uses (nodes_in reads linked rows2) level y n) (nodes_in reads linked rows2 z'.to).slots ≡ amount (λ y. uses (nodes_in reads linked rows2) level y n) (nodes_in reads linked rows2 z.to).slots = ap (λ (v : ℕ). amount (λ y. uses (nodes_in reads linked rows2) level y n) (nodes_in reads linked rows2 v).slots) to in
            omega arith;
        blank = λ n d. blank-after reads (view mid rows count first put.free) (view linked rows2 count2 first2 free2) (one_at page) (one_at page) shift n (one_at-other page n d) (one_at-other page n d) (put.blank n);
        empty = empty;
      })

      -- the nodes below the slots, and beside them
      stepped_heads : (g : ℕ → ℕ → ℕ) → amount (λ y. heads (nodes_in reads linked rows2) g (suc level) y) t + got (λ y. heads (nodes_in reads linked rows2) g (suc level) y) (bounding_child_in (nodes_in reads mid rows) m)
          ≡ amount (λ y. heads (nodes_in reads before.pages before.rows) g (suc level) y) (nodes_in reads before.pages before.rows page).slots + (heads (nodes_in reads before.pages before.rows) g goal x + total_heads g put.fresh)
      stepped_heads g = step-heads (nodes_in reads before.pages before.rows) (nodes_in reads linked rows2) g level (nodes_in reads before.pages before.rows page).slots t at z z' (bounding_child_in (nodes_in reads mid rows) m) (heads (nodes_in reads before.pages before.rows) g goal x + total_heads g put.fresh)
          within here there same to (λ n. let o = opened.once n in omega arith)
          (λ n h l. let o = opened.once n in let e = put.moves.kept n in
          still reads (view mid rows count first put.free) (view linked rows2 count2 first2 free2) n (shift.others n (omega arith) (omega arith)) ∙ still reads before (view mid rows count first put.free) n (put.moves.others n (omega arith) (omega arith)))
          (let a = stand-heads (nodes_in reads mid rows) (nodes_in reads linked rows2) g level z.to (bounding_child_in (nodes_in reads mid rows) m) later in let b = put.counts_are g in omega arith)

      moved : Moves before (view linked rows2 count2 first2 free2) (λ n. node_uses (nodes_in reads before.pages before.rows) (suc level) page n + uses (nodes_in reads before.pages before.rows) goal x n)
          (λ n. one_at page n + amount (λ y. uses (nodes_in reads linked rows2) (suc level) y n) t + got (λ y. uses (nodes_in reads linked rows2) (suc level) y n) (bounding_child_in (nodes_in reads mid rows) m))
      moved = moves-further
          (moves-as {g' = λ n. one_at page n + (stand_uses (nodes_in reads mid rows) level z.to (bounding_child_in (nodes_in reads mid rows) m) n + (amount (λ y. uses (nodes_in reads before.pages before.rows) (suc level) y n) (nodes_in reads before.pages before.rows page).slots - uses (nodes_in reads before.pages before.rows) (suc level) z n))}
          (λ n. let a = least_part n in omega arith) (λ n. omega arith)
          (moves-beside (λ n. one_at page n + (amount (λ y. uses (nodes_in reads before.pages before.rows) (suc level) y n) (nodes_in reads before.pages before.rows page).slots - uses (nodes_in reads before.pages before.rows) (suc level) z n)) put.moves))
          (moves-as (λ n. omega arith)
          (λ n. let a = least_part n in let p = step.pages n in let q = stood.pages n in let u : one_at z'.to n ≡ one_at z.to n = ap (λ (v : ℕ). one_at v n) to in
          let w : amount (λ y. uses (nodes_in reads linked rows2) level y n) (nodes_in reads linked rows2 z'.to).slots ≡ amount (λ y. uses (nodes_in reads linked rows2) level y n) (nodes_in reads linked rows2 z.to).slots = ap (λ (v : ℕ). amount (λ y. uses (nodes_in reads linked rows2) level y n) (nodes_in reads linked rows2 v).slots) to in
          omega arith)
          (moves-beside (λ n. stand_uses (nodes_in reads mid rows) level z.to (bounding_child_in (nodes_in reads mid rows) m) n + (amount (λ y. uses (nodes_in reads before.pages before.rows) (suc level) y n) (nodes_in reads before.pages before.rows page).slots - uses (nodes_in reads before.pages before.rows) (suc level) z n)) shift))

      -- the slots were written, and the item is put in
      pub put_again : (new : PageMap) (rows' count' first' : ℕ) (more' : Option Item) (told' : ℕ → ℕ) (rise' rise2 : ℕ → Type 0) → ((a b : ℕ) → rise a → rise' b → rise2 (a + b))
          → Makes reads (view linked rows2 count2 first2 free2) new rows' count' first' least (suc level) page t (bounding_child_in (nodes_in reads linked rows2) m) more' told' rise'
          → Puts reads before new rows' count' first' least (suc level) page goal x more' told' rise2
      put_again new rows' count' first' more' told' rise' rise2 join made' =
          let made : Makes reads (view linked rows2 count2 first2 free2) new rows' count' first' least (suc level) page t (bounding_child_in (nodes_in reads mid rows) m) more' told' rise' =
          subst (λ (q : Option Item). Makes reads (view linked rows2 count2 first2 free2) new rows' count' first' least (suc level) page t q more' told' rise') more_same made' in
          record {
            free = made.free;
            fresh = put.fresh ++ made.fresh;
            counted = subst rise2 (sym (length-append put.fresh made.fresh)) (join (length put.fresh) (length made.fresh) put.counted made.counted);
            counts_are = λ g. let a = made.counts_are g in let b = stepped_heads g in let t' = total-append g put.fresh made.fresh in omega arith;
            moves = moves-further moved made.moves;
            stands = record {
              node = made.stands.node;
              beside = made.stands.beside;
              sum_is = λ f. made.stands.sum_is f ∙ step.sums f;
              reach_is = λ d. made.stands.reach_is d ∙ step.reach d;
            };
            told_is = made.told_is;
            blank = made.blank;
          }
