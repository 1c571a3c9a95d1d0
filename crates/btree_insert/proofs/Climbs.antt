-- What a put below an inner page has done to it.
use Rattle.std.proofs.Common.{◌≡◌, ℕ, suc, ◌+◌, ◌-◌, ◌<◌, ◌≤◌, List, [], ◌∷◌, ◌++◌, length, get_or, take, drop, arith, refl, sym, ap, ◌∙◌, subst, append-nil, append_assoc, ◌==◌, Bool, true, false, if◌then◌else◌}
use Rattle.std.proofs.lemmas.List.{take-append-drop, drop_more, take_more}
use Rattle.page_face.specs.FreeList.{PageMap}
use Rattle.btree_nodes.specs.Supply.{one_at, spare}
use Rattle.btree_nodes.specs.Supply.{view, IsSupplied, Moves}
use Rattle.btree_nodes.proofs.Supplies.{one_at-same, moves-beside, moves-further, moves-as}
use Rattle.btree_nodes.specs.declared.form.Form.{Form}
use Rattle.btree_nodes.specs.Rows.{put}
use Rattle.btree_nodes.specs.Nodes.{Entry, entries_in, IsInner, half_of}
use Rattle.btree_nodes.specs.Bounds.{low_at, high_at, child_of}
use Rattle.btree_nodes.specs.Tree.{next_key, IsFan, IsTree, IsPlaceFor, rows_at, uses, total, with_low}
use Rattle.btree_nodes.specs.Store.{IsGrown, grown, below_rows, linked}
use Rattle.btree_nodes.proofs.Fans.{no_entry, with_low-rows, with_low-child, with_low-key, with_low-from, length-with_low, next_key-drop, drop-with_low}
use Rattle.btree_nodes.proofs.Trees.{tree-within}
use Rattle.btree_nodes.proofs.Frames.{EditFan, fan-edit, tree-frame, total-at, with_low-total}
use Rattle.btree_nodes.proofs.Puts.{put-edit}
use Rattle.btree_insert.proofs.Leaves.{grown-two}

pub up-one : (at : ℕ) → at + 1 ≡ suc at
up-one at = omega arith

same-least : (b : Bool) (half : ℕ) → (if b then half else half) ≡ half
same-least true half = refl
same-least false half = refl

module _ (form : Form) (least : ℕ) (old : PageMap) (count first level page low high key at child : ℕ) (value : List ℕ) (free : List ℕ)
    (tree : IsTree form least old (suc level) page low high) (from : low ≤ key) (to : key < high)
    (place : IsPlaceFor (entries_in form (old page)) key at) (child_is : child ≡ child_of form (old page) at)
    (once : (n : ℕ) → uses form old (suc level) page n + spare free count n ≤ 1) where
  ws : List Entry
  ws = with_low low (entries_in form (old page))

  here : at < length ws
  unfolding ws
  here = rw (length-with_low low (entries_in form (old page))) place.within

  named : (get_or ws at no_entry).1 ≡ child
  unfolding ws
  named = with_low-child low (entries_in form (old page)) at ∙ sym child_is

  above : (get_or ws at no_entry).0 ≤ key
  unfolding ws
  above = with_low-from low key (entries_in form (old page)) at from place.from

  beyond : key < next_key high (drop (suc at) ws)
  unfolding ws
  beyond = next_key-drop high key ws (suc at) to (λ h. rw (with_low-key low (entries_in form (old page)) (suc at) (omega arith)) (place.next (rw length-with_low at h)))

  child-uses : (n : ℕ) → uses form old level child n ≤ total (λ (c : ℕ). uses form old level c n) (entries_in form (old page))
  unfolding ws
  child-uses n =
      let a = total-at (uses form old level) ws at here n in
      let b : uses form old level (get_or ws at no_entry).1 n ≡ uses form old level child n = ap (λ (c : ℕ). uses form old level c n) named in
      let d = with_low-total (λ (c : ℕ). uses form old level c n) low (entries_in form (old page)) in
      omega arith

  module _ (new : PageMap) (count' first' right middle : ℕ)
      (grew : IsGrown form (half_of form level) (view old count first free) (uses form old level child) new count' first' level child
      (low_at form (old page) low at) (high_at form (old page) high at) (put key value (rows_at form old level child)) right middle) where
    next : List Entry
    next = take at ws ++ (grew.entries ++ drop (suc at) ws)

    -- the page itself has stayed
    pub page-same : new page ≡ old page
    page-same = let o = once page in let u = child-uses page in let s = one_at-same page in
        let a : uses form old level child page ≡ 0 = omega arith in
        let b : spare free count page ≡ 0 = omega arith in
        grew.moves.others page a b

    still : (n : ℕ) → uses form old level (get_or ws at no_entry).1 n ≡ 0 → 0 < total (λ (c : ℕ). uses form old level c n) ws → new n ≡ old n
    unfolding ws
    still n h k =
        let o = once n in
        let d = with_low-total (λ (c : ℕ). uses form old level c n) low (entries_in form (old page)) in
        let b : uses form old level (get_or ws at no_entry).1 n ≡ uses form old level child n = ap (λ (c : ℕ). uses form old level c n) named in
        let z : uses form old level child n ≡ 0 = omega arith in
        let w : spare free count n ≡ 0 = omega arith in
        grew.moves.others n z w

    -- the entries in the child's place keep to its bounds
    child-fan : IsFan (IsTree form (half_of form level) new level) (get_or ws at no_entry).0 (next_key high (drop (suc at) ws)) grew.entries
    unfolding ws
    child-fan =
        subst (λ (xs : List Entry). IsFan (IsTree form (half_of form level) new level) (get_or (with_low low (entries_in form (old page))) at no_entry).0 (next_key high xs) grew.entries) (sym (drop-with_low low (entries_in form (old page)) at))
        (subst (λ (k : ℕ). IsFan (IsTree form k new level) (low_at form (old page) low at) (high_at form (old page) high at) grew.entries) (same-least (right == 0) (half_of form level)) grew.fan)

    fanned : EditFan (IsTree form (half_of form level) new level) (rows_at form old level) (rows_at form new level) (uses form old level) (uses form new level) low high (put key value) ws grew.entries at
    unfolding ws
    fanned = fan-edit (IsTree form (half_of form level) old level) (IsTree form (half_of form level) new level) (rows_at form old level) (rows_at form new level) (uses form old level) (uses form new level) (λ n. new n ≡ old n)
        (λ c a b t. tree-within form (half_of form level) old level c a b t) (λ c a b t s. tree-frame form (half_of form level) old new level c a b t s) key (put key value) (put-edit key value) grew.entries
        low high ws at tree.1 here above beyond still
        (λ n. let o = once n in let d = with_low-total (λ (c : ℕ). uses form old level c n) low (entries_in form (old page)) in omega arith)
        child-fan (grew.gives ∙ ap (λ (c : ℕ). put key value (rows_at form old level c)) (sym named))

    -- what has moved below the page
    moved : Moves (view old count first free) (view new count' first' grew.free) (uses form old (suc level) page) (λ n. one_at page n + total (λ (c : ℕ). uses form new level c n) next)
    unfolding ws next
    moved = moves-as
        (λ n. let u = child-uses n in omega arith)
        (λ n. let u = child-uses n in let f = fanned.uses n in
        let d = with_low-total (λ (c : ℕ). uses form old level c n) low (entries_in form (old page)) in
        let b : uses form old level (get_or ws at no_entry).1 n ≡ uses form old level child n = ap (λ (c : ℕ). uses form old level c n) named in omega arith)
        (moves-beside (λ n. one_at page n + (total (λ (c : ℕ). uses form old level c n) (entries_in form (old page)) - uses form old level child n)) grew.moves)

    rows-are : below_rows form new level next ≡ put key value (rows_at form old (suc level) page)
    unfolding ws next
    rows-are = fanned.rows ∙ ap (put key value) (with_low-rows (rows_at form old level) low (entries_in form (old page)))

    pub not_split : right ≡ 0 → IsGrown form least (view old count first free) (uses form old (suc level) page) new count' first' (suc level) page low high (put key value (rows_at form old (suc level) page)) 0 middle
    unfolding ws next
    not_split zero_right =
        let es : List Entry = entries_in form (old page) in
        let one : grew.entries ≡ ((get_or ws at no_entry).0, child) ∷ [] =
        grew.is ∙ ap (λ (r : ℕ). grown (get_or ws at no_entry).0 child r middle) zero_right in
        let itself : ((get_or ws at no_entry).0, child) ∷ [] ≡ get_or ws at no_entry ∷ [] = ap (λ (c : ℕ). ((get_or ws at no_entry).0, c) ∷ []) (sym named) in
        let step : suc at ≡ at + 1 = omega arith in
        let same : next ≡ ws =
        ap (λ (x : List Entry). take at ws ++ (x ++ drop (suc at) ws)) (one ∙ itself)
        ∙ ap (λ (x : List Entry). take at ws ++ x) (ap (λ (k : ℕ). get_or ws at no_entry ∷ drop k ws) step ∙ sym (drop_more ws at no_entry here))
        ∙ take-append-drop at ws in
        let fan : IsFan (IsTree form (half_of form level) new level) low high ws = subst (λ (x : List Entry). IsFan (IsTree form (half_of form level) new level) low high x) same fanned.fan in
        let whole : IsTree form least new (suc level) page low high = (
          subst (λ (b : List ℕ). IsInner form least (suc level) b) (sym page-same) tree.0,
          subst (λ (b : List ℕ). IsFan (IsTree form (half_of form level) new level) low high (with_low low (entries_in form b))) (sym page-same) fan,
        ) in
        let rows : rows_at form new (suc level) page ≡ below_rows form new level next =
        ap (λ (b : List ℕ). below_rows form new level (entries_in form b)) page-same
        ∙ sym (with_low-rows (rows_at form new level) low es)
        ∙ ap (below_rows form new level) (sym same) in
        record {
          free = grew.free;
          entries = (low, page) ∷ [];
          is = refl;
          moves = moves-as (λ n. refl) (λ n.
              let a : total (λ (c : ℕ). uses form new level c n) next ≡ total (λ (c : ℕ). uses form new level c n) ws = ap (total (λ (c : ℕ). uses form new level c n)) same in
              let b = with_low-total (λ (c : ℕ). uses form new level c n) low es in
              let d : total (λ (c : ℕ). uses form new level c n) (entries_in form (new page)) ≡ total (λ (c : ℕ). uses form new level c n) es =
              ap (λ (x : List ℕ). total (λ (c : ℕ). uses form new level c n) (entries_in form x)) page-same in
              omega arith) moved;
          fan = (refl, omega arith, whole, refl);
          gives = append-nil (rows_at form new (suc level) page) ∙ rows ∙ rows-are;
        }

    -- where the child was split, the entries that the page is to have
    to-link : 0 < right → next ≡ linked low (entries_in form (old page)) at right middle
    unfolding ws next
    to-link some =
        let entry : ((get_or ws at no_entry).0, child) ≡ get_or ws at no_entry = ap (λ (c : ℕ). ((get_or ws at no_entry).0, c)) (sym named) in
        ap (λ (x : List Entry). take at ws ++ (x ++ drop (suc at) ws)) (grew.is ∙ sym (grown-two (get_or ws at no_entry).0 child right middle some))
        ∙ ap (λ (x : Entry). take at ws ++ (x ∷ ((middle, right) ∷ drop (suc at) ws))) entry
        ∙ sym (append_assoc (take at ws) (get_or ws at no_entry ∷ []) ((middle, right) ∷ drop (suc at) ws))
        ∙ ap (λ (x : List Entry). x ++ ((middle, right) ∷ drop (suc at) ws)) (sym (take_more ws at no_entry here) ∙ ap (λ (k : ℕ). take k ws) (up-one at))

    pub record Links : Type 0 where
      pub inner : IsInner form least (suc level) (old page)
      pub fan : IsFan (IsTree form (half_of form level) new level) low high (linked low (entries_in form (old page)) at right middle)
      pub free_now : List ℕ
      pub supplied : IsSupplied (view new count' first' free_now)
      pub once_more : (n : ℕ) → one_at page n + total (λ (c : ℕ). uses form new level c n) (linked low (entries_in form (old page)) at right middle) + spare free_now count' n ≤ 1
      pub then_grown : (last : PageMap) (count'' first'' more later : ℕ)
          → IsGrown form least (view new count' first' free_now) (λ n. one_at page n + total (λ (c : ℕ). uses form new level c n) (linked low (entries_in form (old page)) at right middle)) last count'' first'' (suc level) page low high
          (below_rows form new level (linked low (entries_in form (old page)) at right middle)) more later
          → IsGrown form least (view old count first free) (uses form old (suc level) page) last count'' first'' (suc level) page low high (put key value (rows_at form old (suc level) page)) more later

    pub links : 0 < right → Links
    unfolding next
    links some =
        let e = to-link some in
        let m : Moves (view old count first free) (view new count' first' grew.free) (uses form old (suc level) page) (λ n. one_at page n + total (λ (c : ℕ). uses form new level c n) (linked low (entries_in form (old page)) at right middle)) =
        moves-as (λ n. refl) (λ n. ap (λ (x : List Entry). one_at page n + total (λ (c : ℕ). uses form new level c n) x) (sym e)) moved in
        record {
          inner = tree.0;
          fan = subst (λ (x : List Entry). IsFan (IsTree form (half_of form level) new level) low high x) e fanned.fan;
          free_now = grew.free;
          supplied = grew.moves.supplied;
          once_more = λ n. let k = m.kept n in let o = once n in omega arith;
          then_grown = λ last count'' first'' more later g. record {
            free = g.free;
            entries = g.entries;
            is = g.is;
            moves = moves-further m g.moves;
            fan = g.fan;
            gives = g.gives ∙ ap (below_rows form new level) (sym e) ∙ rows-are;
          };
        }
