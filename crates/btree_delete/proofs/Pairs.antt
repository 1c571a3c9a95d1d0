-- Two pages that are written, or become one.
use Rattle.std.proofs.Common.{◌≡◌, ℕ, ◌+◌, ◌<◌, ◌≤◌, List, ◌∷◌, arith, ap, ◌∙◌, sym}
use Rattle.page_face.specs.FreeList.{PageMap, with_page, IsFreePage, next_free}
use Rattle.btree_nodes.specs.Supply.{one_at, spare, view, IsSupplied, Moves}
use Rattle.btree_nodes.proofs.Supplies.{moves-write, moves-beside, moves-further, moves-as, one_at-same, with-same, with-other}
use Rattle.btree_delete.specs.Mended.{IsMerged, IsHalved}
use Rattle.btree_nodes.proofs.Gives.{moves-give}

module _ (old wrote new : PageMap) (count first left right : ℕ) (free front : List ℕ)
    (supplied : IsSupplied (view old count first free))
    (once : (n : ℕ) → one_at left n + one_at right n + spare free count n ≤ 1)
    (one : wrote ≡ with_page left front old) where
  apart : right ≡ left → ⊥
  apart e = let o = once left in let s = one_at-same left in let t = one_at-same right in
      let a : one_at right left ≡ one_at right right = ap (one_at right) (sym e) in omega arith

  first_moved : Moves (view old count first free) (view (with_page left front old) count first free) (λ n. one_at left n + one_at right n) (λ n. one_at left n + one_at right n)
  first_moved = moves-beside (one_at right) (moves-write old front count first left free supplied (let o = once left in let s = one_at-same left in omega arith))

  right_kept : spare free count right ≡ 0
  right_kept = let o = once right in let s = one_at-same right in omega arith

  pub is_merged : (count' first' : ℕ) → count' ≡ count → first' ≡ right → 0 < right → right < count
      → IsFreePage (new right) → next_free (new right) ≡ first → ((n : ℕ) → (n ≡ right → ⊥) → new n ≡ wrote n)
      → IsMerged (view old count first free) new count' first' left right front
  is_merged count' first' e f some within form next others =
      let others' : (n : ℕ) → (n ≡ right → ⊥) → new n ≡ with_page left front old n = λ n h. others n h ∙ ap (λ (p : PageMap). p n) one in
      let b : Moves (view (with_page left front old) count first free) (view new count right (right ∷ free)) (λ n. one_at left n + one_at right n) (one_at left) =
      moves-as (λ n. omega arith) (λ n. omega arith)
      (moves-beside (one_at left) (moves-give (with_page left front old) new count first right free first_moved.supplied right_kept some within form next others')) in
      record {
        free = right ∷ free;
        moves = rw (e, f) (moves-further first_moved b);
        here = others' left (λ h. apart (sym h)) ∙ with-same old front left;
      }

  pub is_halved : (back : List ℕ) (count' first' : ℕ) → count' ≡ count → first' ≡ first → new ≡ with_page right back wrote
      → IsHalved (view old count first free) new count' first' left right front back
  is_halved back count' first' e f two =
      let same : new ≡ with_page right back (with_page left front old) = two ∙ ap (with_page right back) one in
      let b : Moves (view (with_page left front old) count first free) (view (with_page right back (with_page left front old)) count first free) (λ n. one_at left n + one_at right n) (λ n. one_at left n + one_at right n) =
      moves-as (λ n. omega arith) (λ n. omega arith)
      (moves-beside (one_at left) (moves-write (with_page left front old) back count first right free first_moved.supplied right_kept)) in
      record {
        free = free;
        moves = rw (same, e, f) (moves-further first_moved b);
        here = rw same (with-other (with_page left front old) back right left (λ h. apart (sym h)) ∙ with-same old front left);
        there = rw same (with-same (with_page left front old) back right);
      }
