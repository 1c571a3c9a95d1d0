-- A page that has become two.
use Rattle.std.proofs.Common.{◌≡◌, ℕ, ◌+◌, ◌<◌, ◌≤◌, List, length, arith, ap, ◌∙◌}
use Rattle.page_face.specs.FreeList.{PageMap, with_page, next_free}
use Rattle.btree_nodes.specs.Supply.{one_at, spare, tail, view, IsSupplied, Moves}
use Rattle.btree_nodes.proofs.Supplies.{moves-take, moves-write, moves-beside, moves-further, moves-as, one_at-same, with-same, with-other, none}
use Rattle.btree_nodes.specs.Store.{IsSplit}

module _ (old taken first_written new : PageMap) (count more first next page right : ℕ) (free front back : List ℕ)
    (supplied : IsSupplied (view old count first free))
    (once : (n : ℕ) → one_at page n + spare free count n ≤ 1)
    (isnew : first ≡ 0 → (right ≡ count) × (more ≡ count + 1) × (next ≡ 0))
    (isfree : 0 < first → (right ≡ first) × (more ≡ count) × (0 < length (old right) → next ≡ next_free (old right)))
    (others : (n : ℕ) → (n ≡ right → ⊥) → taken n ≡ old n)
    (one : first_written ≡ with_page page front taken) (two : new ≡ with_page right back first_written) where
  took : Moves (view old count first free) (view taken more next (tail free)) none (one_at right)
  took = moves-take old taken count more first next right free supplied (λ n. let o = once n in omega arith) isnew isfree others

  page_kept : (one_at right page ≡ 0) × (spare (tail free) more page ≡ 0)
  page_kept = let o = once page in let s = one_at-same page in let k = took.kept page in (omega arith, omega arith)

  right_kept : spare (tail free) more right ≡ 0
  right_kept = let o = once right in let s = one_at-same right in let k = took.kept right in omega arith

  wrote : Moves (view taken more next (tail free)) (view (with_page page front taken) more next (tail free)) (one_at page) (one_at page)
  wrote = moves-write taken front more next page (tail free) took.supplied page_kept.1

  wrote_right : Moves (view (with_page page front taken) more next (tail free)) (view (with_page right back (with_page page front taken)) more next (tail free)) (one_at right) (one_at right)
  wrote_right = moves-write (with_page page front taken) back more next right (tail free) wrote.supplied right_kept

  all_moves : Moves (view old count first free) (view (with_page right back (with_page page front taken)) more next (tail free)) (one_at page) (λ n. one_at page n + one_at right n)
  all_moves =
      let a : Moves (view old count first free) (view taken more next (tail free)) (one_at page) (λ n. one_at page n + one_at right n) =
      moves-as (λ n. omega arith) (λ n. omega arith) (moves-beside (one_at page) took) in
      let b : Moves (view taken more next (tail free)) (view (with_page page front taken) more next (tail free)) (λ n. one_at page n + one_at right n) (λ n. one_at page n + one_at right n) =
      moves-beside (one_at right) wrote in
      let d : Moves (view (with_page page front taken) more next (tail free)) (view (with_page right back (with_page page front taken)) more next (tail free)) (λ n. one_at page n + one_at right n) (λ n. one_at page n + one_at right n) =
      moves-as (λ n. omega arith) (λ n. omega arith) (moves-beside (one_at page) wrote_right) in
      moves-further a (moves-further b d)

  pub is_split : (count' first' : ℕ) → count' ≡ more → first' ≡ next → IsSplit (view old count first free) new count' first' page right front back
  is_split count' first' e f =
      let same : new ≡ with_page right back (with_page page front taken) = two ∙ ap (with_page right back) one in
      record {
        free = tail free;
        moves = rw (same, e, f) all_moves;
        here = rw same (with-other (with_page page front taken) back right page (λ k. let s = one_at-same right in
            let a : one_at right page ≡ one_at right right = ap (one_at right) k in let p = page_kept.0 in omega arith)
            ∙ with-same taken front page);
        there = rw same (with-same (with_page page front taken) back right);
      }
