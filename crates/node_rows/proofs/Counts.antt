-- Words that are counted.
use Rattle.std.proofs.Common.{◌≡◌, ℕ, zero, suc, ◌+◌, ◌-◌, ◌<◌, ◌≤◌, ◌⊎◌, inl, inr, min, arith, refl, sym, ap, ◌∙◌, List, [], ◌∷◌, if◌then◌else◌, true, false, Bool, nat_lt, ◌&&◌, slice_index_or, slice_set, length, rules}
use Rattle.std.proofs.lemmas.Bool.Decides.{nat_tests}
use Rattle.page_face.specs.FreeList.{are_zero}
use Rattle.rtree_nodes.specs.Slots.{sum_to}
use Rattle.rtree_nodes.proofs.Looses.{sum_none}
use Rattle.node_rows.specs.Rows.{Bytes}
use Rattle.node_rows.specs.Impacts.{impact_in}
use Rattle.node_rows.specs.Counts.{sign, most, both, counted_on, impact_33, alike, cell}
use Rattle.node_rows.proofs.Bytes.{zero-at}

-- a count that stays at its last value
pub capped : (a s m : ℕ) → min (min a m + s) m ≡ min (a + s) m
capped a s m = omega arith

-- a count goes on by one word
pub counted-more : (n x y : ℕ) → counted_on (min n most) x y ≡ min (n + both x y) most
counted-more n x y = elim (nat_lt 0 x) as (λ (t : Bool). (if t then min (min n most + sign y) most else min n most) ≡ min (n + (if t then sign y else 0)) most) [ true ↦ capped n (sign y) most | false ↦ omega arith ]

-- a word that the first entry has
pub counted-set : (count x y : ℕ) → (x ≡ 0 → ⊥) → min (count + sign y) most ≡ counted_on count x y
counted-set count x y k = let t : nat_lt 0 x ≡ true = grind (arith, nat_tests) in ap (λ (b : Bool). if b then min (count + sign y) most else count) (sym t)

-- a word that the first entry doesn't have
pub counted-same : (count x y : ℕ) → x ≡ 0 → count ≡ counted_on count x y
counted-same count x y e = let t : nat_lt 0 x ≡ false = grind (arith, nat_tests) in ap (λ (b : Bool). if b then min (count + sign y) most else count) (sym t)

pub and-left : (a b : Bool) → (a && b) ≡ true → a ≡ true
and-left true b h = refl
and-left false b h = cc

and-right : (a b : Bool) → (a && b) ≡ true → b ≡ true
and-right true b h = h
and-right false b h = cc

-- each line is all zeros
abbrev pub are_clear : List (List ℕ) → Bool
are_clear [] = true
are_clear (line ∷ lines) = are_zero line && are_clear lines

-- a table of zeros has no count
pub cell-clear : (table : List (List ℕ)) (i j : ℕ) → are_clear table ≡ true → cell table i j ≡ 0
cell-clear [] zero j h = zero-at [] j refl
cell-clear [] (suc i) j h = zero-at [] j refl
cell-clear (line ∷ lines) zero j h = zero-at line j (and-left (are_zero line) (are_clear lines) h)
cell-clear (line ∷ lines) (suc i) j h = cell-clear lines i j (and-right (are_zero line) (are_clear lines) h)

pub sum-next : (n : ℕ) (g : ℕ → ℕ) → sum_to (n + 1) g ≡ sum_to n g + g n
unfolding sum_to
sum-next n g = let e : n + 1 ≡ suc n = omega arith in rw e (omega arith)

-- no words between two
sum-more : (at m : ℕ) (g : ℕ → ℕ) → ((w : ℕ) → at ≤ w → w < at + m → g w ≡ 0) → sum_to (at + m) g ≡ sum_to at g
unfolding sum_to
sum-more at zero g h = let e : at + zero ≡ at = omega arith in ap (λ (k : ℕ). sum_to k g) e
sum-more at (suc m) g h = let e : at + suc m ≡ suc (at + m) = omega arith in ap (λ (k : ℕ). sum_to k g) e ∙ (let z = h (at + m) (omega arith) (omega arith) in let r = sum-more at m g (λ w a l. h w a (omega arith)) in omega arith)

pub sum-quiet : (at word : ℕ) (g : ℕ → ℕ) → at ≤ word → ((w : ℕ) → at ≤ w → w < word → g w ≡ 0) → sum_to word g ≡ sum_to at g
sum-quiet at word g l h = let e : at + (word - at) ≡ word = omega arith in ap (λ (k : ℕ). sum_to k g) (sym e) ∙ sum-more at (word - at) g (λ w a m. h w a (omega arith))

both-none : (x y : ℕ) → x ≡ 0 → both x y ≡ 0
both-none x y e = grind (arith, nat_tests)

both-none_right : (x y : ℕ) → y ≡ 0 → both x y ≡ 0
both-none_right x y e = grind (arith, nat_tests)

-- two of 33 entries share no word at which the node has no byte, if one of them is a slot
pub quiet-both : (b : Bytes) (node : ℕ) (ps : List (ℕ × ℕ)) (w i j : ℕ) → ((q : ℕ) → b node w q ≡ 0) → (i < 32) ⊎ (j < 32) → both (impact_33 b node ps w i) (impact_33 b node ps w j) ≡ 0
quiet-both b node ps w i j none h = elim h [
  | inl l ↦ let t : nat_lt i 32 ≡ true = grind (arith, nat_tests) in both-none _ _ (ap (λ (x : Bool). if x then b node w i else impact_in ps w) t ∙ none i)
  | inr l ↦ let t : nat_lt j 32 ≡ true = grind (arith, nat_tests) in both-none_right _ _ (ap (λ (x : Bool). if x then b node w j else impact_in ps w) t ∙ none j)
]

module _ (b : Bytes) (node : ℕ) (ps : List (ℕ × ℕ)) (at i j : ℕ) (h : (i < 32) ⊎ (j < 32)) where
  -- one word more was counted
  pub alike-next : (word : ℕ) → at ≤ word → ((w q : ℕ) → at ≤ w → w < word → b node w q ≡ 0)
      → alike b node ps (word + 1) i j ≡ alike b node ps at i j + both (impact_33 b node ps word i) (impact_33 b node ps word j)
  unfolding alike
  alike-next word on none = sum-next word (λ w. both (impact_33 b node ps w i) (impact_33 b node ps w j))
      ∙ ap (λ (m : ℕ). m + both (impact_33 b node ps word i) (impact_33 b node ps word j)) (sum-quiet at word (λ w. both (impact_33 b node ps w i) (impact_33 b node ps w j)) on (λ w a l. quiet-both b node ps w i j (λ q. none w q a l) h))

  -- no word is left
  pub alike-rest : (k : ℕ) → at ≤ k → ((w q : ℕ) → at ≤ w → b node w q ≡ 0) → alike b node ps k i j ≡ alike b node ps at i j
  unfolding alike
  alike-rest k on none = sum-quiet at k (λ w. both (impact_33 b node ps w i) (impact_33 b node ps w j)) on (λ w a l. quiet-both b node ps w i j (λ q. none w q a) h)

pub alike-none : (b : Bytes) (node : ℕ) (ps : List (ℕ × ℕ)) (i j : ℕ) → alike b node ps 0 i j ≡ 0
unfolding alike
alike-none b node ps i j = sum_none (λ w. both (impact_33 b node ps w i) (impact_33 b node ps w j))

pub set-here : (t : List (List ℕ)) (at : ℕ) (v : List ℕ) → at < length t → slice_index_or (slice_set t at v) at [] ≡ v
set-here t at v l = search rules

pub set-other : (t : List (List ℕ)) (at i : ℕ) (v : List ℕ) → (i ≡ at → ⊥) → slice_index_or (slice_set t at v) i [] ≡ slice_index_or t i []
set-other t at i v d = search rules

pub set-long : (t : List (List ℕ)) (at : ℕ) (v : List ℕ) → length (slice_set t at v) ≡ length t
set-long t at v = search rules
