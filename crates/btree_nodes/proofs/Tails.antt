-- Cells that are moved within their page.
use Rattle.std.proofs.Common.{arith, refl, true, ◌==◌, ◌*◌, [], ◌∷◌, get_or, ◌≡◌, ℕ, ◌+◌, ◌-◌, ◌<◌, ◌≤◌, List, ◌++◌, length, take, drop, replicate, sym, ap, ◌∙◌, subst, append_assoc, append-nil}
use Rattle.std.proofs.lemmas.List.{take_all, drop_all, take_at, drop_at, length-append, length-take-le, length-drop, drop-drop, drop-take, take-take, drop-replicate, replicate-append-replicate, take-append-drop}
use Rattle.std.proofs.lemmas.Bool.Decides.{nat_tests}
use borrow.Rule.Slice.PartMut.{put_mid}
use Rattle.std.specs.List.{copy_within}
use Rattle.std.specs.Int.{to_be_bytes, w16}
use Rattle.page_face.specs.FreeList.{are_zero}
use Rattle.page_face.specs.Nodes.{count_of, IsNode}
use Rattle.btree_nodes.specs.Build.{image, head_of}
use Rattle.btree_nodes.proofs.Checks.{and-true}

-- the bytes from one place up to `size`, moved to another
module _ (xs : List ℕ) (size from to : ℕ) (order : from ≤ size) (within : size ≤ length xs) (fits : to + (size - from) ≤ length xs)
    (zeros : drop size xs ≡ replicate (length xs - size) 0) where
  -- the bytes that are moved
  tail-is : take (size - from) (drop from xs) ≡ drop from (take size xs)
  tail-is = sym (drop-take from (size - from) xs) ∙ ap (λ (n : ℕ). drop from (take n xs)) (omega arith)

  tail-long : length (take (size - from) (drop from xs)) ≡ size - from
  tail-long = length-take-le (size - from) (drop from xs) (omega (arith, length-drop from xs))

  before-long : length (take to xs ++ take (size - from) (drop from xs)) ≡ to + (size - from)
  before-long = omega (arith, length-append (take to xs) (take (size - from) (drop from xs)), length-take-le to xs (omega arith), tail-long)

  -- the zeros from a later place on
  pub zeros-from : (end : ℕ) → size ≤ end → drop end xs ≡ replicate (length xs - end) 0
  zeros-from end later =
      ap (λ (n : ℕ). drop n xs) {x = end} {y = size + (end - size)} (omega arith) ∙ sym (drop-drop (end - size) size xs)
      ∙ ap (drop (end - size)) zeros ∙ drop-replicate (end - size) (length xs - size) 0
      ∙ ap (λ (n : ℕ). replicate n 0) {x = length xs - size - (end - size)} {y = length xs - end} (omega arith)

  module _ (moved : List ℕ) (is : moved ≡ copy_within xs from size to) where
    -- not further to the front: zeros follow
    pub moved-back : size ≤ to + (size - from) → drop to moved ≡ drop from (take size xs) ++ replicate (length xs - (to + (size - from))) 0
    moved-back later =
        ap (drop to) (is ∙ append_assoc (take to xs) (take (size - from) (drop from xs)) (drop (to + (size - from)) xs))
        ∙ drop_at (take to xs) (take (size - from) (drop from xs) ++ drop (to + (size - from)) xs) to (length-take-le to xs (omega arith))
        ∙ ap (λ (x : List ℕ). x ++ drop (to + (size - from)) xs) tail-is
        ∙ ap (λ (x : List ℕ). drop from (take size xs) ++ x) (zeros-from (to + (size - from)) later)

    -- further to the front: zeros are written after them
    pub moved-front : (none : List ℕ) → to + (size - from) < size → none ≡ replicate (size - (to + (size - from))) 0
        → drop to (put_mid (to + (size - from)) (size - (to + (size - from))) moved none) ≡ drop from (take size xs) ++ replicate (length xs - (to + (size - from))) 0
    moved-front none earlier all =
        let front : take (to + (size - from)) moved ≡ take to xs ++ take (size - from) (drop from xs) =
        ap (take (to + (size - from))) is ∙ take_at (take to xs ++ take (size - from) (drop from xs)) (drop (to + (size - from)) xs) (to + (size - from)) before-long in
        let back : drop (size - (to + (size - from))) (drop (to + (size - from)) moved) ≡ replicate (length xs - size) 0 =
        ap (λ (x : List ℕ). drop (size - (to + (size - from))) (drop (to + (size - from)) x)) is
        ∙ ap (drop (size - (to + (size - from)))) (drop_at (take to xs ++ take (size - from) (drop from xs)) (drop (to + (size - from)) xs) (to + (size - from)) before-long)
        ∙ drop-drop (size - (to + (size - from))) (to + (size - from)) xs
        ∙ ap (λ (n : ℕ). drop n xs) {x = to + (size - from) + (size - (to + (size - from)))} {y = size} (omega arith) ∙ zeros in
        let rest : none ++ drop (size - (to + (size - from))) (drop (to + (size - from)) moved) ≡ replicate (length xs - (to + (size - from))) 0 =
        ap (λ (x : List ℕ). x ++ drop (size - (to + (size - from))) (drop (to + (size - from)) moved)) all
        ∙ ap (λ (x : List ℕ). replicate (size - (to + (size - from))) 0 ++ x) back
        ∙ replicate-append-replicate (size - (to + (size - from))) (length xs - size) 0
        ∙ ap (λ (n : ℕ). replicate n 0) {x = size - (to + (size - from)) + (length xs - size)} {y = length xs - (to + (size - from))} (omega arith) in
        ap (λ (x : List ℕ). drop to (x ++ (none ++ drop (size - (to + (size - from))) (drop (to + (size - from)) moved)))) front
        ∙ ap (λ (x : List ℕ). drop to ((take to xs ++ take (size - from) (drop from xs)) ++ x)) rest
        ∙ ap (drop to) (append_assoc (take to xs) (take (size - from) (drop from xs)) (replicate (length xs - (to + (size - from))) 0))
        ∙ drop_at (take to xs) (take (size - from) (drop from xs) ++ replicate (length xs - (to + (size - from))) 0) to (length-take-le to xs (omega arith))
        ∙ ap (λ (x : List ℕ). x ++ replicate (length xs - (to + (size - from))) 0) tail-is

-- a new cell, in two pieces, before bytes that were moved behind it
pub spliced-in : (out first second tail a b e : List ℕ) (at size spare : ℕ) → at ≤ size → at + length first + length second ≤ length a
    → take at a ≡ take at out → drop (at + length first + length second) a ≡ tail ++ replicate spare 0
    → b ≡ take at a ++ (first ++ drop (at + length first) a) → take (at + length first) b ≡ take at a ++ first
    → e ≡ take (at + length first) b ++ (second ++ drop (at + length first + length second) b)
    → e ≡ (take at (take size out) ++ ((first ++ second) ++ tail)) ++ replicate spare 0
spliced-in out first second tail a b e at size spare order long p q r s t =
    let z : List ℕ = replicate spare 0 in
    let front : take at a ≡ take at (take size out) = p ∙ sym (take-take at size out order) in
    let same : drop (at + length first) b ≡ drop (at + length first) a =
    ap (drop (at + length first)) (r ∙ sym (append_assoc (take at a) first (drop (at + length first) a)))
    ∙ drop_at (take at a ++ first) (drop (at + length first) a) (at + length first) (omega (arith, length-append (take at a) first, length-take-le at a (omega arith))) in
    let back : drop (at + length first + length second) b ≡ tail ++ z =
    ap (λ (n : ℕ). drop n b) {x = at + length first + length second} {y = at + length first + length second} (omega arith)
    ∙ sym (drop-drop (length second) (at + length first) b) ∙ ap (drop (length second)) same ∙ drop-drop (length second) (at + length first) a ∙ q in
    t
    ∙ ap (λ (x : List ℕ). x ++ (second ++ drop (at + length first + length second) b)) (s ∙ ap (λ (x : List ℕ). x ++ first) front)
    ∙ ap (λ (x : List ℕ). (take at (take size out) ++ first) ++ (second ++ x)) back
    ∙ append_assoc (take at (take size out)) first (second ++ (tail ++ z))
    ∙ ap (λ (x : List ℕ). take at (take size out) ++ x) (ap (λ (x : List ℕ). first ++ x) (sym (append_assoc second tail z)) ∙ sym (append_assoc first (second ++ tail) z) ∙ ap (λ (x : List ℕ). x ++ z) (sym (append_assoc first second tail)))
    ∙ sym (append_assoc (take at (take size out)) ((first ++ second) ++ tail) z)

-- bytes that are all 0
pub all-zero : (xs : List ℕ) → are_zero xs ≡ true → xs ≡ replicate (length xs) 0
all-zero [] h = refl
all-zero (x ∷ xs) h =
    let t = and-true (x == 0) (are_zero xs) h in
    let z : x ≡ 0 = grind (arith, nat_tests, t.0) in
    ap (λ (n : ℕ). n ∷ xs) z ∙ ap (λ (ys : List ℕ). 0 ∷ ys) (all-zero xs t.1)

-- the first five bytes of a page
first-five : (page : List ℕ) → 5 ≤ length page → page ≡ get_or page 0 0 ∷ (get_or page 1 0 ∷ (get_or page 2 0 ∷ (get_or page 3 0 ∷ (get_or page 4 0 ∷ drop 5 page))))
first-five [] h = absurd (omega arith)
first-five (a ∷ []) h = absurd (omega arith)
first-five (a ∷ (b ∷ [])) h = absurd (omega arith)
first-five (a ∷ (b ∷ (c ∷ []))) h = absurd (omega arith)
first-five (a ∷ (b ∷ (c ∷ (d ∷ [])))) h = absurd (omega arith)
first-five (a ∷ (b ∷ (c ∷ (d ∷ (e ∷ rest))))) h = refl

-- a node whose cells were edited in their place, and counted anew
module _ (number kind level width least count size : ℕ) (page be marked : List ℕ) (node : IsNode number kind level width least page) (all : size ≡ width * count_of page) (b : be ≡ to_be_bytes w16 count)
    (m : marked ≡ take 2 page ++ (be ++ drop (2 + length be) page)) where
  long : length page ≡ 4096
  long = node.size

  within : 16 + size ≤ 4096
  within = let f = node.fits in omega arith

  body-long : length (take size (drop 16 page)) ≡ size
  body-long = length-take-le size (drop 16 page) (omega (arith, within, long, length-drop 16 page))

  behind : drop 5 page ≡ replicate 11 0 ++ drop 16 page
  behind =
      sym (take-append-drop 11 (drop 5 page))
      ∙ ap (λ (x : List ℕ). x ++ drop 11 (drop 5 page)) (all-zero (take 11 (drop 5 page)) node.plain ∙ ap (λ (n : ℕ). replicate n 0) (length-take-le 11 (drop 5 page) (omega (arith, long, length-drop 5 page))))
      ∙ ap (λ (x : List ℕ). replicate 11 0 ++ x) (drop-drop 11 5 page)

  headed : page ≡ kind ∷ (number ∷ (get_or page 2 0 ∷ (get_or page 3 0 ∷ (level ∷ (replicate 11 0 ++ drop 16 page)))))
  headed =
      first-five page (omega (arith, long))
      ∙ ap (λ (k : ℕ). k ∷ (get_or page 1 0 ∷ (get_or page 2 0 ∷ (get_or page 3 0 ∷ (get_or page 4 0 ∷ drop 5 page))))) node.kind
      ∙ ap (λ (k : ℕ). kind ∷ (k ∷ (get_or page 2 0 ∷ (get_or page 3 0 ∷ (get_or page 4 0 ∷ drop 5 page))))) node.of
      ∙ ap (λ (k : ℕ). kind ∷ (number ∷ (get_or page 2 0 ∷ (get_or page 3 0 ∷ (k ∷ drop 5 page))))) node.level
      ∙ ap (λ (x : List ℕ). kind ∷ (number ∷ (get_or page 2 0 ∷ (get_or page 3 0 ∷ (level ∷ x))))) behind

  marked-is : marked ≡ head_of number kind level count ++ drop 16 page
  marked-is =
      m ∙ ap (λ (y : List ℕ). take 2 page ++ (y ++ drop (2 + length y) page)) b
      ∙ ap (λ (y : List ℕ). take 2 y ++ (to_be_bytes w16 count ++ drop 4 y)) headed

  part-is : take 4080 (drop 16 marked) ≡ drop 16 page
  part-is = ap (λ (x : List ℕ). take 4080 (drop 16 x)) marked-is ∙ take_all 4080 (drop 16 page) (omega (arith, long, length-drop 16 page))

  spare : drop size (drop 16 page) ≡ replicate (length (drop 16 page) - size) 0
  spare =
      drop-drop size 16 page ∙ ap (λ (n : ℕ). drop (16 + n) page) all ∙ all-zero (drop (16 + width * count_of page) page) node.rest
      ∙ ap (λ (n : ℕ). replicate n 0) {x = length (drop (16 + width * count_of page) page)} {y = length (drop 16 page) - size}
      (omega (arith, all, length-drop (16 + width * count_of page) page, length-drop 16 page))

  pub edited-in : (at until : ℕ) (first second cells : List ℕ) → at ≤ until → until ≤ size → 16 + size + (length first + length second) ≤ 4096 + (until - at)
      → (drop size (take 4080 (drop 16 marked)) ≡ replicate (length (take 4080 (drop 16 marked)) - size) 0
      → cells ≡ (take at (take size (take 4080 (drop 16 marked))) ++ ((first ++ second) ++ drop until (take size (take 4080 (drop 16 marked)))))
      ++ replicate (length (take 4080 (drop 16 marked)) + (until - at) - (size + (length first + length second))) 0)
      → put_mid 16 4080 marked cells ≡ image number kind level count (take at (take size (drop 16 page)) ++ ((first ++ second) ++ drop until (take size (drop 16 page))))
  unfolding image
  edited-in at until first second cells order end fits given =
      let c : List ℕ = take size (drop 16 page) in
      let new : List ℕ = take at (take size (drop 16 page)) ++ ((first ++ second) ++ drop until (take size (drop 16 page))) in
      let new_long : length new ≡ at + (length first + length second) + (size - until) =
      omega (arith, length-append (take at c) ((first ++ second) ++ drop until c), length-append (first ++ second) (drop until c), length-append first second, length-take-le at c (omega (arith, body-long)), length-drop until c, body-long) in
      let cells_are : cells ≡ new ++ replicate (length (drop 16 page) + (until - at) - (size + (length first + length second))) 0 =
      subst (λ (w : List ℕ). drop size w ≡ replicate (length w - size) 0 → cells ≡ (take at (take size w) ++ ((first ++ second) ++ drop until (take size w))) ++ replicate (length w + (until - at) - (size + (length first + length second))) 0) part-is given spare in
      ap (λ (x : List ℕ). take 16 x ++ (cells ++ drop 4080 (drop 16 x))) marked-is
      ∙ ap (λ (x : List ℕ). head_of number kind level count ++ (cells ++ x)) (drop_all 4080 (drop 16 page) (omega (arith, long, length-drop 16 page)))
      ∙ ap (λ (x : List ℕ). head_of number kind level count ++ x) (append-nil cells ∙ cells_are)
      ∙ ap (λ (n : ℕ). head_of number kind level count ++ (new ++ replicate n 0)) {x = length (drop 16 page) + (until - at) - (size + (length first + length second))} {y = 4080 - length new} (omega (arith, new_long, long, length-drop 16 page))
