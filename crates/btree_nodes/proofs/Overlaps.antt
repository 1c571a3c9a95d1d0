-- The order of two keys of eight to sixteen bytes is that of their first eight bytes, and where those are equal that of their last eight.
use Rattle.std.proofs.Common.{◌≡◌, ◌⊎◌, inl, inr, ⊎_elim, ℕ, zero, suc, ◌+◌, ◌-◌, ◌*◌, ◌^◌, ◌<◌, ◌≤◌, List, [], ◌∷◌, length, take, drop, arith, ap, sym, ◌∙◌, subst}
use Rattle.std.proofs.lemmas.Bool.{cases_lt}
use Rattle.std.proofs.lemmas.List.{length-drop, length-take-le, get_or-drop, take-append-drop, take-take, drop-take, drop-drop}
use Rattle.page_face.specs.Number.{number}
use Rattle.page_face.specs.Cells.{key_at}
use Rattle.btree_nodes.proofs.Numbers.{AreBytes, higher, number-append, number_below}
use Rattle.btree_nodes.specs.Pairs.{pair_at}
use Rattle.btree_nodes.specs.declared.pairs.Pair.{Pair}
use Rattle.btree_nodes.proofs.Spots.{fits_at}

-- two heights are the same where the wholes that they head are
heads : (c d r e f : ℕ) → e < r → f < r → c * r + e ≡ d * r + f → c ≡ d
heads c d r e f p q same =
    let below : c < d → ⊥ = λ l. let h = higher c d r e f l p in absurd (omega arith) in
    let above : d < c → ⊥ = λ l. let h = higher d c r f e l q in absurd (omega arith) in
    ⊎_elim (λ (l : c < d). absurd (below l)) (λ (l : d ≤ c). ⊎_elim (λ (k : d < c). absurd (above k)) (λ (k : c ≤ d). omega arith) (cases_lt d c)) (cases_lt c d)

number-halves : (n rest : ℕ) (xs : List ℕ) → length (drop n xs) ≡ rest → number xs ≡ number (take n xs) * 256 ^ rest + number (drop n xs)
number-halves n rest xs e = ap number (sym (take-append-drop n xs)) ∙ number-append (take n xs) (drop n xs) ∙ ap (λ (l : ℕ). number (take n xs) * 256 ^ l + number (drop n xs)) e

tail_below : (n rest : ℕ) (xs : List ℕ) → AreBytes xs → length (drop n xs) ≡ rest → number (drop n xs) < 256 ^ rest
tail_below n rest xs b e = subst (λ (l : ℕ). number (drop n xs) < 256 ^ l) e (number_below (drop n xs) (λ i. rw (get_or-drop n xs i 0) (b (n + i))))

bytes-take : (n : ℕ) (xs : List ℕ) → AreBytes xs → AreBytes (take n xs)
bytes-take zero xs b i = omega arith
bytes-take (suc n) [] b i = b i
bytes-take (suc n) (x ∷ xs) b zero = b 0
bytes-take (suc n) (x ∷ xs) b (suc i) = bytes-take n xs (λ j. b (suc j)) i

bytes-drop : (n : ℕ) (xs : List ℕ) → AreBytes xs → AreBytes (drop n xs)
bytes-drop n xs b i = rw (get_or-drop n xs i 0) (b (n + i))

module _ (k : ℕ) (xs ys : List ℕ) (long : 8 ≤ k) (short : k ≤ 16) (lx : length xs ≡ k) (ly : length ys ≡ k) (bx : AreBytes xs) (b' : AreBytes ys) where
  rest-of : (zs : List ℕ) → length zs ≡ k → length (drop (k - 8) (take 8 zs)) ≡ 16 - k
  rest-of zs e = let a = length-drop (k - 8) (take 8 zs) in let b = length-take-le 8 zs (omega arith) in omega arith

  -- equal fronts have equal beginnings
  same-start : number (take 8 xs) ≡ number (take 8 ys) → number (take (k - 8) xs) ≡ number (take (k - 8) ys)
  same-start e =
      let same = heads (number (take (k - 8) (take 8 xs))) (number (take (k - 8) (take 8 ys))) (256 ^ (16 - k)) (number (drop (k - 8) (take 8 xs))) (number (drop (k - 8) (take 8 ys)))
      (tail_below (k - 8) (16 - k) (take 8 xs) (bytes-take 8 xs bx) (rest-of xs lx)) (tail_below (k - 8) (16 - k) (take 8 ys) (bytes-take 8 ys b') (rest-of ys ly))
      (sym (number-halves (k - 8) (16 - k) (take 8 xs) (rest-of xs lx)) ∙ e ∙ number-halves (k - 8) (16 - k) (take 8 ys) (rest-of ys ly)) in
      ap number (sym (take-take (k - 8) 8 xs (omega arith))) ∙ same ∙ ap number (take-take (k - 8) 8 ys (omega arith))

  back-of : (zs : List ℕ) → length zs ≡ k → length (drop 8 zs) ≡ k - 8
  back-of zs e = let a = length-drop 8 zs in omega arith

  last-of : (zs : List ℕ) → length zs ≡ k → length (drop (k - 8) zs) ≡ 8
  last-of zs e = let a = length-drop (k - 8) zs in omega arith

  by-front : (us vs : List ℕ) → length us ≡ k → length vs ≡ k → AreBytes us → number (take 8 us) < number (take 8 vs) → number us < number vs
  by-front us vs lu lv bu l =
      let h = higher (number (take 8 us)) (number (take 8 vs)) (256 ^ (k - 8)) (number (drop 8 us)) (number (drop 8 vs)) l (tail_below 8 (k - 8) us bu (back-of us lu)) in
      let a = number-halves 8 (k - 8) us (back-of us lu) in
      let b = number-halves 8 (k - 8) vs (back-of vs lv) in
      omega arith

  -- the order of the pairs is that of the keys
  pub pairs : ((number (take 8 xs) < number (take 8 ys)) ⊎ ((number (take 8 xs) ≡ number (take 8 ys)) × (number (drop (k - 8) xs) < number (drop (k - 8) ys)))) → number xs < number ys
  pairs (inl l) = by-front xs ys lx ly bx l
  pairs (inr h) =
      let s = same-start h.0 in
      let d = h.1 in
      let a = number-halves (k - 8) 8 xs (last-of xs lx) in
      let b = number-halves (k - 8) 8 ys (last-of ys ly) in
      omega arith

  pub pairs-back : number xs < number ys → (number (take 8 xs) < number (take 8 ys)) ⊎ ((number (take 8 xs) ≡ number (take 8 ys)) × (number (drop (k - 8) xs) < number (drop (k - 8) ys)))
  pairs-back h = ⊎_elim
      (λ (l : number (take 8 xs) < number (take 8 ys)). inl l)
      (λ (g : number (take 8 ys) ≤ number (take 8 xs)). ⊎_elim
      (λ (l : number (take 8 ys) < number (take 8 xs)). let c = by-front ys xs ly lx b' l in absurd (omega arith))
      (λ (f : number (take 8 xs) ≤ number (take 8 ys)).
      let e : number (take 8 xs) ≡ number (take 8 ys) = omega arith in
      let s = same-start e in
      let a = number-halves (k - 8) 8 xs (last-of xs lx) in
      let b = number-halves (k - 8) 8 ys (last-of ys ly) in
      inr (e, omega arith))
      (cases_lt (number (take 8 ys)) (number (take 8 xs))))
      (cases_lt (number (take 8 xs)) (number (take 8 ys)))

-- the keys of two cells of a page
module _ (key width : ℕ) (page : List ℕ) (i j : ℕ) (long : 8 ≤ key) (short : key ≤ 16) (b : AreBytes page) (fi : 16 + width * i + key ≤ length page) (fj : 16 + width * j + key ≤ length page) where
  key-of : ℕ → List ℕ
  key-of at = take key (drop (16 + width * at) page)

  long-of : (at : ℕ) → 16 + width * at + key ≤ length page → length (take key (drop (16 + width * at) page)) ≡ key
  long-of at f = length-take-le key (drop (16 + width * at) page) (let d = length-drop (16 + width * at) page in omega arith)

  front-of : (at : ℕ) → number (take 8 (take key (drop (16 + width * at) page))) ≡ (pair_at key width page at).front
  front-of at = ap number (take-take 8 key (drop (16 + width * at) page) long)

  end-of : (at : ℕ) → number (drop (key - 8) (take key (drop (16 + width * at) page))) ≡ (pair_at key width page at).back
  end-of at =
      let whole : key ≡ (key - 8) + 8 = omega arith in
      ap (λ (n : ℕ). number (drop (key - 8) (take n (drop (16 + width * at) page)))) whole
      ∙ ap number (drop-take (key - 8) 8 (drop (16 + width * at) page))
      ∙ ap (λ (l : List ℕ). number (take 8 l)) (drop-drop (key - 8) (16 + width * at) page)

  bytes-of : (at : ℕ) → AreBytes (take key (drop (16 + width * at) page))
  bytes-of at = bytes-take key (drop (16 + width * at) page) (bytes-drop (16 + width * at) page b)

  pub is_less-page : ((pair_at key width page i).front < (pair_at key width page j).front) ⊎ (((pair_at key width page i).front ≡ (pair_at key width page j).front) × ((pair_at key width page i).back < (pair_at key width page j).back)) → key_at key width page i < key_at key width page j
  is_less-page h =
      let fa = front-of i in let fb = front-of j in let ea = end-of i in let eb = end-of j in
      pairs key (take key (drop (16 + width * i) page)) (take key (drop (16 + width * j) page)) long short (long-of i fi) (long-of j fj) (bytes-of i) (bytes-of j)
      (⊎_elim (λ l. inl (omega arith)) (λ (p : ((pair_at key width page i).front ≡ (pair_at key width page j).front) × ((pair_at key width page i).back < (pair_at key width page j).back)). let p0 = p.0 in let p1 = p.1 in inr (fa ∙ p0 ∙ sym fb, omega arith)) h)

  pub page-is_less : key_at key width page i < key_at key width page j → ((pair_at key width page i).front < (pair_at key width page j).front) ⊎ (((pair_at key width page i).front ≡ (pair_at key width page j).front) × ((pair_at key width page i).back < (pair_at key width page j).back))
  page-is_less h =
      let fa = front-of i in let fb = front-of j in let ea = end-of i in let eb = end-of j in
      ⊎_elim (λ l. inl (omega arith)) (λ (p : (number (take 8 (take key (drop (16 + width * i) page))) ≡ number (take 8 (take key (drop (16 + width * j) page)))) × (number (drop (key - 8) (take key (drop (16 + width * i) page))) < number (drop (key - 8) (take key (drop (16 + width * j) page))))). let p0 = p.0 in let p1 = p.1 in inr (sym fa ∙ p0 ∙ fb, omega arith))
      (pairs-back key (take key (drop (16 + width * i) page)) (take key (drop (16 + width * j) page)) long short (long-of i fi) (long-of j fj) (bytes-of i) (bytes-of j) h)

-- the same of two pairs that were read
module _ (key width : ℕ) (page : List ℕ) (count i : ℕ) (long : 8 ≤ key) (short : key ≤ 16) (wide : key ≤ width) (fits : 16 + width * count ≤ 4096) (size : length page ≡ 4096) (b : AreBytes page) (within : i + 1 < count)
    (one other : Pair) (e : one ≡ pair_at key width page i) (f : other ≡ pair_at key width page (i + 1)) where
  here : 16 + width * i + key ≤ length page
  here = let h = fits_at width i count (omega arith) fits in omega arith

  next : 16 + width * (i + 1) + key ≤ length page
  next = let h = fits_at width (i + 1) count (omega arith) fits in omega arith

  pub if-less : ((one.front < other.front) ⊎ ((one.front ≡ other.front) × (one.back < other.back))) → key_at key width page i < key_at key width page (i + 1)
  if-less h =
      is_less-page key width page i (i + 1) long short b here next
      (subst (λ (q : Pair). ((pair_at key width page i).front < q.front) ⊎ (((pair_at key width page i).front ≡ q.front) × ((pair_at key width page i).back < q.back))) f
      (subst (λ (p : Pair). (p.front < other.front) ⊎ ((p.front ≡ other.front) × (p.back < other.back))) e h))

  pub less-if : key_at key width page i < key_at key width page (i + 1) → (one.front < other.front) ⊎ ((one.front ≡ other.front) × (one.back < other.back))
  less-if h =
      subst (λ (p : Pair). (p.front < other.front) ⊎ ((p.front ≡ other.front) × (p.back < other.back))) (sym e)
      (subst (λ (q : Pair). ((pair_at key width page i).front < q.front) ⊎ (((pair_at key width page i).front ≡ q.front) × ((pair_at key width page i).back < q.back))) (sym f)
      (page-is_less key width page i (i + 1) long short b here next h))
