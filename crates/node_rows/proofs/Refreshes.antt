-- A slot that is refreshed, word by word.
use Rattle.std.proofs.Common.{◌≡◌, ℕ, ◌+◌, ◌^◌, ◌<◌, ◌≤◌, inl, inr, arith, refl, sym, ap, ◌∙◌, Option, Some, None, List, [], ◌∷◌, ◌++◌, if◌then◌else◌, ◌==◌, true, false, Bool, nat_lt, slice_index}
use Rattle.std.proofs.lemmas.Bool.Decides.{nat_tests}
use Rattle.page_face.specs.FreeList.{PageMap}
use Rattle.btree_nodes.specs.Supply.{View}
use Rattle.rtree_nodes.proofs.Amounts.{same_or}
use Rattle.rtree_nodes.proofs.Heights.{under_or}
use Rattle.node_rows.specs.Rows.{Bytes, IsRows, bytes_in}
use Rattle.node_rows.specs.Turns.{Turns, Next}
use Rattle.node_rows.specs.Ascents.{until}
use Rattle.node_rows.specs.Impacts.{with_byte, refreshed, top_at}
use Rattle.node_rows.specs.Refreshing.{IsFrom, word_of, lesser_of, byte_ahead, IsRefreshing, IsBounded, is_named, on_words}
use Rattle.node_rows.proofs.Bytes.{and_false}
use Rattle.node_rows.proofs.Ascents.{ascend, rest, left, all, start}
use Rattle.node_rows.proofs.Impacts.{byte-here, byte-elsewhere, byte-another, byte-beside, top-clear}
use Rattle.node_rows.proofs.Turned.{turned-rest, turns-as, turns-same}

-- no row ahead is before the least word, and one of them has it
pub record IsLeast (o p : Option (ℕ × List ℕ)) (word : ℕ) : Type 0 where
  pub from_o : IsFrom word o
  pub from_p : IsFrom word p
  pub on : (b d : Bytes) (n m k : ℕ) → Next b n k o → Next d m k p → k ≤ word

-- the least word lies ahead in one of them
pub least : (o p : Option (ℕ × List ℕ)) (word : ℕ) → lesser_of (word_of o) (word_of p) ≡ Some word → IsLeast o p word
least None None word e = cc
least None (Some p) word e = let f : p.0 ≡ word = cc in record { from_o = tt; from_p = omega arith; on = λ b d n m k x y. let l = y.on in omega arith }
least (Some o) None word e = let f : o.0 ≡ word = cc in record { from_o = omega arith; from_p = tt; on = λ b d n m k x y. let l = x.on in omega arith }
least (Some o) (Some p) word e = elim (under_or p.0 o.0) [
  | inl l ↦ let t : nat_lt p.0 o.0 ≡ true = grind (arith, nat_tests) in
      let g : Some p.0 ≡ Some word = ap (λ (x : Bool). Some (if x then p.0 else o.0)) (sym t) ∙ e in
      let f : p.0 ≡ word = cc in record { from_o = omega arith; from_p = omega arith; on = λ b d n m k x y. let j = y.on in omega arith }
  | inr l ↦ let t : nat_lt p.0 o.0 ≡ false = grind (arith, nat_tests) in
      let g : Some o.0 ≡ Some word = ap (λ (x : Bool). Some (if x then p.0 else o.0)) (sym t) ∙ e in
      let f : o.0 ≡ word = cc in record { from_o = omega arith; from_p = omega arith; on = λ b d n m k x y. let j = x.on in omega arith }
]

-- the row ahead says the bytes at this word
pub ahead-byte : (b : Bytes) (n k word : ℕ) (o : Option (ℕ × List ℕ)) → Next b n k o → k ≤ word → IsFrom word o → (i : ℕ) → byte_ahead word o i ≡ b n word i
ahead-byte b n k word None next on from i = sym (next word i on)
ahead-byte b n k word (Some p) next on from i = elim (same_or p.0 word) [
  | inl e ↦ let t : (p.0 == word) ≡ true = grind (arith, nat_tests) in ap (λ (x : Bool). if x then slice_index p.1 i else 0) t ∙ next.is i ∙ ap (λ (w : ℕ). b n w i) e
  | inr d ↦ let t : (p.0 == word) ≡ false = grind (arith, nat_tests) in ap (λ (x : Bool). if x then slice_index p.1 i else 0) t ∙ sym (next.none word i on (omega arith))
]

-- the row that follows isn't before the word
pub next-from : (b : Bytes) (node word : ℕ) (o : Option (ℕ × List ℕ)) → Next b node word o → IsFrom word o
next-from b node word None next = tt
next-from b node word (Some found) next = next.on

-- no byte lies before the row ahead
pub quiet : (b : Bytes) (n k word : ℕ) (o : Option (ℕ × List ℕ)) → Next b n k o → IsFrom word o → (w i : ℕ) → k ≤ w → w < word → b n w i ≡ 0
quiet b n k word None next from w i a l = next w i a
quiet b n k word (Some p) next from w i a l = next.none w i a (omega arith)

module _ (node slot child : ℕ) (b : Bytes) (n w i : ℕ) where
  -- the slot that is refreshed
  pub refreshed-here : n ≡ node → i ≡ slot → refreshed node slot child b n w i ≡ top_at b child w
  unfolding refreshed
  refreshed-here e f = let t : (n == node) ≡ true = grind (arith, nat_tests) in let u : (i == slot) ≡ true = grind (arith, nat_tests) in rw (t, u) refl

  -- another node
  pub refreshed-elsewhere : (n ≡ node → ⊥) → refreshed node slot child b n w i ≡ b n w i
  unfolding refreshed
  refreshed-elsewhere k = let t : (n == node) ≡ false = grind (arith, nat_tests) in rw t refl

  -- another slot
  pub refreshed-beside : (i ≡ slot → ⊥) → refreshed node slot child b n w i ≡ b n w i
  unfolding refreshed
  refreshed-beside k = let t : (i == slot) ≡ false = grind (arith, nat_tests) in rw (t, and_false (n == node)) refl

  -- a word that neither has
  pub refreshed-idle : top_at b child w ≡ 0 → b node w slot ≡ 0 → refreshed node slot child b n w i ≡ b n w i
  refreshed-idle z y = elim (same_or n node) [
    | inr k ↦ refreshed-elsewhere k
    | inl e ↦ elim (same_or i slot) [
      | inr k ↦ refreshed-beside k
      | inl f ↦ let a : b n w i ≡ b node w slot = rw (e, f) refl in refreshed-here e f ∙ z ∙ sym (a ∙ y)
    ]
  ]

-- one word is refreshed
module _ (node slot child word : ℕ) (b now : Bytes) (k : ℕ) (below above : Option (ℕ × List ℕ)) (on : k ≤ word) (is : (n w i : ℕ) → now n w i ≡ until k (refreshed node slot child b) b n w i)
    (low : Next b child k below) (high : Next b node k above) (from_low : IsFrom word below) (from_high : IsFrom word above)
    (byte : ℕ) (byte_is : byte ≡ top_at b child word) where
  idle : (n w i : ℕ) → k ≤ w → w < word → refreshed node slot child b n w i ≡ b n w i
  idle n w i a l = refreshed-idle node slot child b n w i (top-clear b child w (λ j. quiet b child k word below low from_low w j a l)) (quiet b node k word above high from_high w slot a l)

  stays : (n w i : ℕ) → k ≤ w → now n w i ≡ b n w i
  stays = left (refreshed node slot child b) b now k is

  -- what is done then goes one word further
  pub refreshed-next : (n w i : ℕ) → with_byte node word slot byte now n w i ≡ until (word + 1) (refreshed node slot child b) b n w i
  refreshed-next = ascend (refreshed node slot child b) b now k is (with_byte node word slot byte now) word on (λ n w i d. byte-another node word slot byte now n w i d)
      (λ n i. elim (same_or n node) [
        | inr d ↦ byte-elsewhere node word slot byte now n word i d ∙ stays n word i on ∙ sym (refreshed-elsewhere node slot child b n word i d)
        | inl e ↦ elim (same_or i slot) [
          | inr d ↦ byte-beside node word slot byte now n word i d ∙ stays n word i on ∙ sym (refreshed-beside node slot child b n word i d)
          | inl f ↦ byte-here node word slot byte now n word i e (λ j. word) f ∙ byte_is ∙ sym (refreshed-here node slot child b n word i e f)
        ]
      ]) idle

-- the first rows lie ahead, and nothing is refreshed yet
pub refresh-begins : (before : View) (root : ℕ) → IsRows before root → (pages : PageMap) (count first node slot child : ℕ) (below above : Option (ℕ × List ℕ)) → pages ≡ before.pages → count ≡ before.count → first ≡ before.first
    → Next (bytes_in before.pages root) child 0 below → Next (bytes_in before.pages root) node 0 above → IsRefreshing before root pages count first root node slot child (bytes_in before.pages root) below above
refresh-begins before root rows pages count first node slot child below above p q r low high =
    let b : Bytes = bytes_in before.pages root in
    let f : Bytes = refreshed node slot child b in
    record {
      k = 0;
      small = omega arith;
      turn = turned-rest before root before.pages pages before.count count before.first first root b (until 0 f b) p q r (start f b) (turns-same before root rows);
      low = low;
      high = high;
    }

-- nothing lies ahead
pub refreshed-all : (before : View) (root : ℕ) (pages : PageMap) (count first rows node slot child : ℕ) (b : Bytes) (below above : Option (ℕ × List ℕ)) → IsBounded b → lesser_of (word_of below) (word_of above) ≡ None
    → IsRefreshing before root pages count first rows node slot child b below above → Turns before root pages count first rows (refreshed node slot child b)
refreshed-all before root pages count first rows node slot child b None None bounded e h =
    turns-as before root pages count first rows (until h.k (refreshed node slot child b) b) (refreshed node slot child b)
    (λ n w i. rest (refreshed node slot child b) b (until h.k (refreshed node slot child b) b) h.k (λ n' w' i'. refl) (2 ^ 64) h.small
    (λ n' w' i' l. refreshed-idle node slot child b n' w' i' (top-clear b child w' (λ j. h.low w' j l)) (h.high w' slot l)) n w i
    ∙ all (2 ^ 64) (refreshed node slot child b) b (λ n' w' i' l. refreshed-idle node slot child b n' w' i' (top-clear b child w' (λ j. bounded child w' j l)) (bounded node w' slot l)) n w i) h.turn
refreshed-all before root pages count first rows node slot child b None (Some p) bounded e h = cc
refreshed-all before root pages count first rows node slot child b (Some o) None bounded e h = cc
refreshed-all before root pages count first rows node slot child b (Some o) (Some p) bounded e h = cc

-- another word isn't named by one more
pub named-push : (ps : List (ℕ × ℕ)) (p : ℕ × ℕ) (w : ℕ) → (p.0 ≡ w → ⊥) → is_named (ps ++ p ∷ []) w ≡ is_named ps w
named-push [] p w d = let t : (p.0 == w) ≡ false = grind (arith, nat_tests) in ap (λ (x : Bool). if x then true else false) t
named-push (q ∷ ps) p w d = ap (λ (x : Bool). if q.0 == w then true else x) (named-push ps p w d)

-- the word of one more is named
pub named-same : (ps : List (ℕ × ℕ)) (p : ℕ × ℕ) (w : ℕ) → p.0 ≡ w → is_named (ps ++ p ∷ []) w ≡ true
named-same [] p w e = let t : (p.0 == w) ≡ true = grind (arith, nat_tests) in ap (λ (x : Bool). if x then true else false) t
named-same (q ∷ ps) p w e = ap (λ (x : Bool). if q.0 == w then true else x) (named-same ps p w e) ∙ elim (q.0 == w) as (λ b. (if b then true else true) ≡ true) [ true ↦ refl | false ↦ refl ]

module _ (node slot child : ℕ) (b now : Bytes) (ps : List (ℕ × ℕ)) (apart : node ≡ child → ⊥) (is : (n w i : ℕ) → now n w i ≡ on_words ps (refreshed node slot child b) b n w i) where
  -- where it isn't the slot, nothing changes
  pub away : (n w i : ℕ) → refreshed node slot child b n w i ≡ b n w i → now n w i ≡ b n w i
  away n w i e = is n w i ∙ elim (is_named ps w) as (λ x. (if x then refreshed node slot child b n w i else b n w i) ≡ b n w i) [ true ↦ e | false ↦ refl ]

  -- the child's bytes stay
  pub child-same : (w i : ℕ) → now child w i ≡ b child w i
  child-same w i = away child w i (refreshed-elsewhere node slot child b child w i (λ e. apart (sym e)))

  -- one word more is renewed
  pub renewed-next : (p : ℕ × ℕ) (byte : ℕ) → byte ≡ top_at b child p.0 → (n w i : ℕ) → with_byte node p.0 slot byte now n w i ≡ on_words (ps ++ p ∷ []) (refreshed node slot child b) b n w i
  renewed-next p byte byte_is n w i = elim (same_or w p.0) [
    | inr d ↦ byte-another node p.0 slot byte now n w i d ∙ is n w i
        ∙ ap (λ (x : Bool). if x then refreshed node slot child b n w i else b n w i) (sym (named-push ps p w (λ e. d (sym e))))
    | inl e ↦ elim (same_or n node) [
      | inr d ↦ byte-elsewhere node p.0 slot byte now n w i d ∙ away n w i (refreshed-elsewhere node slot child b n w i d) ∙ sym (refreshed-elsewhere node slot child b n w i d)
      | inl f ↦ elim (same_or i slot) [
        | inr d ↦ byte-beside node p.0 slot byte now n w i d ∙ away n w i (refreshed-beside node slot child b n w i d) ∙ sym (refreshed-beside node slot child b n w i d)
        | inl h ↦ byte-here node p.0 slot byte now n w i f e h ∙ byte_is ∙ ap (top_at b child) (sym e) ∙ sym (refreshed-here node slot child b n w i f h)
      ]
    ] ∙ ap (λ (x : Bool). if x then refreshed node slot child b n w i else b n w i) (sym (named-same ps p w (sym e)))
  ]

-- where the other words were right before, all are
pub renewed-all : (node slot child : ℕ) (b : Bytes) (ps : List (ℕ × ℕ)) → ((w : ℕ) → is_named ps w ≡ false → b node w slot ≡ top_at b child w) → (n w i : ℕ) → on_words ps (refreshed node slot child b) b n w i ≡ refreshed node slot child b n w i
renewed-all node slot child b ps right n w i = go (is_named ps w) refl
  where
    go : (x : Bool) → is_named ps w ≡ x → (if x then refreshed node slot child b n w i else b n w i) ≡ refreshed node slot child b n w i
    go true e = refl
    go false e = elim (same_or n node) [
      | inr d ↦ sym (refreshed-elsewhere node slot child b n w i d)
      | inl f ↦ elim (same_or i slot) [
        | inr d ↦ sym (refreshed-beside node slot child b n w i d)
        | inl h ↦ let a : b n w i ≡ b node w slot = rw (f, h) refl in a ∙ right w e ∙ sym (refreshed-here node slot child b n w i f h)
      ]
    ]
