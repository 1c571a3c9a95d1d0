-- Rows of a node that were read.
use Rattle.std.proofs.Common.{◌≡◌, ℕ, zero, suc, ◌+◌, ◌<◌, ◌≤◌, max, inl, inr, arith, refl, sym, ap, ◌∙◌, List, [], ◌∷◌, ◌++◌, length, filter, get_or, ◌==◌, nat_lt, true, false, slice_index, slice_index_or}
use Rattle.std.proofs.lemmas.Bool.Decides.{nat_tests}
use Rattle.rtree_nodes.proofs.Amounts.{same_or}
use Rattle.rtree_nodes.proofs.Heights.{under_or}
use Rattle.node_rows.specs.Rows.{Bytes, HasBytes}
use Rattle.node_rows.specs.Counts.{shared_in, sign}
use Rattle.node_rows.specs.Impacts.{impact_at, impact_in, raised}
use Rattle.node_rows.specs.Known.{AreRowsAt, rises}
use Rattle.node_rows.proofs.Pairs.{impact-here, impact-other}

-- one word more
pub known-push : (b : Bytes) (node : ℕ) (ps : List (ℕ × ℕ)) (rs : List (List ℕ)) (p : ℕ × ℕ) (r : List ℕ) → AreRowsAt b node ps rs → HasBytes r (b node p.0) → AreRowsAt b node (ps ++ p ∷ []) (rs ++ r ∷ [])
known-push b node [] [] p r h k = (k, tt)
known-push b node [] (s ∷ rs) p r h k = absurd h
known-push b node (q ∷ ps) [] p r h k = absurd h
known-push b node (q ∷ ps) (s ∷ rs) p r h k = (h.0, known-push b node ps rs p r h.1 k)

-- the row of one of the words
pub known-at : (b : Bytes) (node : ℕ) (ps : List (ℕ × ℕ)) (rs : List (List ℕ)) (at : ℕ) → AreRowsAt b node ps rs → at < length ps → (i : ℕ) → slice_index (slice_index_or rs at []) i ≡ b node (get_or ps at (0, 0)).0 i
known-at b node [] [] at h l i = absurd (omega arith)
known-at b node [] (s ∷ rs) at h l i = absurd h
known-at b node (q ∷ ps) [] at h l i = absurd h
known-at b node (q ∷ ps) (s ∷ rs) zero h l i = h.0 i
known-at b node (q ∷ ps) (s ∷ rs) (suc at) h l i = known-at b node ps rs at h.1 (omega arith) i

-- bytes that are the same at the node
pub known-same : (b d : Bytes) (node : ℕ) (ps : List (ℕ × ℕ)) (rs : List (List ℕ)) → ((w i : ℕ) → b node w i ≡ d node w i) → AreRowsAt b node ps rs → AreRowsAt d node ps rs
known-same b d node [] [] e h = tt
known-same b d node [] (s ∷ rs) e h = absurd h
known-same b d node (q ∷ ps) [] e h = absurd h
known-same b d node (q ∷ ps) (s ∷ rs) e h = (λ i. h.0 i ∙ e q.0 i, known-same b d node ps rs e h.1)

-- how many rows have a byte at a slot
abbrev pub signs_in : List (List ℕ) → ℕ → ℕ
signs_in [] i = 0
signs_in (row ∷ rows) i = signs_in rows i + sign (slice_index row i)

-- one row more
pub signs-push : (rs : List (List ℕ)) (r : List ℕ) (i : ℕ) → signs_in (rs ++ r ∷ []) i ≡ signs_in rs i + sign (slice_index r i)
signs-push [] r i = refl
signs-push (s ∷ rs) r i = let h = signs-push rs r i in omega arith

-- they are as many as the words that stand below the slot
pub known-signs : (b : Bytes) (node : ℕ) (ps : List (ℕ × ℕ)) (rs : List (List ℕ)) (i : ℕ) → AreRowsAt b node ps rs → signs_in rs i ≡ shared_in b node i ps
known-signs b node [] [] i h = refl
known-signs b node [] (s ∷ rs) i h = absurd h
known-signs b node (q ∷ ps) [] i h = absurd h
known-signs b node (q ∷ ps) (s ∷ rs) i h = let e = known-signs b node ps rs i h.1 in let f = ap sign (h.0 i) in omega arith

join : (x a b c : ℕ) → max x a ≡ max x b → max x (max a c) ≡ max x (max b c)
join x a b c e = omega arith

skip : (x a b c : ℕ) → max x a ≡ max x b → c ≤ x → max x a ≡ max x (max b c)
skip x a b c e l = omega arith

-- the words that rise raise a slot as all of them
pub rising-all : (b : Bytes) (node slot : ℕ) (ps : List (ℕ × ℕ)) (w : ℕ) → max (b node w slot) (impact_in (filter (rises b node slot) ps) w) ≡ max (b node w slot) (impact_in ps w)
rising-all b node slot [] w = refl
rising-all b node slot (p ∷ ps) w = let h = rising-all b node slot ps w in elim (under_or (b node p.0 slot) p.1) [
  | inl l ↦ let t : nat_lt (b node p.0 slot) p.1 ≡ true = grind (arith, nat_tests) in rw t (join (b node w slot) (impact_in (filter (rises b node slot) ps) w) (impact_in ps w) (impact_at p w) h)
  | inr k ↦ let t : nat_lt (b node p.0 slot) p.1 ≡ false = grind (arith, nat_tests) in rw t (skip (b node w slot) (impact_in (filter (rises b node slot) ps) w) (impact_in ps w) (impact_at p w) h (elim (same_or p.0 w) [
    | inl e ↦ let a = impact-here p.0 p.1 w e in let q = ap (λ (v : ℕ). b node v slot) e in omega arith
    | inr n ↦ let a = impact-other p.0 p.1 w n in omega arith
  ]))
]

-- to raise a slot by words that have the same byte above it is the same
pub raised-by : (b : Bytes) (node slot : ℕ) (ps qs : List (ℕ × ℕ)) → ((w : ℕ) → max (b node w slot) (impact_in ps w) ≡ max (b node w slot) (impact_in qs w))
    → (n w i : ℕ) → raised node slot (impact_in ps) b n w i ≡ raised node slot (impact_in qs) b n w i
raised-by b node slot ps qs h n w i = elim (same_or n node) [
  | inr k ↦ let t : (n == node) ≡ false = grind (arith, nat_tests) in rw t refl
  | inl e ↦ elim (same_or i slot) [
    | inr k ↦ let t : (i == slot) ≡ false = grind (arith, nat_tests) in let u : (n == node) ≡ true = grind (arith, nat_tests) in rw (u, t) refl
    | inl f ↦
        let u : (n == node) ≡ true = grind (arith, nat_tests) in
        let v : (i == slot) ≡ true = grind (arith, nat_tests) in
        let a : b n w i ≡ b node w slot = rw (e, f) refl in
        rw (u, v) (ap (λ (k : ℕ). max k (impact_in ps w)) a ∙ h w ∙ ap (λ (k : ℕ). max k (impact_in qs w)) (sym a))
  ]
]
