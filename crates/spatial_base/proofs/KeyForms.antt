-- The 66 bytes of a key, as they are written.
use Rattle.std.proofs.Common.{◌≡◌, ℕ, ◌+◌, ◌-◌, ◌≤◌, List, [], ◌∷◌, ◌++◌, length, drop, replicate, sym, ap, ◌∙◌, arith}
use Rattle.std.proofs.Math.ListN.{set}
use Rattle.std.proofs.lemmas.List.{length-append, drop-replicate, replicate_more, length-replicate, set_at, append_assoc}
use borrow.Rule.Slice.PartMut.{post_of}
use Rattle.spatial_base.specs.Key.{padded}

-- the last of some zeros is overwritten
closed : (cs : List ℕ) (k n : ℕ) → set (cs ++ replicate (k + 1) 0) (length cs + k) n ≡ (cs ++ replicate k 0) ++ n ∷ []
closed cs k n =
    rw (← replicate_more {X = ℕ} k 0, ← append_assoc)
    (set_at (cs ++ replicate k 0) 0 [] n (length cs + k) (length-append cs (replicate k 0) ∙ ap (λ m. length cs + m) (length-replicate k 0)))

-- content behind a kind and before its length
pub framed : (kind : ℕ) (cs ds xs : List ℕ) → cs ≡ ds → length ds ≤ 64 → xs ≡ kind ∷ replicate 65 0 → kind ∷ set (cs ++ post_of 1 (1 + length ds - 1) xs) 64 (length ds) ≡ kind ∷ padded 64 ds ++ length ds ∷ []
framed kind cs ds xs e l z =
    let few : length ds + (64 - length ds) ≡ 64 = omega arith in
    let left : 65 - length ds ≡ (64 - length ds) + 1 = omega arith in
    let used : 1 + length ds - 1 ≡ length ds = omega arith in
    let rest : post_of 1 (1 + length ds - 1) xs ≡ replicate ((64 - length ds) + 1) 0 =
    ap (λ x. post_of 1 (1 + length ds - 1) x) z ∙ ap (λ n. drop n (replicate 65 0)) used ∙ drop-replicate (length ds) 65 0 ∙ ap (λ n. replicate n 0) left in
    ap (λ b. kind ∷ b) (ap (λ b. set (b ++ post_of 1 (1 + length ds - 1) xs) 64 (length ds)) e
    ∙ ap (λ b. set (ds ++ b) 64 (length ds)) rest
    ∙ ap (λ n. set (ds ++ replicate ((64 - length ds) + 1) 0) n (length ds)) (sym few)
    ∙ closed ds (64 - length ds) (length ds))
