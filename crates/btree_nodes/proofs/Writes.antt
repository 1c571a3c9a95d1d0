-- Bytes that are written one behind another.
use Rattle.std.proofs.Common.{arith, ◌≡◌, ◌+◌, ◌-◌, ◌≤◌, ℕ, ◌∙◌, sym, ap, length, take, drop, List, ◌++◌, replicate, ◌∷◌, append_assoc}
use Rattle.std.proofs.Common.{get_or}
use Rattle.std.specs.Int.{to_be_bytes, w16}
use Rattle.btree_nodes.specs.Build.{image, head_of}
use Rattle.std.proofs.lemmas.List.{take_all, take_at, drop_at, length-replicate, length-append, length-take-le, drop-drop, drop-replicate}

pub written_front : (out bytes rest : List ℕ) (at : ℕ) → at + length bytes ≤ length out → take (at + length bytes) (take at out ++ (bytes ++ rest)) ≡ take at out ++ bytes
written_front out bytes rest at h =
    ap (take (at + length bytes)) (sym (append_assoc (take at out) bytes rest))
    ∙ take_at (take at out ++ bytes) rest (at + length bytes) (omega (arith, length-append (take at out) bytes, length-take-le at out (omega arith)))

pub spliced : (cells first second a b d e : List ℕ) (at until : ℕ) → at ≤ until → until ≤ length cells → length e + (until - at) ≡ length cells + (length first + length second)
    → take at a ≡ take at cells → take (at + length first) b ≡ take at a ++ first
    → take (at + length first + length second) d ≡ take (at + length first) b ++ second
    → take (at + length first + length second + (length cells - until)) e ≡ take (at + length first + length second) d ++ drop until cells
    → e ≡ take at cells ++ ((first ++ second) ++ drop until cells)
spliced cells first second a b d e at until order within long p q r s =
    sym (take_all (at + length first + length second + (length cells - until)) e (omega arith))
    ∙ s
    ∙ ap (λ (x : List ℕ). x ++ drop until cells) (r ∙ ap (λ (x : List ℕ). x ++ second) (q ∙ ap (λ (x : List ℕ). x ++ first) p))
    ∙ ap (λ (x : List ℕ). x ++ drop until cells) (append_assoc (take at cells) first second)
    ∙ append_assoc (take at cells) (first ++ second) (drop until cells)

pub built : (number kind level count : ℕ) (be cells a b : List ℕ) → be ≡ to_be_bytes w16 count
    → a ≡ kind ∷ (number ∷ (get_or be 0 0 ∷ (get_or be 1 0 ∷ (level ∷ replicate 4091 0))))
    → b ≡ take 16 a ++ (cells ++ drop (16 + length cells) a) → b ≡ image number kind level count cells
unfolding image
built number kind level count be cells a b e p q =
    let f : a ≡ head_of number kind level count ++ replicate 4080 0 = p ∙ ap (λ (x : List ℕ). kind ∷ (number ∷ (get_or x 0 0 ∷ (get_or x 1 0 ∷ (level ∷ replicate 4091 0))))) e in
    q ∙ ap (λ (x : List ℕ). take 16 x ++ (cells ++ drop (16 + length cells) x)) f
    ∙ ap (λ (x : List ℕ). head_of number kind level count ++ (cells ++ x))
    (sym (drop-drop (length cells) 16 (head_of number kind level count ++ replicate 4080 0)) ∙ drop-replicate (length cells) 4080 0)

-- bytes that zeros were written over
pub cleared-back : (cells zeros new : List ℕ) (at key : ℕ) → at ≤ length cells → zeros ≡ replicate key 0 → new ≡ take at cells ++ (zeros ++ drop (at + length zeros) cells)
    → drop at new ≡ replicate key 0 ++ drop key (drop at cells)
cleared-back cells zeros new at key h z e =
    let long : length zeros ≡ key = ap length z ∙ length-replicate key 0 in
    ap (drop at) e ∙ drop_at (take at cells) (zeros ++ drop (at + length zeros) cells) at (length-take-le at cells h)
    ∙ ap (λ (x : List ℕ). x ++ drop (at + length zeros) cells) z
    ∙ ap (λ (n : ℕ). replicate key 0 ++ drop (at + n) cells) long
    ∙ ap (λ (x : List ℕ). replicate key 0 ++ x) (sym (drop-drop key at cells))
