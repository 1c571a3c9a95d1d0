-- How far page 0's live places and update number rise.
use Rattle.std.proofs.Common.{◌≡◌, ◌⊎◌, ⊎_elim, ℕ, ◌+◌, ◌≤◌, ap, ◌∙◌, arith}
use Rattle.page_face.specs.declared.head.Head.{Head}

-- one head has at most so many live places more than another, and is at most so many updates later
abbrev pub AreWithin : ℕ → Head → Head → Type 0
AreWithin n old new = (new.live ≤ old.live + n) × (new.number ≤ old.number + n)

-- the same head
pub head-stays : (n : ℕ) (old new : Head) → new ≡ old → AreWithin n old new
head-stays n old new same = let live = ap (λ (h : Head). h.live) same in let number = ap (λ (h : Head). h.number) same in (omega (arith, live), omega (arith, number))

-- the head that was made, or the one before it
pub head-rises : (n : ℕ) (old last made new : Head) → last ≡ old → AreWithin n old made → (new ≡ made) ⊎ (new ≡ last) → AreWithin n old new
head-rises n old last made new settled within =
    ⊎_elim
    (λ (is : new ≡ made). (let live = ap (λ (h : Head). h.live) is in let number = ap (λ (h : Head). h.number) is in let lives = within.0 in let numbers = within.1 in (omega (arith, live, lives), omega (arith, number, numbers))))
    (λ (is : new ≡ last). head-stays n old new (is ∙ settled))

-- a head that was made from the same one
pub made-from : (n : ℕ) (old from made : Head) → from ≡ old → AreWithin n from made → AreWithin n old made
made-from n old from made same within =
    let live = ap (λ (h : Head). h.live) same in let number = ap (λ (h : Head). h.number) same in let lives = within.0 in let numbers = within.1 in (omega (arith, live, lives), omega (arith, number, numbers))
