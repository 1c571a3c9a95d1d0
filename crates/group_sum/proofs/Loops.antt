-- Loops over the words of a set.
use Rattle.std.proofs.Common.{◌≡◌, ℕ, suc, ◌+◌, ◌-◌, ◌<◌, ◌≤◌, Bool, true, false, cond, List, [], ◌∷◌, ◌++◌, length, get_or, drop, drop-cons, refl, sym, ap, subst, ◌∙◌, append_assoc, add-one, arith}
use Rattle.place_values.specs.declared.query.Pick.{Pick}
use Rattle.group_sum.specs.Sets.{has_word, flags_from, flagged}
use Rattle.group_sum.specs.Splits.{joined}

-- one more member of a list, which is taken where the set has its word
pub flagged-more : {X : Type 0} (set i : ℕ) (xs own all : List X) (x : X) (t : Bool) → i < length xs → get_or xs i x ≡ x → has_word set i ≡ t
    → own ++ flagged (flags_from set i (length xs - i)) (drop i xs) ≡ all → cond t (own ++ x ∷ []) own ++ flagged (flags_from set (i + 1) (length xs - (i + 1))) (drop (i + 1) xs) ≡ all
flagged-more set i xs own all x t below is has was = go t has ∙ was
  where
    later : flagged (flags_from set i (length xs - i)) (drop i xs) ≡ flagged (has_word set i ∷ flags_from set (i + 1) (length xs - (i + 1))) (x ∷ drop (i + 1) xs)
    later =
        let p : length xs - i ≡ suc (length xs - (i + 1)) = omega arith in
        let q : drop i xs ≡ x ∷ drop (i + 1) xs = drop-cons xs i x below ∙ (λ j. is j ∷ drop (sym (add-one i) j) xs) in
        λ j. flagged (flags_from set i (p j)) (q j)

    go : (t : Bool) → has_word set i ≡ t → cond t (own ++ x ∷ []) own ++ flagged (flags_from set (i + 1) (length xs - (i + 1))) (drop (i + 1) xs) ≡ own ++ flagged (flags_from set i (length xs - i)) (drop i xs)
    go true e = append_assoc own (x ∷ []) (flagged (flags_from set (i + 1) (length xs - (i + 1))) (drop (i + 1) xs))
        ∙ ap (λ l. own ++ l) (sym (later ∙ ap (λ b. flagged (b ∷ flags_from set (i + 1) (length xs - (i + 1))) (x ∷ drop (i + 1) xs)) e))
    go false e = ap (λ l. own ++ l) (sym (later ∙ ap (λ b. flagged (b ∷ flags_from set (i + 1) (length xs - (i + 1))) (x ∷ drop (i + 1) xs)) e))

-- the sides of the words from one on
abbrev pub sides_from : ℕ → ℕ → ℕ → ℕ → List Bool
sides_from count set part i = flagged (flags_from set i (count - i)) (flags_from part i (count - i))

-- the next word is in the set, and has a side
pub sides-in : (count set part i : ℕ) (t : Bool) → i < count → has_word set i ≡ true → has_word part i ≡ t → sides_from count set part i ≡ t ∷ sides_from count set part (i + 1)
sides-in count set part i t below in_set side =
    let p : count - i ≡ suc (count - (i + 1)) = omega arith in
    (λ j. flagged (flags_from set i (p j)) (flags_from part i (p j))) ∙ (λ j. flagged (in_set j ∷ flags_from set (i + 1) (count - (i + 1))) (side j ∷ flags_from part (i + 1) (count - (i + 1))))

-- or it isn't
pub sides-out : (count set part i : ℕ) → i < count → has_word set i ≡ false → sides_from count set part i ≡ sides_from count set part (i + 1)
sides-out count set part i below out =
    let p : count - i ≡ suc (count - (i + 1)) = omega arith in
    (λ j. flagged (flags_from set i (p j)) (flags_from part i (p j))) ∙ (λ j. flagged (out j ∷ flags_from set (i + 1) (count - (i + 1))) (has_word part i ∷ flags_from part (i + 1) (count - (i + 1))))

module _ (picks all : List Pick) (sides rest : List Bool) (left right : List Pick) where
  -- the next pick is of the first choice
  pub joined-left : (x : Pick) (others : List Pick) → sides ≡ true ∷ rest → left ≡ x ∷ others → picks ++ joined sides left right ≡ all → (picks ++ x ∷ []) ++ joined rest others right ≡ all
  joined-left x others e f was = append_assoc picks (x ∷ []) (joined rest others right) ∙ (λ j. picks ++ joined (sym e j) (sym f j) right) ∙ was

  -- of the second
  pub joined-right : (x : Pick) (others : List Pick) → sides ≡ false ∷ rest → right ≡ x ∷ others → picks ++ joined sides left right ≡ all → (picks ++ x ∷ []) ++ joined rest left others ≡ all
  joined-right x others e f was = append_assoc picks (x ∷ []) (joined rest left others) ∙ right-is left ∙ was
    where
      right-is : (l : List Pick) → picks ++ (x ∷ joined rest l others) ≡ picks ++ joined sides l right
      right-is [] = λ j. picks ++ joined (sym e j) [] (sym f j)
      right-is (y ∷ l) = λ j. picks ++ joined (sym e j) (y ∷ l) (sym f j)

  -- of neither
  pub joined-no-left : sides ≡ true ∷ rest → left ≡ [] → picks ++ joined sides left right ≡ all → picks ++ joined rest left right ≡ all
  joined-no-left e f was = (λ j. picks ++ joined rest (f j) right) ∙ (λ j. picks ++ joined (sym e j) (sym f j) right) ∙ was

  pub joined-no-right : sides ≡ false ∷ rest → right ≡ [] → picks ++ joined sides left right ≡ all → picks ++ joined rest left right ≡ all
  joined-no-right e f was = (λ j. picks ++ joined rest left (f j)) ∙ none left ∙ was
    where
      none : (l : List Pick) → picks ++ joined rest l [] ≡ picks ++ joined sides l right
      none [] = λ j. picks ++ joined (sym e j) [] (sym f j)
      none (y ∷ l) = λ j. picks ++ joined (sym e j) (y ∷ l) (sym f j)

  pub joined-none : sides ≡ rest → picks ++ joined sides left right ≡ all → picks ++ joined rest left right ≡ all
  joined-none e was = (λ j. picks ++ joined (sym e j) left right) ∙ was

-- a list of no length
pub no-picks : (xs : List Pick) → length xs ≡ 0 → xs ≡ []
no-picks [] e = refl
no-picks (x ∷ xs) e = absurd (omega arith)
