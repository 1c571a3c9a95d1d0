-- A walk over the words of a text.
use Rattle.std.proofs.Common.{◌≡◌, ℕ, List, [], ◌∷◌, ◌++◌, true, false, true≢false, is_some, Option, None, Some, refl, sym, ap, ◌∙◌, option_to_list, append_assoc, append-nil, length, length-append, ◌≤◌, arith}
use Rattle.term_impacts.specs.Tally.{IsTally}
use Rattle.term_impacts.specs.Text.{only}

-- the words that came are counted, and the others are left
pub record HasTallied (words : List (List ℕ)) (entries : List (List ℕ × ℕ)) (total : ℕ) (rest : List (List ℕ)) : Type 0 where
  pub seen : List (List ℕ)
  pub all : words ≡ seen ++ rest
  pub tally : IsTally seen entries total

-- the words that came are this one, or none
pub record HasFound (words : List (List ℕ)) (found : Option (List ℕ)) (rest : List (List ℕ)) : Type 0 where
  pub all : words ≡ option_to_list found ++ rest

pub HasFound-first : (words : List (List ℕ)) (found : Option (List ℕ)) (word : List ℕ) (rest later : List (List ℕ)) → HasFound words found rest → false ≡ is_some found → rest ≡ word ∷ later
    → HasFound words (Some word) later
HasFound-first words None word rest later w none step = record { all = w.all ∙ step }
HasFound-first words (Some first) word rest later w none step = absurd (true≢false (sym none))

-- a second word came
pub only-second : (words : List (List ℕ)) (found : Option (List ℕ)) (word : List ℕ) (rest later : List (List ℕ)) → HasFound words found rest → true ≡ is_some found
    → rest ≡ word ∷ later → None ≡ only words
only-second words None word rest later w some step = absurd (true≢false some)
only-second words (Some first) word rest later w some step = sym (ap only (w.all ∙ ap (λ l. first ∷ l) step))

-- no further word came
pub only-all : (words : List (List ℕ)) (found : Option (List ℕ)) (rest : List (List ℕ)) → HasFound words found rest → rest ≡ [] → only words ≡ found
only-all words found rest w ended =
    ap only (w.all ∙ ap (λ l. option_to_list found ++ l) ended ∙ append-nil (option_to_list found))
    ∙ elim found as (λ o. only (option_to_list o) ≡ o) [ None ↦ refl | Some x ↦ refl ]

-- one more word is counted
pub HasTallied-more : (words : List (List ℕ)) (old new : List (List ℕ × ℕ)) (before after : ℕ) (word : List ℕ) (rest later : List (List ℕ)) (w : HasTallied words old before rest)
    → rest ≡ word ∷ later → IsTally (w.seen ++ word ∷ []) new after → HasTallied words new after later
HasTallied-more words old new before after word rest later w step tally = record {
  seen = w.seen ++ word ∷ [];
  all = w.all ∙ ap (λ l. w.seen ++ l) step ∙ sym (append_assoc w.seen (word ∷ []) later);
  tally = tally;
}

-- where no word is left, all are counted
pub HasTallied-all : (words : List (List ℕ)) (entries : List (List ℕ × ℕ)) (total : ℕ) (rest : List (List ℕ)) (w : HasTallied words entries total rest) → rest ≡ [] → w.seen ≡ words
HasTallied-all words entries total rest w ended = sym (w.all ∙ ap (λ l. w.seen ++ l) ended ∙ append-nil w.seen)

-- no more words are counted than there are
pub length-seen : (words : List (List ℕ)) (entries : List (List ℕ × ℕ)) (total : ℕ) (rest : List (List ℕ)) (w : HasTallied words entries total rest) → length w.seen ≤ length words
length-seen words entries total rest w = omega (arith, ap length w.all, length-append w.seen rest)
