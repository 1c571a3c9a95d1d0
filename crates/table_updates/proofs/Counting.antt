-- Words that are counted once more.
use Rattle.std.proofs.Common.{◌≡◌, ℕ, ◌+◌, ◌≤◌, Bool, true, false, cond, List, [], ◌∷◌, Option, Some, None, is_some, position, unwrap_or, refl, sym, ap, subst, ◌∙◌, true≢false, zero, suc, arith}
use Rattle.std.proofs.lemmas.List.Sums.{sum_by-cons}
use Rattle.std.specs.Cmp.Lexicographic.{same_text}
use Rattle.std.specs.List.{AllByRecursion, IsDistinct}
use Rattle.std.specs.Map.{keys_of, lookup}
use Rattle.std.specs.Str.{bytes_eq}
use Rattle.indexmap.proofs.MapLemmas.{Found-position, insert_entry-first}
use Rattle.indexmap.specs.IndexMap.{insert_entry, set_value_at}
use Rattle.store_model.specs.Ahead.{AreCountedWords, times_counted}
use Rattle.table_updates.specs.Order.{behind}

-- how often a word was counted; 0 where it wasn't
abbrev pub times_of : List ℕ → List (List ℕ × ℕ) → ℕ
times_of word counts = unwrap_or (lookup (bytes_eq word) counts) 0

-- what a counted word adds to those with a property
abbrev added : (List ℕ → Bool) → List ℕ × ℕ → ℕ
added has count = cond (has count.0) count.1 0

module _ (has : List ℕ → Bool) (word : List ℕ) where
  -- one entry in front
  added-cons : (c : List ℕ × ℕ) (counts : List (List ℕ × ℕ)) → times_counted has (c ∷ counts) ≡ added has c + times_counted has counts
  added-cons c counts = sum_by-cons (added has) c counts

  both : (b : Bool) (k : ℕ) → cond b (k + 1) 0 ≡ cond b k 0 + cond b 1 0
  both true k = refl
  both false k = omega arith

  -- a word put with one count more: those with a property were counted once more, if it has it
  pub times-more : (counts : List (List ℕ × ℕ)) (k : ℕ) → times_of word counts ≡ k → times_counted has (insert_entry bytes_eq counts word (k + 1)) ≡ times_counted has counts + cond (has word) 1 0
  times-more [] k is =
      let none : ◌≡◌ {A = ℕ} 0 k = is in
      let own = both (has word) k in
      let old : ◌≡◌ {A = ℕ} (cond (has word) k 0) (cond (has word) 0 0) = ap (λ (m : ℕ). cond (has word) m 0) (sym none) in
      let zero : ◌≡◌ {A = ℕ} (cond (has word) 0 0) 0 = by (has word) in
      omega (arith, own, old, zero, added-cons (word, k + 1) [])
    where
      by : (b : Bool) → ◌≡◌ {A = ℕ} (cond b 0 0) 0
      by true = refl
      by false = refl
  times-more (c ∷ counts) k is = by (times-more counts k) (bytes_eq word c.0) refl is
    where
      by : (times_of word counts ≡ k → times_counted has (insert_entry bytes_eq counts word (k + 1)) ≡ times_counted has counts + cond (has word) 1 0)
          → (b : Bool) → bytes_eq word c.0 ≡ b → unwrap_or (cond b (Some c.1) (lookup (bytes_eq word) counts)) 0 ≡ k
          → times_counted has (cond b ((c.0, k + 1) ∷ counts) (c ∷ insert_entry bytes_eq counts word (k + 1))) ≡ times_counted has (c ∷ counts) + cond (has word) 1 0
      by rest true at is =
          let same : word ≡ c.0 = same_text word c.0 (sym at) in
          let own : ◌≡◌ {A = ℕ} (cond (has c.0) (k + 1) 0) (cond (has c.0) k 0 + cond (has c.0) 1 0) = both (has c.0) k in
          let here : ◌≡◌ {A = ℕ} (cond (has word) 1 0) (cond (has c.0) 1 0) = ap (λ (w : List ℕ). cond (has w) 1 0) same in
          let old : ◌≡◌ {A = ℕ} (cond (has c.0) c.1 0) (cond (has c.0) k 0) = ap (λ (m : ℕ). cond (has c.0) m 0) is in
          omega (arith, own, here, old, added-cons (c.0, k + 1) counts, added-cons c counts)
      by rest false at is = (let behind = rest is in omega (arith, behind, added-cons c (insert_entry bytes_eq counts word (k + 1)), added-cons c counts))

-- a word was counted no more often than all
pub times-most : (word : List ℕ) (counts : List (List ℕ × ℕ)) → times_of word counts ≤ times_counted (λ w. true) counts
times-most word [] = omega arith
times-most word (c ∷ counts) = by (times-most word counts) (bytes_eq word c.0)
  where
    by : times_of word counts ≤ times_counted (λ w. true) counts → (b : Bool) → unwrap_or (cond b (Some c.1) (lookup (bytes_eq word) counts)) 0 ≤ times_counted (λ w. true) (c ∷ counts)
    by rest true = omega (arith, sum_by-cons (λ (d : List ℕ × ℕ). d.1) c counts)
    by rest false = omega (arith, rest, sum_by-cons (λ (d : List ℕ × ℕ). d.1) c counts)

-- what holds of each count and of one that is put holds of all
each-put : (word : List ℕ) (k : ℕ) → 1 ≤ k → (counts : List (List ℕ × ℕ)) → AllByRecursion (λ (c : List ℕ × ℕ). 1 ≤ c.1) counts → AllByRecursion (λ (c : List ℕ × ℕ). 1 ≤ c.1) (insert_entry bytes_eq counts word k)
each-put word k one [] all = (one, tt)
each-put word k one (c ∷ counts) all = by (each-put word k one counts all.1) (bytes_eq word c.0)
  where
    by : AllByRecursion (λ (c : List ℕ × ℕ). 1 ≤ c.1) (insert_entry bytes_eq counts word k)
        → (b : Bool) → AllByRecursion (λ (c : List ℕ × ℕ). 1 ≤ c.1) (cond b ((c.0, k) ∷ counts) (c ∷ insert_entry bytes_eq counts word k))
    by rest true = (one, all.1)
    by rest false = (all.0, rest)

-- counted words with one counted once more
pub counted-more : (word : List ℕ) (k : ℕ) (counts : List (List ℕ × ℕ)) → AreCountedWords counts → IsDistinct bytes_eq (keys_of (insert_entry bytes_eq counts word (k + 1))) → AreCountedWords (insert_entry bytes_eq counts word (k + 1))
counted-more word k counts are distinct = record { distinct = distinct; some = each-put word (k + 1) (omega arith) counts are.some }

-- a word that is found nowhere wasn't counted
pub times-none : (found : Option ℕ) → false ≡ is_some found → unwrap_or found 0 ≡ 0
times-none None none = refl
times-none (Some k) none = absurd (true≢false (sym none))

-- a word that is put comes behind the others
pub keys-put : (word : List ℕ) (k : ℕ) (counts : List (List ℕ × ℕ)) → keys_of (insert_entry bytes_eq counts word k) ≡ behind (keys_of counts) word
keys-put word k [] = refl
keys-put word k (c ∷ counts) = by (keys-put word k counts) (bytes_eq word c.0)
  where
    by : keys_of (insert_entry bytes_eq counts word k) ≡ behind (keys_of counts) word
        → (b : Bool) → keys_of (cond b ((c.0, k) ∷ counts) (c ∷ insert_entry bytes_eq counts word k)) ≡ cond b (c.0 ∷ keys_of counts) (c.0 ∷ behind (keys_of counts) word)
    by rest true = refl
    by rest false = ap (λ (ws : List (List ℕ)). c.0 ∷ ws) rest

-- a count is written and the words stay
words-at : (counts : List (List ℕ × ℕ)) (at k : ℕ) → keys_of (set_value_at counts at k) ≡ keys_of counts
words-at [] at k = refl
words-at (c ∷ counts) zero k = refl
words-at (c ∷ counts) (suc at) k = ap (λ (ws : List (List ℕ)). c.0 ∷ ws) (words-at counts at k)

module _ (word : List ℕ) (counts : List (List ℕ × ℕ)) (at k : ℕ) (found : position (bytes_eq word) (keys_of counts) ≡ Some at) where
  -- a count that is written where its word was found is put at the word
  pub put-at : insert_entry bytes_eq counts word (k + 1) ≡ set_value_at counts at (k + 1)
  put-at = insert_entry-first bytes_eq word (k + 1) counts at (Found-position (bytes_eq word) counts at found).first

  -- so the words are counted words still
  pub counted-at : AreCountedWords counts → AreCountedWords (set_value_at counts at (k + 1))
  counted-at are = subst AreCountedWords put-at (counted-more word k counts are (subst (IsDistinct bytes_eq) (sym (ap keys_of put-at ∙ words-at counts at (k + 1))) are.distinct))

  -- and their order is that in which they first came
  pub order-at : keys_of (set_value_at counts at (k + 1)) ≡ behind (keys_of counts) word
  order-at = ap keys_of (sym put-at) ∙ keys-put word (k + 1) counts

  -- with the word counted once more
  pub times-at : (has : List ℕ → Bool) → times_of word counts ≡ k → times_counted has (set_value_at counts at (k + 1)) ≡ times_counted has counts + cond (has word) 1 0
  times-at has is = ap (times_counted has) (sym put-at) ∙ times-more has word counts k is
