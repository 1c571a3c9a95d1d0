-- Pairs in the order of their numbers, as a place has them.
use Rattle.std.proofs.Common.{◌≡◌, ℕ, ◌-◌, ◌<◌, ◌≤◌, ◌^◌, ◌==◌, Bool, true, false, cond, ◌||◌, is_some, List, [], ◌∷◌, length, replicate, take_at, drop_at, All, Option, Some, None, option_map, refl, sym, ap, subst, ◌∙◌, true≢false}
use Rattle.std.proofs.lemmas.Cmp.{tied_itself}
use Rattle.std.proofs.lemmas.List.Elements.{All-replicate}
use Rattle.std.proofs.lemmas.Map.Keys.{IsStrictlyIncreasing-from_sorted, sorted_head, sorted_tail}
use Rattle.std.specs.BTreeMap.{insert_entry, is_at}
use Rattle.std.specs.List.{AllByRecursion}
use Rattle.std.specs.List.Sorted.{IsStrictlyIncreasing, IsStrictlySortedBy}
use Rattle.std.specs.Map.{keys_of, lookup}
use Rattle.std.specs.Ordering.{is_eq, match_ordering, nat_cmp}
use Rattle.std.specs.declared.cmp.Ordering.TheVariants.{Less, Equal}
use Rattle.spatial_base.specs.Point.{Position}
use Rattle.row_codec.specs.declared.counted.Counted.{Counted}
use Rattle.row_codec.specs.Pairs.{Pair, HasImpact, IsSpare}
use Rattle.row_codec.specs.Stored.{IsStored, held_pairs}
use Rattle.store_tables.specs.Entries.{word_cmp, number_of_word, word_of_number}
use Rattle.store_tables.specs.Words.{WordTablesAgree, with_word, words_of_pairs}
use Rattle.store_tables.proofs.EntryLemmas.{equal_test}
use Rattle.store_tables.proofs.MapLemmas.{lookup-insert, numbers_are_ordered, same_from_test, test_of_same, words_are_ordered}
use Rattle.store_model.specs.Updates.{has_pair, by_number, placed, stored_with}
use Rattle.store_model.proofs.Steps.{word_at, AreNumbered, AreApart}
use Rattle.store_model.proofs.Numbers.{unpaired}
use Rattle.store_tables.proofs.WordLemmas.{no_word}
use Rattle.store_model.proofs.Ordered.{same_from_lookups, sorted-insert}

-- ---- apart

-- pairs whose numbers ascend are apart
pub apart-ascending : (pairs : List Pair) → IsStrictlySortedBy nat_cmp (keys_of pairs) → AreApart pairs
apart-ascending [] sorted = tt
apart-ascending (p ∷ pairs) sorted = (none pairs (sorted_head nat_cmp p.0 (keys_of pairs) sorted), apart-ascending pairs (sorted_tail nat_cmp p.0 (keys_of pairs) sorted))
  where
    none : (ps : List Pair) → AllByRecursion (λ y. nat_cmp p.0 y ≡ Less) (keys_of ps) → has_pair p.0 ps ≡ false
    none [] less = refl
    none (q ∷ ps) less =
        let here : (q.0 == p.0) ≡ false = equal_test p.0 q.0 ∙ ap is_eq less.0 in
        let rest = none ps less.1 in
        rw (here, rest) refl

-- and so are those of words that ascend
pub apart-numbered : (numbers : List (ℕ × Counted)) (words : List (List ℕ × ℕ)) (pairs : List Pair) → AreNumbered numbers words pairs → IsStrictlySortedBy word_cmp (keys_of words) → AreApart pairs
apart-numbered numbers [] [] named sorted = tt
apart-numbered numbers [] (p ∷ pairs) named sorted = absurd named
apart-numbered numbers (t ∷ words) [] named sorted = absurd named
apart-numbered numbers (t ∷ words) (p ∷ pairs) named sorted =
    let less = sorted_head word_cmp t.0 (keys_of words) sorted in (
      unpaired numbers p.0 words pairs named.2 (λ w is. (let same : Some t.0 ≡ Some w = sym named.0 ∙ is in others w (cc same) (keys_of words) less)),
      apart-numbered numbers words pairs named.2 (sorted_tail word_cmp t.0 (keys_of words) sorted),
    )
  where
    others : (w : List ℕ) → t.0 ≡ w → (ks : List (List ℕ)) → AllByRecursion (λ y. word_cmp t.0 y ≡ Less) ks → AllByRecursion (λ d. d ≡ w → ⊥) ks
    others w same [] less = tt
    others w same (k ∷ ks) less =
        let level : word_cmp t.0 t.0 ≡ Equal = tied_itself words_are_ordered.total t.0 in
        let here : word_cmp t.0 k ≡ Less = less.0 in
        (λ e. (let no : ⊥ = cc (level, here, e, same) in no), others w same ks less.1)

-- ---- in order

-- a number is among the pairs where it is found there
pub has_pair-lookup : (n : ℕ) (pairs : List Pair) → has_pair n pairs ≡ is_some (lookup (is_at (nat_cmp n)) pairs)
has_pair-lookup n [] = refl
has_pair-lookup n (p ∷ pairs) = ap (λ (b : Bool). b || has_pair n pairs) (equal_test n p.0) ∙ found (is_at (nat_cmp n) p.0) (has_pair-lookup n pairs)
  where
    found : (b : Bool) → has_pair n pairs ≡ is_some (lookup (is_at (nat_cmp n)) pairs) → (b || has_pair n pairs) ≡ is_some (cond b (Some p.1) (lookup (is_at (nat_cmp n)) pairs))
    found true e = refl
    found false e = e

-- what is not found is nothing
none_found : (found : Option ℕ) → is_some found ≡ false → found ≡ None
none_found None e = refl
none_found (Some x) e = absurd (true≢false e)

-- the first, or else the other
abbrev or_else : Option ℕ → Option ℕ → Option ℕ
or_else None other = other
or_else (Some x) other = Some x

-- nothing else is found where there is nothing
or_else_none : (found : Option ℕ) → or_else found None ≡ found
or_else_none None = refl
or_else_none (Some x) = refl

-- what is found among pairs that were put
lookup_placed : (n : ℕ) (done pairs : List Pair) → AreApart pairs → lookup (is_at (nat_cmp n)) (placed done pairs) ≡ or_else (lookup (is_at (nat_cmp n)) pairs) (lookup (is_at (nat_cmp n)) done)
lookup_placed n done [] apart = refl
lookup_placed n done (p ∷ pairs) apart =
    lookup_placed n (insert_entry nat_cmp done p.0 p.1) pairs apart.1
    ∙ ap (or_else (lookup (is_at (nat_cmp n)) pairs)) (lookup-insert numbers_are_ordered n p.0 p.1 done)
    ∙ split (is_at (nat_cmp n) p.0) refl
  where
    split : (b : Bool) → is_at (nat_cmp n) p.0 ≡ b
        → or_else (lookup (is_at (nat_cmp n)) pairs) (cond b (Some p.1) (lookup (is_at (nat_cmp n)) done)) ≡ or_else (cond b (Some p.1) (lookup (is_at (nat_cmp n)) pairs)) (lookup (is_at (nat_cmp n)) done)
    split true here =
        let same : n ≡ p.0 = same_from_test numbers_are_ordered n p.0 here in
        let none : lookup (is_at (nat_cmp n)) pairs ≡ None = none_found _ (sym (has_pair-lookup n pairs) ∙ ap (λ (k : ℕ). has_pair k pairs) same ∙ apart.0) in
        rw none refl
    split false other = refl

-- what is found among pairs in the order of their numbers
pub lookup-by_number : (n : ℕ) (pairs : List Pair) → AreApart pairs → lookup (is_at (nat_cmp n)) (by_number pairs) ≡ lookup (is_at (nat_cmp n)) pairs
lookup-by_number n pairs apart = lookup_placed n [] pairs apart ∙ or_else_none (lookup (is_at (nat_cmp n)) pairs)

-- a number is among pairs with one put where it is that one's or is among them
has_pair-insert : (n number impact : ℕ) (pairs : List Pair) → has_pair n (insert_entry nat_cmp pairs number impact) ≡ ((number == n) || has_pair n pairs)
has_pair-insert n number impact pairs =
    has_pair-lookup n (insert_entry nat_cmp pairs number impact)
    ∙ ap is_some (lookup-insert numbers_are_ordered n number impact pairs)
    ∙ found (is_at (nat_cmp n) number) (lookup (is_at (nat_cmp n)) pairs)
    ∙ (λ i. sym (equal_test n number) i || sym (has_pair-lookup n pairs) i)
  where
    found : (b : Bool) (f : Option ℕ) → is_some (cond b (Some impact) f) ≡ (b || is_some f)
    found true f = refl
    found false f = refl

-- and among pairs that were put where it is among those that came or those that were there
has_pair_placed : (n : ℕ) (done pairs : List Pair) → has_pair n (placed done pairs) ≡ (has_pair n pairs || has_pair n done)
has_pair_placed n done [] = refl
has_pair_placed n done (p ∷ pairs) =
    has_pair_placed n (insert_entry nat_cmp done p.0 p.1) pairs
    ∙ ap (λ (b : Bool). has_pair n pairs || b) (has_pair-insert n p.0 p.1 done)
    ∙ moved (p.0 == n) (has_pair n pairs) (has_pair n done)
  where
    moved : (a b c : Bool) → (b || (a || c)) ≡ ((a || b) || c)
    moved true true c = refl
    moved true false c = refl
    moved false b c = refl

-- a number is among the pairs in order where it is among the pairs
pub has_pair-by_number : (n : ℕ) (pairs : List Pair) → has_pair n (by_number pairs) ≡ has_pair n pairs
has_pair-by_number n pairs = has_pair_placed n [] pairs ∙ or_false (has_pair n pairs)
  where
    or_false : (b : Bool) → (b || false) ≡ b
    or_false true = refl
    or_false false = refl

-- ---- words

-- the impact at a word's number, where it has one
abbrev pub impact_at : Option ℕ → List Pair → Option ℕ
impact_at None pairs = None
impact_at (Some n) pairs = lookup (is_at (nat_cmp n)) pairs

-- the word of a row
abbrev word_in : Option Counted → Option (List ℕ)
word_in = option_map (λ (c : Counted). c.word)

-- the words of pairs ascend
sorted-words : (numbers : List (ℕ × Counted)) (pairs : List Pair) → IsStrictlySortedBy word_cmp (keys_of (words_of_pairs numbers pairs))
unfolding IsStrictlySortedBy
sorted-words numbers [] = tt
sorted-words numbers (p ∷ pairs) = with_one (word_of_number p.0 numbers) (sorted-words numbers pairs)
  where
    with_one : (found : Option Counted) → IsStrictlySortedBy word_cmp (keys_of (words_of_pairs numbers pairs)) → IsStrictlySortedBy word_cmp (keys_of (with_word found p.1 (words_of_pairs numbers pairs)))
    with_one None sorted = sorted
    with_one (Some c) sorted = sorted-insert words_are_ordered.total c.word p.1 (words_of_pairs numbers pairs) sorted

module _ (claims : ℕ → ℕ) (texts : List (List ℕ × ℕ)) (numbers : List (ℕ × Counted)) (next_word : ℕ) (agree : WordTablesAgree claims texts numbers next_word) where
  -- a word's impact is that of its number's pair
  pub lookup_words : (q : List ℕ) (pairs : List Pair) → lookup (is_at (word_cmp q)) (words_of_pairs numbers pairs) ≡ impact_at (number_of_word q texts) pairs
  lookup_words q [] = none (number_of_word q texts)
    where
      none : (f : Option ℕ) → None ≡ impact_at f []
      none None = refl
      none (Some n) = refl
  lookup_words q (p ∷ pairs) = split (word_of_number p.0 numbers) refl (lookup_words q pairs)
    where
      skipped : (n : ℕ) → (n ≡ p.0 → ⊥) → (b : Bool) → is_at (nat_cmp n) p.0 ≡ b → lookup (is_at (nat_cmp n)) pairs ≡ cond b (Some p.1) (lookup (is_at (nat_cmp n)) pairs)
      skipped n other true at = absurd (other (same_from_test numbers_are_ordered n p.0 at))
      skipped n other false at = refl

      unnamed : word_of_number p.0 numbers ≡ None → (f : Option ℕ) → number_of_word q texts ≡ f → impact_at f pairs ≡ impact_at f (p ∷ pairs)
      unnamed e None is = refl
      unnamed e (Some n) is = skipped n (λ same. no_word q (sym (ap word_in e) ∙ ap (λ (k : ℕ). word_at k numbers) (sym same) ∙ (agree.inverse q n).0 is)) (is_at (nat_cmp n) p.0) refl

      taken : (c : Counted) → word_of_number p.0 numbers ≡ Some c → q ≡ c.word → (f : Option ℕ) → number_of_word q texts ≡ f → Some p.1 ≡ impact_at f (p ∷ pairs)
      taken c e same f is =
          let number : number_of_word q texts ≡ Some p.0 = (agree.inverse q p.0).1 (ap word_in e ∙ ap Some (sym same)) in
          let first : lookup (is_at (nat_cmp p.0)) (p ∷ pairs) ≡ Some p.1 = ap (λ b. cond b (Some p.1) (lookup (is_at (nat_cmp p.0)) pairs)) (test_of_same numbers_are_ordered p.0 p.0 refl) in
          sym (ap (λ (g : Option ℕ). impact_at g (p ∷ pairs)) (sym is ∙ number) ∙ first)

      left : (c : Counted) → word_of_number p.0 numbers ≡ Some c → (q ≡ c.word → ⊥) → (f : Option ℕ) → number_of_word q texts ≡ f → impact_at f pairs ≡ impact_at f (p ∷ pairs)
      left c e other None is = refl
      left c e other (Some n) is =
          skipped n (λ same. (let one : Some q ≡ Some c.word = sym ((agree.inverse q n).0 is) ∙ ap (λ (k : ℕ). word_at k numbers) same ∙ ap word_in e in other (cc one))) (is_at (nat_cmp n) p.0) refl

      named : (c : Counted) → word_of_number p.0 numbers ≡ Some c → (b : Bool) → is_at (word_cmp q) c.word ≡ b → cond b (Some p.1) (impact_at (number_of_word q texts) pairs) ≡ impact_at (number_of_word q texts) (p ∷ pairs)
      named c e true at = taken c e (same_from_test words_are_ordered q c.word at) (number_of_word q texts) refl
      named c e false at = left c e (λ same. true≢false (sym (test_of_same words_are_ordered q c.word same) ∙ at)) (number_of_word q texts) refl

      split : (found : Option Counted) → word_of_number p.0 numbers ≡ found → lookup (is_at (word_cmp q)) (words_of_pairs numbers pairs) ≡ impact_at (number_of_word q texts) pairs
          → lookup (is_at (word_cmp q)) (with_word found p.1 (words_of_pairs numbers pairs)) ≡ impact_at (number_of_word q texts) (p ∷ pairs)
      split None e rest = rest ∙ unnamed e (number_of_word q texts) refl
      split (Some c) e rest =
          lookup-insert words_are_ordered q c.word p.1 (words_of_pairs numbers pairs)
          ∙ ap (cond (is_at (word_cmp q) c.word) (Some p.1)) rest
          ∙ named c e (is_at (word_cmp q) c.word) refl

  -- the words of pairs in the order of their numbers are those of the pairs
  pub words-by_number : (pairs : List Pair) → AreApart pairs → words_of_pairs numbers (by_number pairs) ≡ words_of_pairs numbers pairs
  words-by_number pairs apart =
      same_from_lookups words_are_ordered _ _ (sorted-words numbers (by_number pairs)) (sorted-words numbers pairs)
      (λ q. lookup_words q (by_number pairs) ∙ same (number_of_word q texts) ∙ sym (lookup_words q pairs))
    where
      same : (f : Option ℕ) → impact_at f (by_number pairs) ≡ impact_at f pairs
      same None = refl
      same (Some n) = lookup-by_number n pairs apart

-- the words that have these numbers are the pairs'
pub words-numbered : (numbers : List (ℕ × Counted)) (words : List (List ℕ × ℕ)) (pairs : List Pair) → AreNumbered numbers words pairs → IsStrictlySortedBy word_cmp (keys_of words) → words_of_pairs numbers pairs ≡ words
words-numbered numbers [] [] named sorted = refl
words-numbered numbers [] (p ∷ pairs) named sorted = absurd named
words-numbered numbers (t ∷ words) [] named sorted = absurd named
words-numbered numbers (t ∷ words) (p ∷ pairs) named sorted =
    with_named (word_of_number p.0 numbers) named.0
    ∙ (λ i. insert_entry word_cmp (words-numbered numbers words pairs named.2 (sorted_tail word_cmp t.0 (keys_of words) sorted) i) t.0 (named.1 i))
    ∙ in_front words (sorted_head word_cmp t.0 (keys_of words) sorted)
  where
    with_named : (found : Option Counted) → word_in found ≡ Some t.0 → with_word found p.1 (words_of_pairs numbers pairs) ≡ insert_entry word_cmp (words_of_pairs numbers pairs) t.0 p.1
    with_named None e = absurd (no_word t.0 e)
    with_named (Some c) e = (let same : c.word ≡ t.0 = cc e in ap (λ w. insert_entry word_cmp (words_of_pairs numbers pairs) w p.1) same)

    in_front : (ws : List (List ℕ × ℕ)) → AllByRecursion (λ y. word_cmp t.0 y ≡ Less) (keys_of ws) → insert_entry word_cmp ws t.0 t.1 ≡ t ∷ ws
    in_front [] less = refl
    in_front (w ∷ ws) less = ap (λ o. match_ordering o ((t.0, t.1) ∷ (w ∷ ws)) ((w.0, t.1) ∷ ws) (w ∷ insert_entry word_cmp ws t.0 t.1)) less.0

-- ---- a place

-- the pairs of a place of these pairs
pub held-stored_with : (point : Position) (pairs : List Pair) (label : List ℕ) → held_pairs (stored_with point pairs label) ≡ pairs
held-stored_with point pairs label = take_at pairs (replicate (64 - length pairs) (0, 0)) (length pairs) refl

-- a number of a u64
abbrev pub IsNumber : ℕ → Type 0
IsNumber n = n < 2 ^ 64

-- an impact
abbrev pub IsImpact : ℕ → Type 0
IsImpact i = (1 ≤ i) × (i ≤ 255)

-- Pairs that ascend by number, with impacts, make a place of its form.
pub stored-ascending : (point : Position) (pairs : List Pair) (label : List ℕ) → length pairs ≤ 64 → IsStrictlySortedBy nat_cmp (keys_of pairs) → All HasImpact pairs → IsStored (stored_with point pairs label)
stored-ascending point pairs label few sorted impacts =
    let held = held-stored_with point pairs label in
    record {
      few = few;
      ascending = subst (λ (ps : List Pair). IsStrictlyIncreasing (keys_of ps)) (sym held) (IsStrictlyIncreasing-from_sorted (keys_of pairs) sorted);
      impacts = subst (All HasImpact) (sym held) impacts;
      spare = subst (All IsSpare) (sym (drop_at pairs (replicate (64 - length pairs) (0, 0)) (length pairs) refl)) (All-replicate IsSpare (64 - length pairs) (0, 0) (refl, refl));
    }
