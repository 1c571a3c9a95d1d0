-- Words that were found by their numbers.
use Rattle.std.proofs.Common.{◌≡◌, ℕ, List, ◌∷◌, Option, Some, None, option_map, ap, sym, subst, ◌∙◌}
use Rattle.std.specs.BTreeMap.{insert_entry}
use Rattle.page_face.specs.FreeList.{PageMap}
use Rattle.paged_map.specs.Lookups.{IsLookedUp}
use Rattle.row_codec.specs.declared.counted.Counted.{Counted}
use Rattle.row_codec.specs.Counted.{counted_value}
use Rattle.row_codec.specs.Pairs.{Pair}
use Rattle.store_tables.specs.Entries.{word_cmp}
use Rattle.store_tables.specs.Holding.{numbers_form}
use Rattle.store_tables.specs.Words.{word_in}
use Rattle.table_updates.specs.Shown.{AreWordsFound}

some-is : (x y : List ℕ) → Some x ≡ Some y → x ≡ y
some-is x y same = cc

-- the word that was found of a number, or none, is that of its row, or there is none
abbrev pub IsWordBy : PageMap → ℕ → ℕ → ℕ → Option (List ℕ) → Type 0
IsWordBy pages count root number found =
    (row : Option Counted) × IsLookedUp numbers_form pages count root number (option_map counted_value row) × (found ≡ word_in row)

-- what was found on pages was on the same pages
pub same-word : (old new : PageMap) (before after root number : ℕ) (found : Option (List ℕ)) → new ≡ old → after ≡ before → IsWordBy new after root number found → IsWordBy old before root number found
same-word old new before after root number found pages count is =
    subst (λ (p : PageMap). IsWordBy p before root number found) pages (subst (λ (n : ℕ). IsWordBy new n root number found) count is)

-- so were words
pub same-words : (old new : PageMap) (before after root : ℕ) (pairs : List Pair) (words : List (List ℕ × ℕ)) → new ≡ old → after ≡ before → AreWordsFound new after root pairs words → AreWordsFound old before root pairs words
same-words old new before after root pairs words pages count are =
    subst (λ (p : PageMap). AreWordsFound p before root pairs words) pages (subst (λ (n : ℕ). AreWordsFound new n root pairs words) count are)

word-row : (pages : PageMap) (count root number : ℕ) (row : Option Counted) (word : List ℕ) → IsLookedUp numbers_form pages count root number (option_map counted_value row) → Some word ≡ word_in row
    → (counted : Counted) × IsLookedUp numbers_form pages count root number (Some (counted_value counted)) × (counted.word ≡ word)
word-row pages count root number None word looked same = absurd (cc)
word-row pages count root number (Some counted) word looked same = (counted, looked, sym (some-is word counted.word same))

-- the word of the first pair's number, behind those of the others
pub words-one : (pages : PageMap) (count root : ℕ) (pairs rest : List Pair) (pair : Pair) (below words : List (List ℕ × ℕ)) (word : List ℕ) (found : Option (List ℕ))
    → pairs ≡ pair ∷ rest → AreWordsFound pages count root rest below → IsWordBy pages count root pair.0 found → found ≡ Some word → words ≡ insert_entry word_cmp below word pair.1
    → AreWordsFound pages count root pairs words
words-one pages count root pairs rest pair below words word found is all by some put =
    let one = word-row pages count root pair.0 by.0 word by.1 (sym some ∙ by.2) in
    subst (λ (ps : List Pair). AreWordsFound pages count root ps words) (sym is)
    (below, one.0, all, one.1, put ∙ ap (λ (w : List ℕ). insert_entry word_cmp below w pair.1) (sym one.2))
