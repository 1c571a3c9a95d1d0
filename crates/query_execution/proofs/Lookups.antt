-- The numbers that were looked up are those of the words by text.
use Rattle.std.proofs.Common.{◌≡◌, ℕ, zero, suc, Bool, true, false, cond, List, [], ◌∷◌, ◌++◌, inl, inr, Option, Some, None, refl, sym, ap, ◌∙◌, arith}
use Rattle.std.proofs.lemmas.Slice.Eq.{bytes_eq-Decides}
use Rattle.std.proofs.lemmas.List.Elements.{Contains-append_cases}
use Rattle.std.specs.List.{AllByRecursion, Contains, flat_map}
use Rattle.std.specs.Map.{lookup}
use Rattle.std.specs.Str.{bytes_eq}
use Rattle.term_impacts.specs.Form.{IsWordText, word_form}
use Rattle.store_tables.specs.Entries.{number_of_word}
use Rattle.store_model.proofs.Maps.{word_form-same as form-same}
use Rattle.query_execution.specs.Asked.{form_with, id_in}

module _ (texts : List (List ℕ × ℕ)) (word : List ℕ) (is : IsWordText word) where
  -- the form of a word is looked for
  abbrev sought : List ℕ → Bool
  sought = bytes_eq (word_form word)

  -- the form of another word, with its number, is passed over; the word's own has its number
  met : (other : List ℕ) → IsWordText other → (found : Option ℕ) → number_of_word other texts ≡ found → (rest : List (List ℕ × ℕ))
      → lookup sought rest ≡ number_of_word word texts → lookup sought (form_with other found ++ rest) ≡ number_of_word word texts
  met other also None named rest there = there
  met other also (Some n) named rest there = split (sought (word_form other)) refl
    where
      split : (b : Bool) → sought (word_form other) ≡ b → cond b (Some n) (lookup sought rest) ≡ number_of_word word texts
      split true e = sym named ∙ ap (λ (w : List ℕ). number_of_word w texts) (sym (form-same word other is also ((bytes_eq-Decides (word_form word) (word_form other)).0 e)))
      split false e = there

  -- a word without a number isn't found
  unknown : number_of_word word texts ≡ None → (words : List (List ℕ)) → AllByRecursion IsWordText words → lookup sought (flat_map (id_in texts) words) ≡ number_of_word word texts
  unknown none [] all = sym none
  unknown none (w ∷ words) all = met w all.0 (number_of_word w texts) refl (flat_map (id_in texts) words) (unknown none words all.1)

  -- a word of the list has its number there
  here : (n : ℕ) → number_of_word word texts ≡ Some n → (rest : List (List ℕ × ℕ)) → (found : Option ℕ) → number_of_word word texts ≡ found → lookup sought (form_with word found ++ rest) ≡ number_of_word word texts
  here n some rest None is_none = absurd (let no : None ≡ Some n = sym is_none ∙ some in cc)
  here n some rest (Some m) is_some = ap (λ (b : Bool). cond b (Some m) (lookup sought rest)) ((bytes_eq-Decides (word_form word) (word_form word)).1 refl) ∙ sym is_some

  -- one among the words is found with the number that the words by text have for it
  pub found-known : (words : List (List ℕ)) → AllByRecursion IsWordText words → Contains words word → lookup sought (flat_map (id_in texts) words) ≡ number_of_word word texts
  found-known words all among = by_number (number_of_word word texts) refl
    where
      among_rest : (n : ℕ) → number_of_word word texts ≡ Some n → (ws : List (List ℕ)) → AllByRecursion IsWordText ws → Contains ws word → lookup sought (flat_map (id_in texts) ws) ≡ number_of_word word texts
      among_rest n some [] all among = absurd (let less = among.1 in omega arith)
      among_rest n some (w ∷ ws) all among = elim (Contains-append_cases (w ∷ []) ws word among) [
        | inl first ↦ ap (λ (v : List ℕ). lookup sought (id_in texts v ++ flat_map (id_in texts) ws)) (alone w first) ∙ here n some (flat_map (id_in texts) ws) (number_of_word word texts) refl
        | inr later ↦ met w all.0 (number_of_word w texts) refl (flat_map (id_in texts) ws) (among_rest n some ws all.1 later)
      ]
        where
          alone : (w : List ℕ) → Contains (w ∷ []) word → w ≡ word
          alone w (zero, less, same) = same
          alone w (suc k, less, same) = absurd (omega arith)

      by_number : (found : Option ℕ) → number_of_word word texts ≡ found → lookup sought (flat_map (id_in texts) words) ≡ number_of_word word texts
      by_number None none = unknown none words all
      by_number (Some n) some = among_rest n some words all among
