-- What the tables hold once a word is held.
use Rattle.std.proofs.Common.{◌≡◌, ℕ, ◌+◌, List, Option, Some, None, is_some, unwrap_or, Result, Ok, Err, IfOk, OnOk, refl, sym, ap, subst, ◌∙◌}
use Rattle.std.specs.BTreeMap.{insert_entry}
use Rattle.std.specs.Ordering.{nat_cmp}
use Rattle.page_face.specs.FreeList.{PageMap}
use Rattle.btree_nodes.specs.Supply.{View}
use Rattle.row_codec.specs.declared.counted.Counted.{Counted}
use Rattle.paged_map.specs.declared.replacing.RowSpot.{RowSpot}
use Rattle.store_tables.specs.declared.reading.CountedRow.{CountedRow}
use Rattle.store_tables.specs.declared.tables.Tables.{Tables}
use Rattle.store_tables.specs.Entries.{Entries, number_of_word, word_cmp, word_of_number}
use Rattle.store_tables.specs.Holding.{IsChanged}
use Rattle.store_tables.specs.Rows.{counted_in, spot_in}
use Rattle.store_tables.specs.Words.{CanHoldBy, IsHoldableRow, next_after, number_for, places_in, places_of_number, texts_after, with_holds}

-- the entries after a hold, by the word's number, or none, and its new count
abbrev held_with : List ℕ → ℕ → Entries → Option ℕ → ℕ → Entries
held_with word next_word entries found places =
    record entries {
      texts = texts_after found word next_word entries.texts;
      numbers = insert_entry nat_cmp entries.numbers (unwrap_or found next_word) (record { word = word; places = places });
    }

held_as : (more : ℕ) (word : List ℕ) (next_word places : ℕ) (found : Option ℕ) (entries : Entries) → number_of_word word entries.texts ≡ found → places ≡ places_of_number (number_for word next_word entries.texts) entries.numbers + more
    → with_holds more word next_word entries ≡ held_with word next_word entries found places
held_as more word next_word places found entries was is = (λ i. held_with word next_word entries (was i) (sym is i))

-- a word that has a number
pub with_holds-known : (more : ℕ) (word : List ℕ) (next_word number places : ℕ) (entries : Entries) → number_of_word word entries.texts ≡ Some number → places ≡ places_of_number (number_for word next_word entries.texts) entries.numbers + more
    → with_holds more word next_word entries ≡ record entries { numbers = insert_entry nat_cmp entries.numbers number (record { word = word; places = places }) }
with_holds-known more word next_word number places entries was is = held_as more word next_word places (Some number) entries was is

-- a word that is new
pub with_holds-new : (more : ℕ) (word : List ℕ) (next_word places : ℕ) (entries : Entries) → number_of_word word entries.texts ≡ None → places ≡ places_of_number (number_for word next_word entries.texts) entries.numbers + more
    → with_holds more word next_word entries ≡ record entries { texts = insert_entry word_cmp entries.texts word next_word; numbers = insert_entry nat_cmp entries.numbers next_word (record { word = word; places = places }) }
with_holds-new more word next_word places entries was is = held_as more word next_word places None entries was is

-- a word that has a number, which was found
pub with_holds-found : (more : ℕ) (word : List ℕ) (next_word places : ℕ) (found : Option ℕ) (spot : Option RowSpot) (here : RowSpot) (entries : Entries) → found ≡ number_of_word word entries.texts → is_some spot ≡ is_some found → spot ≡ Some here
    → places ≡ places_of_number (number_for word next_word entries.texts) entries.numbers + more
    → (with_holds more word next_word entries ≡ record entries { numbers = insert_entry nat_cmp entries.numbers (unwrap_or found next_word) (record { word = word; places = places }) }) × (next_after (number_of_word word entries.texts) next_word ≡ next_word)
with_holds-found more word next_word places None spot here entries was known at is = absurd (cc (known, at))
with_holds-found more word next_word places (Some number) spot here entries was known at is =
    (with_holds-known more word next_word number places entries (sym was) is, ap (λ (f : Option ℕ). next_after f next_word) (sym was))

-- no number was found where no row was
pub none-found : (found : Option ℕ) (spot : Option RowSpot) → is_some spot ≡ is_some found → spot ≡ None → found ≡ None
none-found None spot known at = refl
none-found (Some number) spot known at = absurd (cc (known, at))

-- what was read of a word stands in the entries
read_as : (word : List ℕ) (next_word : ℕ) (entries : Entries) (found : Option ℕ) (row : Option Counted) → found ≡ number_of_word word entries.texts → row ≡ word_of_number (unwrap_or found next_word) entries.numbers
    → row ≡ word_of_number (number_for word next_word entries.texts) entries.numbers
read_as word next_word entries found row was is = is ∙ ap (λ (f : Option ℕ). word_of_number (unwrap_or f next_word) entries.numbers) was

-- a word that can be held, by what was read of it
pub can_hold-read : (more : ℕ) (word : List ℕ) (next_word : ℕ) (entries : Entries) (found : Option ℕ) (row : Option Counted) → found ≡ number_of_word word entries.texts → row ≡ word_of_number (unwrap_or found next_word) entries.numbers → IsHoldableRow more word found row
    → CanHoldBy more word next_word entries
can_hold-read more word next_word entries found row was is holdable =
    subst (λ (r : Option Counted). IsHoldableRow more word (number_of_word word entries.texts) r) (read_as word next_word entries found row was is) (subst (λ (f : Option ℕ). IsHoldableRow more word f row) was holdable)

-- and one that can't
pub cannot_hold-read : (more : ℕ) (word : List ℕ) (next_word : ℕ) (entries : Entries) (found : Option ℕ) (row : Option Counted) → found ≡ number_of_word word entries.texts → row ≡ word_of_number (unwrap_or found next_word) entries.numbers → (IsHoldableRow more word found row → ⊥)
    → CanHoldBy more word next_word entries → ⊥
cannot_hold-read more word next_word entries found row was is unheld can =
    unheld (subst (λ (f : Option ℕ). IsHoldableRow more word f row) (sym was) (subst (λ (r : Option Counted). IsHoldableRow more word (number_of_word word entries.texts) r) (sym (read_as word next_word entries found row was is)) can))

-- a word has a row where it has a number
pub known-read : (more : ℕ) (word : List ℕ) (found : Option ℕ) (row : Option CountedRow) (spot : Option RowSpot) → spot ≡ spot_in row → IsHoldableRow more word found (counted_in row) → is_some spot ≡ is_some found
known-read more word None None spot at holdable = ap is_some at
known-read more word None (Some row) spot at holdable = absurd (cc holdable)
known-read more word (Some number) None spot at holdable = absurd (cc holdable.0)
known-read more word (Some number) (Some row) spot at holdable = ap is_some at

-- its count
pub places-read : (more : ℕ) (word : List ℕ) (next_word places : ℕ) (entries : Entries) (found : Option ℕ) (row : Option Counted) → found ≡ number_of_word word entries.texts → row ≡ word_of_number (unwrap_or found next_word) entries.numbers → places ≡ places_in row + more
    → places ≡ places_of_number (number_for word next_word entries.texts) entries.numbers + more
places-read more word next_word places entries found row was is sum = sum ∙ ap (λ (r : Option Counted). places_in r + more) (read_as word next_word entries found row was is)

-- what a call that succeeds says, by three of its clauses
pub if_ok : {T E : Type 0} {P Q R : T → Type 0} {N : Type 0} (result : Result T E) → IfOk result P → IfOk result Q → OnOk result N → ((x : T) → P x → Q x → N → R x) → IfOk result R
if_ok (Ok x) p q n f = f x p q n
if_ok (Err e) p q n f = tt

-- tables of the same roots hold the same
pub changed-next : {before : View} {old new : Tables} {pages : PageMap} {count first : ℕ} {entries : Entries} → (c : IsChanged before old pages count first new entries) → (next_word : ℕ)
    → IsChanged before old pages count first (record new { next_word = next_word }) entries
changed-next c next_word = record {
  free = c.free;
  holds = record { places = c.holds.places; texts = c.holds.texts; numbers = c.holds.numbers };
  apart = record { supplied = c.apart.supplied; once = c.apart.once; away = c.apart.away; some = c.apart.some };
  moves = c.moves;
}
