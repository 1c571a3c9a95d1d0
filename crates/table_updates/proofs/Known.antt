-- Numbers that have words.
use Rattle.std.proofs.Common.{◌≡◌, ℕ, suc, inl, inr, ⊎_elim, List, [], ◌∷◌, Bool, true, false, cond, Option, Some, None, IfSome, option_map, arith, refl, ap, sym, subst, ◌∙◌}
use Rattle.std.specs.BTreeMap.{is_at}
use Rattle.page_face.specs.FreeList.{PageMap}
use Rattle.page_face.specs.declared.fault.Damage.{Damage}
use Rattle.spatial_base.specs.Key.{Name, key_cmp}
use Rattle.row_codec.specs.declared.stored.Stored.{Stored}
use Rattle.row_codec.specs.Stored.{held_pairs}
use Rattle.row_codec.specs.declared.counted.Counted.{Counted}
use Rattle.row_codec.specs.Pairs.{Pair}
use Rattle.store_tables.specs.Entries.{place_of_key}
use Rattle.btree_nodes.specs.Damages.{AsksOnly}
use Rattle.btree_nodes.specs.Rows.{lookup}
use Rattle.btree_nodes.specs.Tree.{IsMap, map_rows}
use Rattle.btree_nodes.proofs.Harms.{asked-before}
use Rattle.row_codec.specs.Counted.{IsCounted, counted_value}
use Rattle.store_tables.specs.Broken.{IsNumberDamage, IsRowSought}
use Rattle.store_tables.specs.Holding.{numbers_form}
use Rattle.store_tables.proofs.LookupLemmas.{number-broken-later}
use Rattle.store_tables.specs.Words.{word_in}
use Rattle.store_tables.specs.declared.tables.Tables.{Tables}
use Rattle.table_updates.specs.Known.{AreKnown, AreAllKnown, IsWordDamage, IsWordsDamage}

-- of pairs that are known, those behind the first are
pub known-rest : (numbers : List (ℕ × Counted)) (pairs rest : List Pair) (pair : Pair) → pairs ≡ pair ∷ rest → AreKnown numbers pairs → AreKnown numbers rest
known-rest numbers pairs rest pair is known = (subst (AreKnown numbers) is known).1

-- the place at a key has known numbers where all places have
pub known-at : (numbers : List (ℕ × Counted)) (key : Name) (places : List (Name × Stored)) → AreAllKnown numbers places → IfSome (place_of_key key places) (λ stored. AreKnown numbers (held_pairs stored))
known-at numbers key [] known = tt
known-at numbers key (entry ∷ places) known = at (is_at (key_cmp key) entry.0) (known-at numbers key places known.1)
  where
    at : (b : Bool) → IfSome (place_of_key key places) (λ stored. AreKnown numbers (held_pairs stored))
        → IfSome (cond b (Some entry.1) (place_of_key key places)) (λ stored. AreKnown numbers (held_pairs stored))
    at true rest = known.0
    at false rest = rest

-- ---- why words are damaged

-- what words are damaged for on pages, they are for on the same pages
pub same-damage : (old new : PageMap) (before after : ℕ) (tables : Tables) (pairs : List Pair) (asked asks : List ℕ) (damage : Damage) → new ≡ old → after ≡ before
    → IsWordsDamage new after tables pairs asked asks damage → IsWordsDamage old before tables pairs asked asks damage
same-damage old new before after tables pairs asked asks damage pages count found =
    subst (λ (p : PageMap). IsWordsDamage p before tables pairs asked asks damage) pages (subst (λ (n : ℕ). IsWordsDamage new n tables pairs asked asks damage) count found)

-- and so is a look-up
pub same-number : (old new : PageMap) (before after root number : ℕ) (asked asks : List ℕ) (damage : Damage) → new ≡ old → after ≡ before
    → IsNumberDamage new after root number asked asks damage → IsNumberDamage old before root number asked asks damage
same-number old new before after root number asked asks damage pages count found =
    subst (λ (p : PageMap). IsNumberDamage p before root number asked asks damage) pages (subst (λ (n : ℕ). IsNumberDamage new n root number asked asks damage) count found)

-- a look-up that is damaged is so where others came before
pub number-later : (mine : ℕ → ℕ) (pages : PageMap) (count root number : ℕ) (before middle after : List ℕ) (damage : Damage) → AsksOnly mine before middle
    → IsNumberDamage pages count root number middle after damage → IsNumberDamage pages count root number before after damage
number-later mine pages count root number before middle after damage asks found =
    ⊎_elim (λ map. inl (map.0, asked-before mine before middle after damage.page asks map.1))
    (λ row. inr (row.0, row.1, number-broken-later mine pages root before middle after (number, row.1) damage.page asks row.2)) found

-- and so are words
pub words-later : (mine : ℕ → ℕ) (pages : PageMap) (count : ℕ) (tables : Tables) (pairs : List Pair) (before middle after : List ℕ) (damage : Damage) → AsksOnly mine before middle
    → IsWordsDamage pages count tables pairs middle after damage → IsWordsDamage pages count tables pairs before after damage
words-later mine pages count tables pairs before middle after damage asks found =
    (found.0, found.1, found.2, found.3, ⊎_elim (λ one. inl (number-later mine pages count tables.numbers found.1.0 before middle after damage asks one)) (λ none. inr none) found.4)

-- the first of the pairs is damaged
pub words-here : (pages : PageMap) (count : ℕ) (tables : Tables) (pairs rest : List Pair) (pair : Pair) (before after : List ℕ) (damage : Damage) → pairs ≡ pair ∷ rest
    → IsWordDamage pages count tables pair.0 before after damage → IsWordsDamage pages count tables pairs before after damage
words-here pages count tables pairs rest pair before after damage is found =
    subst (λ (ps : List Pair). IsWordsDamage pages count tables ps before after damage) (sym is) (0, pair, omega arith, refl, found)

-- or one behind it is
pub words-behind : (pages : PageMap) (count : ℕ) (tables : Tables) (pairs rest : List Pair) (pair : Pair) (before after : List ℕ) (damage : Damage) → pairs ≡ pair ∷ rest
    → IsWordsDamage pages count tables rest before after damage → IsWordsDamage pages count tables pairs before after damage
words-behind pages count tables pairs rest pair before after damage is found =
    subst (λ (ps : List Pair). IsWordsDamage pages count tables ps before after damage) (sym is) (suc found.0, found.1, omega (arith, found.2), found.3, found.4)

no-row : (row : Option Counted) → word_in row ≡ None → row ≡ None
no-row None is = refl
no-row (Some counted) is = absurd (cc)

-- a number that no word was found of has no row
pub without-row : (pages : PageMap) (tables : Tables) (number : ℕ) (found : Option (List ℕ))
    → (IsMap numbers_form pages tables.numbers → (row : Option Counted) × (lookup number (map_rows numbers_form pages tables.numbers) ≡ option_map counted_value row) × IfSome row IsCounted × (found ≡ word_in row))
    → found ≡ None → IsRowSought pages tables number None
without-row pages tables number found formed none = λ tree.
    let read = formed tree in
    read.1 ∙ ap (option_map counted_value) (no-row read.0 (sym read.3 ∙ none))
