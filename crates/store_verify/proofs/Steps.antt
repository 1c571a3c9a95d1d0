-- A leaf's rows one by one.
use Rattle.std.proofs.Common.{◌≡◌, ⊎_elim, ℕ, IfSome, Option, Some, None, zero, suc, ◌+◌, ◌*◌, ◌<◌, ◌++◌, List, [], ◌∷◌, get_or, length, map, take, drop, arith, refl, sym, ap, ◌∙◌, subst}
use Rattle.std.specs.List.{All}
use Rattle.std.proofs.lemmas.List.{drop-drop, drop-take, take-take}
use Rattle.std.proofs.lemmas.List.Elements.{All-cons, All-nil}
use Rattle.page_face.specs.Nodes.{count_of}
use Rattle.page_face.specs.Number.{number}
use Rattle.btree_nodes.specs.Nodes.{rows_in}
use Rattle.btree_nodes.specs.Rows.{Row}
use Rattle.btree_nodes.specs.declared.form.Form.{Form}
use Rattle.btree_nodes.proofs.Spots.{get_or-rows_in, length-rows_in}
use Rattle.page_face.specs.FreeList.{PageMap}
use Rattle.btree_nodes.specs.Tree.{IsMap, map_rows, map_uses}
use Rattle.store_tables.specs.Coded.{IsEntryOf, row_by}
use Rattle.store_tables.specs.Holding.{HoldsMap}
use Rattle.page_face.specs.declared.fault.Damage.{Damage}
use Rattle.page_walks.specs.Misuse.{AreUsedOnce}
use Rattle.page_walks.specs.Maps.{IsBadMap}
use Rattle.page_walks.proofs.Roots.{broken-apart}
use Rattle.store_verify.specs.Breaks.{BreaksRow, HasBadRow}
use Rattle.store_verify.proofs.Apart.{row-apart}
use Rattle.store_verify.specs.Gains.{AreRowsOf, Gains}
use Rattle.store_verify.specs.Laws.{gains-more}

-- what is so of what there is
pub IfSome-map : {X : Type 0} (P Q : X → Type 0) (o : Option X) → ((x : X) → P x → Q x) → IfSome o P → IfSome o Q
IfSome-map P Q None step h = h
IfSome-map P Q (Some x) step h = step x h

-- an element that there is, whatever is taken for one that isn't
same-or : {X : Type 0} (xs : List X) (at : ℕ) (d e : X) → at < length xs → get_or xs at e ≡ get_or xs at d
same-or [] at d e inside = absurd (omega arith)
same-or (x ∷ xs) zero d e inside = refl
same-or (x ∷ xs) (suc at) d e inside = same-or xs at d e (omega arith)

-- a list with one element more
pub take-more : {X : Type 0} (xs : List X) (at : ℕ) (d : X) → at < length xs → take (at + 1) xs ≡ take at xs ++ get_or xs at d ∷ []
take-more {X} xs at d inside = subst (λ (k : ℕ). take k xs ≡ take at xs ++ get_or xs at d ∷ []) (let e : suc at ≡ at + 1 = omega arith in e) (go xs at inside)
  where
    go : (xs : List X) (at : ℕ) → at < length xs → take (suc at) xs ≡ take at xs ++ get_or xs at d ∷ []
    go [] at inside = absurd (omega arith)
    go (x ∷ xs) zero inside = refl
    go (x ∷ xs) (suc at) inside = ap (λ (ys : List X). x ∷ ys) (go xs at (omega arith))

pub take-all : {X : Type 0} (xs : List X) (n : ℕ) → n ≡ length xs → take n xs ≡ xs
take-all [] n e = ap (λ (k : ℕ). take k []) e
take-all {X} (x ∷ xs) n e = subst (λ (k : ℕ). take k (x ∷ xs) ≡ x ∷ xs) (sym e) (ap (λ (ys : List X). x ∷ ys) (take-all xs (length xs) refl))

module _ {K V : Type 0} (code : K → ℕ) (value : V → List ℕ) (IsKey : K → Type 0) (IsValue : V → Type 0) (form : Form) (page : List ℕ) where
  -- one row more
  pub gains-row : (at : ℕ) (old now new : List (K × V)) (e : K × V) → at < count_of page → Gains code value IsKey IsValue (take at (rows_in form page)) old now → IsEntryOf IsKey IsValue e
      → get_or (rows_in form page) at (0, []) ≡ row_by code value e → new ≡ now ++ e ∷ [] → Gains code value IsKey IsValue (take (at + 1) (rows_in form page)) old new
  gains-row at old now new e inside gains is row pushed =
      subst (λ (rows : List Row). Gains code value IsKey IsValue rows old new)
      (ap (λ (r : Row). take at (rows_in form page) ++ r ∷ []) (sym row) ∙ sym (take-more (rows_in form page) at (0, []) (let long = length-rows_in form page in omega arith)))
      (gains-more code value IsKey IsValue (take at (rows_in form page)) (row_by code value e ∷ []) old now new gains
      (record { more = e ∷ []; are = refl; each = All-cons (IsEntryOf IsKey IsValue) e [] is (All-nil (IsEntryOf IsKey IsValue)); is = pushed }))

  -- all rows
  pub gains-all : (count : ℕ) (old new : List (K × V)) → count ≡ count_of page → Gains code value IsKey IsValue (take count (rows_in form page)) old new → Gains code value IsKey IsValue (rows_in form page) old new
  gains-all count old new e gains =
      subst (λ (rows : List Row). Gains code value IsKey IsValue rows old new) (take-all (rows_in form page) count (e ∙ sym (length-rows_in form page))) gains

  pub gains-good : (rows : List Row) (old new : List (K × V)) → Gains code value IsKey IsValue rows old new → AreRowsOf code value IsKey IsValue rows
  gains-good rows old new gains = record { entries = gains.more; are = gains.are; each = gains.each }

  -- a row that is no entry's
  pub bad-row : (at : ℕ) → at < count_of page → ((e : K × V) → IsEntryOf IsKey IsValue e → get_or (rows_in form page) at (0, []) ≡ row_by code value e → ⊥) → HasBadRow form code value IsKey IsValue page
  bad-row at inside none =
      let row : Row = get_or (rows_in form page) at (0, []) in
      let within : at < length (rows_in form page) = (let long = length-rows_in form page in omega arith) in
      record { row = row; there = (at, within, same-or (rows_in form page) at (0, []) row within); bad = none }

module _ {K V : Type 0} (code : K → ℕ) (value : V → List ℕ) (IsKey : K → Type 0) (IsValue : V → Type 0) (form : Form) where
  -- a whole map whose rows were gained holds the entries
  pub gains-holds : (pages : PageMap) (root : ℕ) (old new : List (K × V)) → old ≡ [] → IsMap form pages root → Gains code value IsKey IsValue (map_rows form pages root) old new → HoldsMap form code value IsKey IsValue pages root new
  gains-holds pages root old new none tree gains =
      let all : new ≡ gains.more = gains.is ∙ ap (λ (es : List (K × V)). es ++ gains.more) none in
      record {
        tree = tree;
        rows = gains.are ∙ ap (map (row_by code value)) (sym all);
        each = subst (All (IsEntryOf IsKey IsValue)) (sym all) gains.each;
      }

  -- a table that holds entries, of pages that are used once, isn't bad
  pub bad-apart : (pages : PageMap) (count : ℕ) (before : ℕ → ℕ) (root : ℕ) (damage : Damage) → IsBadMap (BreaksRow form code value IsKey IsValue) form pages count before root damage
      → (entries : List (K × V)) → HoldsMap form code value IsKey IsValue pages root entries → AreUsedOnce count before (map_uses form pages root) → ⊥
  bad-apart pages count before root damage bad entries holds once = ⊎_elim
      (λ broken. broken-apart form pages count before root damage broken (record { map = holds.tree; used = once }))
      (λ leaf. row-apart form code value IsKey IsValue pages damage root entries holds leaf)
      bad

-- a row by its bytes in the page
pub row-bytes : (form : Form) (page : List ℕ) (at : ℕ) → at < count_of page
    → get_or (rows_in form page) at (0, []) ≡ (number (take form.key (drop (16 + (form.key + form.value) * at) page)), take form.value (drop (16 + (form.key + form.value) * at + form.key) page))
row-bytes form page at inside =
    let cell : List ℕ = drop (16 + (form.key + form.value) * at) page in
    get_or-rows_in form page at inside
    ∙ (λ i. (
      number (take-take form.key (form.key + form.value) cell (omega arith) i),
      (drop-take form.key form.value cell ∙ ap (take form.value) (drop-drop form.key (16 + (form.key + form.value) * at) page)) i,
    ))

-- a row by copies of its key and its value
pub row-copied : (form : Form) (page key value : List ℕ) (at : ℕ) → at < count_of page → key ≡ take form.key (drop (16 + (form.key + form.value) * at) page)
    → value ≡ take form.value (drop (16 + (form.key + form.value) * at + form.key) page) → get_or (rows_in form page) at (0, []) ≡ (number key, value)
row-copied form page key value at inside key_is value_is = row-bytes form page at inside ∙ (λ i. (number (sym key_is i), sym value_is i))
