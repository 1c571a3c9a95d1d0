-- The words of rows at a slot.
use Rattle.std.proofs.Common.{◌≡◌, ℕ, ◌+◌, ◌≤◌, ◌==◌, max, List, [], ◌∷◌, ◌++◌, append-nil, Bool, true, false, if◌then◌else◌, slice_index, arith, refl, sym, ap, ◌∙◌, subst, ⊎_elim}
use Rattle.std.proofs.lemmas.Bool.{cases_eq, ne_eqb, eq-eqb}
use Rattle.page_face.specs.FreeList.{PageMap}
use Rattle.node_rows.specs.Impacts.{impact_at, impact_in}
use Rattle.node_rows.specs.Rows.{bytes_in}
use Rattle.node_rows.specs.Words.{AreWords}
use Rattle.node_rows.proofs.Impacts.{impact-one}
use Rattle.node_rows.proofs.Pairs.{impact-none}
use Rattle.tree_check.specs.Columns.{DoAscend, SayBytes, said_by, words_in}

-- a row whose byte is 0 has no word
pub words-without : (at : ℕ) (row : ℕ × List ℕ) (rows : List (ℕ × List ℕ)) → slice_index row.1 at ≡ 0 → words_in at (row ∷ rows) ≡ words_in at rows
words-without at row rows e = ap (λ (b : Bool). if b then words_in at rows else (row.0, slice_index row.1 at) ∷ words_in at rows) (eq-eqb (slice_index row.1 at) 0 e)

-- any other row has one
pub words-with : (at : ℕ) (row : ℕ × List ℕ) (rows : List (ℕ × List ℕ)) → (slice_index row.1 at ≡ 0 → ⊥) → words_in at (row ∷ rows) ≡ (row.0, slice_index row.1 at) ∷ words_in at rows
words-with at row rows k = ap (λ (b : Bool). if b then words_in at rows else (row.0, slice_index row.1 at) ∷ words_in at rows) (ne_eqb (slice_index row.1 at) 0 k)

pub words-join : (at : ℕ) (xs ys : List (ℕ × List ℕ)) → words_in at (xs ++ ys) ≡ words_in at xs ++ words_in at ys
words-join at [] ys = refl
words-join at (x ∷ xs) ys =
    let p : ℕ × ℕ = (x.0, slice_index x.1 at) in
    let h = words-join at xs ys in
    elim (slice_index x.1 at == 0) as (λ (b : Bool). (if b then words_in at (xs ++ ys) else p ∷ words_in at (xs ++ ys)) ≡ (if b then words_in at xs else p ∷ words_in at xs) ++ words_in at ys) [
      | true ↦ h
      | false ↦ ap (λ (qs : List (ℕ × ℕ)). p ∷ qs) h
    ]

-- one row more, whose byte is 0
pub words-more_without : (at : ℕ) (rows : List (ℕ × List ℕ)) (row : ℕ × List ℕ) → slice_index row.1 at ≡ 0 → words_in at (rows ++ row ∷ []) ≡ words_in at rows
words-more_without at rows row e = words-join at rows (row ∷ []) ∙ ap (λ (qs : List (ℕ × ℕ)). words_in at rows ++ qs) (words-without at row [] e) ∙ append-nil (words_in at rows)

-- one row more
pub words-more_with : (at : ℕ) (rows : List (ℕ × List ℕ)) (row : ℕ × List ℕ) → (slice_index row.1 at ≡ 0 → ⊥) → words_in at (rows ++ row ∷ []) ≡ words_in at rows ++ (row.0, slice_index row.1 at) ∷ []
words-more_with at rows row k = words-join at rows (row ∷ []) ∙ ap (λ (qs : List (ℕ × ℕ)). words_in at rows ++ qs) (words-with at row [] k)

-- the impacts of one row more
pub said-more : (rows : List (ℕ × List ℕ)) (row : ℕ × List ℕ) (n w i : ℕ) → said_by (rows ++ row ∷ []) n w i ≡ max (said_by rows n w i) (impact_at (row.0, slice_index row.1 i) w)
said-more rows row n w i = ⊎_elim
    (λ (e : slice_index row.1 i ≡ 0). ap (λ (ps : List (ℕ × ℕ)). impact_in ps w) (words-more_without i rows row e) ∙ impact-none row.0 (slice_index row.1 i) w (impact_in (words_in i rows) w) e)
    (λ (k : slice_index row.1 i ≡ 0 → ⊥). ap (λ (ps : List (ℕ × ℕ)). impact_in ps w) (words-more_with i rows row k) ∙ impact-one (words_in i rows) (row.0, slice_index row.1 i) w)
    (cases_eq (slice_index row.1 i) 0)

words-lower : (low low' high : ℕ) (ps : List (ℕ × ℕ)) → low' ≤ low → AreWords low high ps → AreWords low' high ps
words-lower low low' high [] l a = omega arith
words-lower low low' high (p ∷ ps) l a = let b = a.0 in (omega arith, a.1, a.2)

-- the words of rows that ascend do so, too
pub words-ordered : (at low high : ℕ) (rows : List (ℕ × List ℕ)) → DoAscend low high rows → AreWords low high (words_in at rows)
words-ordered at low high [] a = a
words-ordered at low high (row ∷ rows) a =
    let b = a.0 in
    let h = words-ordered at (row.0 + 1) high rows a.1 in
    ⊎_elim
    (λ (e : slice_index row.1 at ≡ 0). subst (AreWords low high) (sym (words-without at row rows e)) (words-lower (row.0 + 1) low high (words_in at rows) (omega arith) h))
    (λ (k : slice_index row.1 at ≡ 0 → ⊥). subst (AreWords low high) (sym (words-with at row rows k)) (a.0, omega arith, h))
    (cases_eq (slice_index row.1 at) 0)

-- one row more, not before the bound
pub ascend-push : (low at : ℕ) (row : ℕ × List ℕ) (rows : List (ℕ × List ℕ)) → DoAscend low at rows → at ≤ row.0 → DoAscend low (row.0 + 1) (rows ++ row ∷ [])
ascend-push low at row [] a l = (omega arith, omega arith)
ascend-push low at row (r ∷ rows) a l = (a.0, ascend-push (r.0 + 1) at row rows a.1 l)

-- a later bound
pub ascend-wider : (low at high : ℕ) (rows : List (ℕ × List ℕ)) → DoAscend low at rows → at ≤ high → DoAscend low high rows
ascend-wider low at high [] a l = omega arith
ascend-wider low at high (r ∷ rows) a l = (a.0, ascend-wider (r.0 + 1) at high rows a.1 l)

-- rows that say the bytes of other pages' rows, over pages that are the same
pub says-on : (pages pages' : PageMap) (root node : ℕ) (rows rows' : List (ℕ × List ℕ)) → pages' ≡ pages → rows' ≡ rows → SayBytes (bytes_in pages root) node rows → SayBytes (bytes_in pages' root) node rows'
says-on pages pages' root node rows rows' same list s =
    subst (λ (p : PageMap). SayBytes (bytes_in p root) node rows') (sym same) (subst (SayBytes (bytes_in pages root) node) (sym list) s)
