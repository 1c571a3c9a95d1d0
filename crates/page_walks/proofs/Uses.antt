-- The uses of pages, summed over the pages.
use Rattle.std.proofs.Common.{◌≡◌, ℕ, zero, suc, ◌+◌, ◌<◌, ◌≤◌, List, [], ◌∷◌, arith, refl, ap, ⊎_elim}
use Rattle.std.proofs.lemmas.Bool.{cases_lt}
use Rattle.std.proofs.lemmas.Bool.Decides.{nat_tests}
use Rattle.page_face.specs.FreeList.{PageMap}
use Rattle.btree_nodes.specs.declared.form.Form.{Form}
use Rattle.btree_nodes.specs.Supply.{one_at}
use Rattle.btree_nodes.specs.Nodes.{Entry, entries_in}
use Rattle.btree_nodes.specs.Tree.{total, uses, map_uses, level_of}
use Rattle.btree_nodes.proofs.Supplies.{one_at-is, one_at-same}
use Rattle.page_walks.specs.Sizes.{sum_to, tree_size, map_size}

one_at-most : (page n : ℕ) → one_at page n ≤ 1
unfolding one_at
one_at-most page n = grind (arith, nat_tests)

-- a page isn't among those below it
sum-past : (page count : ℕ) → count ≤ page → sum_to count (one_at page) ≡ 0
sum-past page zero h = refl
sum-past page (suc count) h =
    let i = sum-past page count (omega arith) in
    ⊎_elim
    (λ (some : 0 < one_at page count). let e = one_at-is page count some in absurd (omega arith))
    (λ (none : one_at page count ≤ 0). omega arith)
    (cases_lt 0 (one_at page count))

-- a page is one page
sum-one : (page count : ℕ) → sum_to count (one_at page) ≤ 1
sum-one page zero = omega arith
sum-one page (suc count) =
    let i = sum-one page count in
    let m = one_at-most page count in
    ⊎_elim
    (λ (some : 0 < one_at page count). let e = one_at-is page count some in let z = sum-past page count (omega arith) in omega arith)
    (λ (none : one_at page count ≤ 0). omega arith)
    (cases_lt 0 (one_at page count))

sum-add : (f g : ℕ → ℕ) (count : ℕ) → sum_to count (λ n. f n + g n) ≡ sum_to count f + sum_to count g
sum-add f g zero = refl
sum-add f g (suc count) = let i = sum-add f g count in omega arith

sum-none : (count : ℕ) → sum_to count (λ n. 0) ≡ 0
sum-none zero = refl
sum-none (suc count) = let i = sum-none count in omega arith

-- the uses below entries, each child's bounded
sum-total : (U : ℕ → ℕ → ℕ) (S : ℕ → ℕ) (count : ℕ) → ((c : ℕ) → sum_to count (U c) ≤ S c) → (es : List Entry) → sum_to count (λ n. total (λ (c : ℕ). U c n) es) ≤ total S es
sum-total U S count each [] = let z = sum-none count in omega arith
sum-total U S count each (e ∷ es) =
    let i = sum-total U S count each es in
    let h = each e.1 in
    let a = sum-add (U e.1) (λ n. total (λ (c : ℕ). U c n) es) count in
    omega arith

-- those of a tree
tree-uses : (form : Form) (pages : PageMap) (count level page : ℕ) → sum_to count (uses form pages level page) ≤ tree_size form pages level page
tree-uses form pages count zero page = sum-one page count
tree-uses form pages count (suc level) page =
    let o = sum-one page count in
    let i = sum-total (uses form pages level) (tree_size form pages level) count (tree-uses form pages count level) (entries_in form (pages page)) in
    let a = sum-add (one_at page) (λ n. total (λ (c : ℕ). uses form pages level c n) (entries_in form (pages page))) count in
    omega arith

-- those of a map
pub map-uses : (form : Form) (pages : PageMap) (root count : ℕ) → sum_to count (map_uses form pages root) ≤ map_size form pages root
map-uses form pages zero count = let z = sum-none count in omega arith
map-uses form pages (suc n) count = tree-uses form pages count (level_of (pages (suc n))) (suc n)

-- a page that is below the count is one page
sum-own : (page count : ℕ) → page < count → sum_to count (one_at page) ≡ 1
sum-own page zero h = absurd (omega arith)
sum-own page (suc count) h =
    let m = one_at-most page count in
    ⊎_elim
    (λ (some : 0 < one_at page count). let e = one_at-is page count some in let z = sum-past page count (omega arith) in omega arith)
    (λ (none : one_at page count ≤ 0).
    let i = sum-own page count (⊎_elim
    (λ (less : page < count). less)
    (λ (more : count ≤ page). let o = one_at-same page in let same : page ≡ count = omega arith in let p : one_at page page ≡ one_at page count = ap (one_at page) same in absurd (omega arith))
    (cases_lt page count)) in
    omega arith)
    (cases_lt 0 (one_at page count))

-- no page from the count on is used
abbrev IsCounted : ℕ → (ℕ → ℕ) → Type 0
IsCounted count f = (n : ℕ) → count ≤ n → f n ≡ 0

own-counted : (page count : ℕ) → IsCounted count (one_at page) → sum_to count (one_at page) ≡ 1
own-counted page count counted = ⊎_elim
    (λ (less : page < count). sum-own page count less)
    (λ (more : count ≤ page). let o = one_at-same page in let z = counted page more in absurd (omega arith))
    (cases_lt page count)

-- the uses below entries are all of their children's
total-all : (U : ℕ → ℕ → ℕ) (S : ℕ → ℕ) (count : ℕ) → ((c : ℕ) → IsCounted count (U c) → sum_to count (U c) ≡ S c) → (es : List Entry) → IsCounted count (λ n. total (λ (c : ℕ). U c n) es)
    → sum_to count (λ n. total (λ (c : ℕ). U c n) es) ≡ total S es
total-all U S count each [] counted = sum-none count
total-all U S count each (e ∷ es) counted =
    let i = total-all U S count each es (λ n l. let z = counted n l in omega arith) in
    let h = each e.1 (λ n l. let z = counted n l in omega arith) in
    let a = sum-add (U e.1) (λ n. total (λ (c : ℕ). U c n) es) count in
    omega arith

tree-all : (form : Form) (pages : PageMap) (count level page : ℕ) → IsCounted count (uses form pages level page) → sum_to count (uses form pages level page) ≡ tree_size form pages level page
tree-all form pages count zero page counted = own-counted page count counted
tree-all form pages count (suc level) page counted =
    let o = own-counted page count (λ n l. let z = counted n l in omega arith) in
    let i = total-all (uses form pages level) (tree_size form pages level) count (tree-all form pages count level) (entries_in form (pages page)) (λ n l. let z = counted n l in omega arith) in
    let a = sum-add (one_at page) (λ n. total (λ (c : ℕ). uses form pages level c n) (entries_in form (pages page))) count in
    omega arith

-- the uses of a map whose pages are counted are all of its pages
pub map-all : (form : Form) (pages : PageMap) (root count : ℕ) → IsCounted count (map_uses form pages root) → sum_to count (map_uses form pages root) ≡ map_size form pages root
map-all form pages zero count counted = sum-none count
map-all form pages (suc n) count counted = tree-all form pages count (level_of (pages (suc n))) (suc n) counted
