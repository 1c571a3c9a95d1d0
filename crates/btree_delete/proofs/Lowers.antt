-- An inner root with one entry, and its child.
use Rattle.std.proofs.Common.{◌≡◌, ℕ, suc, ◌+◌, ◌<◌, ◌≤◌, List, [], ◌∷◌, length, get_or, arith, refl, sym, ap, ◌∙◌, subst}
use Rattle.page_face.specs.FreeList.{PageMap, IsFreePage, next_free}
use Rattle.btree_nodes.specs.declared.form.Form.{Form}
use Rattle.btree_nodes.specs.Supply.{view, IsSupplied, spare, Moves, one_at}
use Rattle.page_face.specs.Nodes.{count_of}
use Rattle.btree_nodes.specs.Nodes.{Entry, entries_in, half_of}
use Rattle.btree_nodes.specs.Tree.{IsTree, IsFan, rows_at, uses, total, with_low}
use Rattle.btree_nodes.specs.Bounds.{child_of}
use Rattle.btree_nodes.specs.Store.{below_rows}
use Rattle.btree_nodes.proofs.Fans.{no_entry}
use Rattle.btree_nodes.proofs.Frames.{SameFan, fan-frame, tree-frame}
use Rattle.btree_nodes.proofs.Spots.{length-entries_in}
use Rattle.btree_nodes.proofs.Supplies.{moves-as, moves-beside, one_at-same}
use Rattle.btree_delete.specs.Mended.{Becomes}
use Rattle.btree_nodes.proofs.Gives.{moves-give}

single : (es : List Entry) → length es ≡ 1 → es ≡ get_or es 0 no_entry ∷ []
single [] h = absurd (omega arith)
single (e ∷ []) h = refl
single (e ∷ (f ∷ es)) h = absurd (omega arith)

-- the child heads the tree once the page is given back
pub lowered : (form : Form) (old new : PageMap) (count first count' first' least below page low high : ℕ) (free bytes : List ℕ) → bytes ≡ old page → count_of bytes ≡ 1
    → IsTree form least old (suc below) page low high → IsSupplied (view old count first free) → ((n : ℕ) → uses form old (suc below) page n + spare free count n ≤ 1)
    → 0 < page → page < count → IsFreePage (new page) → next_free (new page) ≡ first → ((n : ℕ) → (n ≡ page → ⊥) → new n ≡ old n) → count' ≡ count → first' ≡ page
    → Becomes form (half_of form below) (view old count first free) (uses form old (suc below) page) new count' first' below low high (rows_at form old (suc below) page) ((low, child_of form bytes 0) ∷ [])
lowered form old new count first count' first' least below page low high free bytes is one tree supplied once some counted free_form next others e f =
    let root : ℕ = child_of form bytes 0 in
    let es : List Entry = entries_in form (old page) in
    let single_entry : entries_in form bytes ≡ get_or (entries_in form bytes) 0 no_entry ∷ [] = single (entries_in form bytes) (length-entries_in form bytes ∙ one) in
    let are : with_low low es ≡ (low, root) ∷ [] = ap (λ (b : List ℕ). with_low low (entries_in form b)) (sym is) ∙ ap (with_low low) single_entry in
    let fan : IsFan (IsTree form (half_of form below) old below) low high ((low, root) ∷ []) = subst (λ (x : List Entry). IsFan (IsTree form (half_of form below) old below) low high x) are tree.1 in
    let es-are : es ≡ get_or (entries_in form bytes) 0 no_entry ∷ [] = ap (entries_in form) (sym is) ∙ single_entry in
    let used : (n : ℕ) → uses form old (suc below) page n ≡ one_at page n + (uses form old below root n + 0) = λ n. (let t : total (λ c. uses form old below c n) es ≡ uses form old below root n + 0 = ap (total (λ c. uses form old below c n)) es-are in omega arith) in
    let s = one_at-same page in
    let m = moves-give old new count first page free supplied (let o = once page in let u = used page in omega arith) some counted free_form next others in
    let kept : SameFan (IsTree form (half_of form below) old below) (IsTree form (half_of form below) new below) (rows_at form old below) (rows_at form new below) (uses form old below) (uses form new below) low high ((low, root) ∷ []) =
    fan-frame (IsTree form (half_of form below) old below) (IsTree form (half_of form below) new below) (rows_at form old below) (rows_at form new below) (uses form old below) (uses form new below) (λ n. new n ≡ old n)
    (λ c a b t k. tree-frame form (half_of form below) old new below c a b t k) low high ((low, root) ∷ []) fan
    (λ n k. others n (λ same. let o = once n in let u = used n in let a : one_at page n ≡ one_at page page = ap (one_at page) same in omega arith)) in
    let moved : Moves (view old count first free) (view new count' first' (page ∷ free)) (uses form old (suc below) page) (λ n. total (λ c. uses form new below c n) ((low, root) ∷ [])) =
    rw (e, f) (moves-as (λ n. let u = used n in omega arith) (λ n. let k = kept.uses n in omega arith) (moves-beside (λ n. uses form old below root n + 0) m)) in
    record {
      free = page ∷ free;
      moves = moved;
      fan = kept.fan;
      gives = kept.rows ∙ ap (below_rows form old below) (sym es-are);
    }
