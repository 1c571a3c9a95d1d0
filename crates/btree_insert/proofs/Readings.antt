-- What a step ensures, as a claim on values that a read or a rewriting carries over.
use Rattle.std.proofs.Common.{◌≡◌, subst, ℕ, suc, ◌+◌, ◌≤◌, List, Result, Ok, Err}
use Rattle.std.specs.Result.{IfOk}
use Rattle.page_face.specs.declared.fault.PageFault.{PageFault}
use Rattle.page_face.specs.FreeList.{PageMap}
use Rattle.btree_nodes.specs.declared.form.Form.{Form}
use Rattle.btree_nodes.specs.Supply.{view, IsSupplied, one_at, spare}
use Rattle.btree_nodes.specs.Nodes.{Entry, entries_in, half_of, IsInner}
use Rattle.btree_nodes.specs.Tree.{IsTree, IsFan, uses, total}
use Rattle.btree_nodes.specs.Store.{IsGrown, linked, below_rows}

-- what `link` ensures, by the bytes of the page
abbrev pub LinkClaim : Form → ℕ → PageMap → ℕ → ℕ → List ℕ → ℕ → ℕ → ℕ → ℕ → ℕ → ℕ → ℕ → PageMap → ℕ → ℕ → ℕ → Result ℕ PageFault → List ℕ → Type 0
LinkClaim form least new count first free level page low high at right middle last c'' f'' key result bytes =
    IsInner form least (suc level) bytes → IsFan (IsTree form (half_of form level) new level) low high (linked low (entries_in form bytes) at right middle)
    → IsSupplied (view new count first free)
    → ((n : ℕ) → one_at page n + total (λ c. uses form new level c n) (linked low (entries_in form bytes) at right middle) + spare free count n ≤ 1)
    → IfOk result (λ more. IsGrown form least (view new count first free) (λ n. one_at page n + total (λ c. uses form new level c n) (linked low (entries_in form bytes) at right middle))
    last c'' f'' (suc level) page low high (below_rows form new level (linked low (entries_in form bytes) at right middle)) more key)

-- what `link` ensures, from pages that were only read since
pub link-carried : (form : Form) (least : ℕ) (old mid : PageMap) (count count' first first' : ℕ) (free : List ℕ) (level page low high at at' right middle : ℕ) (last : PageMap) (c'' f'' key : ℕ) (result : Result ℕ PageFault) (bytes looked : List ℕ)
    → mid ≡ old → count' ≡ count → first' ≡ first → at' ≡ at → looked ≡ bytes
    → LinkClaim form least mid count' first' free level page low high at' right middle last c'' f'' key result looked
    → LinkClaim form least old count first free level page low high at right middle last c'' f'' key result bytes
link-carried form least old mid count count' first first' free level page low high at at' right middle last c'' f'' key result bytes looked e f h i j claim =
    subst (LinkClaim form least old count first free level page low high at right middle last c'' f'' key result) j
    (subst (λ (x : ℕ). LinkClaim form least old count first free level page low high x right middle last c'' f'' key result looked) i
    (subst (λ (x : ℕ). LinkClaim form least old count x free level page low high at' right middle last c'' f'' key result looked) h
    (subst (λ (x : ℕ). LinkClaim form least old x first' free level page low high at' right middle last c'' f'' key result looked) f
    (subst (λ (x : PageMap). LinkClaim form least x count' first' free level page low high at' right middle last c'' f'' key result looked) e claim))))

-- what holds anyway holds of an answer
pub ok-any : {X E : Type 0} (Q : Type 0) (result : Result X E) → Q → IfOk result (λ x. Q)
ok-any Q (Ok x) q = q
ok-any Q (Err e) q = tt

-- what follows from two facts of an answer
pub ok-both : {X E : Type 0} (P Q R : X → Type 0) (result : Result X E) → ((x : X) → P x → Q x → R x) → IfOk result P → IfOk result Q → IfOk result R
ok-both P Q R (Ok x) f h k = f x h k
ok-both P Q R (Err e) f h k = tt

-- what `store_inner` ensures, by the entries
abbrev pub StoreClaim : Form → ℕ → PageMap → ℕ → ℕ → List ℕ → ℕ → ℕ → ℕ → ℕ → PageMap → ℕ → ℕ → ℕ → Result ℕ PageFault → List Entry → Type 0
StoreClaim form least new count first free level page low high last c'' f'' key result es =
    IsFan (IsTree form (half_of form level) new level) low high es → IsSupplied (view new count first free)
    → ((n : ℕ) → one_at page n + total (λ c. uses form new level c n) es + spare free count n ≤ 1)
    → IfOk result (λ more. IsGrown form least (view new count first free) (λ n. one_at page n + total (λ c. uses form new level c n) es)
    last c'' f'' (suc level) page low high (below_rows form new level es) more key)
