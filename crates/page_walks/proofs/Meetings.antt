-- The pages met, and those asked for, over several steps.
use Rattle.std.proofs.Common.{◌≡◌, ℕ, ◌+◌, ◌≤◌, ◌++◌, List, [], ◌∷◌, arith, sym, ap, ◌∙◌, append_assoc, append-nil}
use Rattle.std.specs.BTreeSet.{BTreeSet}
use Rattle.std.proofs.lemmas.Bool.Decides.{nat_tests}
use Rattle.btree_nodes.specs.Supply.{one_at, times}
use Rattle.page_walks.specs.Met.{held, Meets, any_page}

-- a page is met once at most
pub held-le : (met : BTreeSet ℕ) (n : ℕ) → held met n ≤ 1
unfolding held
held-le met n = grind (arith, nat_tests)

pub times-append : (xs ys : List ℕ) (n : ℕ) → times (xs ++ ys) n ≡ times xs n + times ys n
times-append [] ys n = omega arith
times-append (x ∷ xs) ys n = let r = times-append xs ys n in omega arith

pub times-push : (xs : List ℕ) (page n : ℕ) → times (xs ++ page ∷ []) n ≡ times xs n + one_at page n
times-push xs page n = let r = times-append xs (page ∷ []) n in omega arith

-- no page was met yet
pub meets-none : (uses : ℕ → ℕ) (asked : List ℕ) (before : ℕ → ℕ) → Meets uses asked asked before before
meets-none uses asked before = record { own = λ n. omega arith; more = []; is = sym (append-nil asked); once = λ n. omega arith }

-- none is dropped
pub meets-kept : {uses : ℕ → ℕ} {asked asked' : List ℕ} {before now : ℕ → ℕ} → Meets uses asked asked' before now → (n : ℕ) → before n ≤ now n
meets-kept m n = let o = m.once n in omega arith

-- two steps, where the pages met are some of `uses`
pub meets-then : (theirs more uses : ℕ → ℕ) (a b c : List ℕ) (x y z : ℕ → ℕ) → Meets theirs a b x y → Meets more b c y z → ((n : ℕ) → z n ≤ x n + uses n) → Meets uses a c x z
meets-then theirs more uses a b c x y z m k own = record {
  own = own;
  more = m.more ++ k.more;
  is = k.is ∙ ap (λ (q : List ℕ). q ++ k.more) m.is ∙ append_assoc a m.more k.more;
  once = λ n. let e = m.once n in let f = k.once n in let t = times-append m.more k.more n in omega arith;
}

-- two steps with the pages of both
pub meets-both : (theirs more uses : ℕ → ℕ) (a b c : List ℕ) (x y z : ℕ → ℕ) → Meets theirs a b x y → Meets more b c y z → ((n : ℕ) → theirs n + more n ≤ uses n) → Meets uses a c x z
meets-both theirs more uses a b c x y z m k le = meets-then theirs more uses a b c x y z m k (λ n. let e = m.own n in let f = k.own n in let l = le n in omega arith)

-- the pages are some of more
pub meets-up : (theirs uses : ℕ → ℕ) (a b : List ℕ) (x y : ℕ → ℕ) → Meets theirs a b x y → ((n : ℕ) → theirs n ≤ uses n) → Meets uses a b x y
meets-up theirs uses a b x y m le = record { own = λ n. let e = m.own n in let l = le n in omega arith; more = m.more; is = m.is; once = m.once }

-- two steps of any pages
pub meets-any : (more : ℕ → ℕ) (a b c : List ℕ) (before met now : BTreeSet ℕ) → Meets any_page a b (held before) (held met) → Meets more b c (held met) (held now) → Meets any_page a c (held before) (held now)
meets-any more a b c before met now m k = meets-then any_page more any_page a b c (held before) (held met) (held now) m k (λ n. let l = held-le now n in omega arith)
