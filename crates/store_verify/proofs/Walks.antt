-- What each walk over a store shows, or which rule is broken.
use Rattle.std.proofs.Math.Path.{fun_ext}
use Rattle.std.proofs.Common.{◌≡◌, ◌⊎◌, ℕ, ◌+◌, ◌≤◌, inl, inr, List, [], if◌then◌else◌, sym, ap, subst, arith}
use Rattle.std.specs.BTreeSet.{BTreeSet}
use Rattle.std.specs.BTreeMap.{is_at}
use Rattle.std.specs.List.{list_any}
use Rattle.std.specs.Ordering.{nat_cmp}
use Rattle.page_face.specs.Causes.{IsUncounted}
use Rattle.page_face.specs.FreeList.{PageMap}
use Rattle.page_face.specs.declared.fault.Damage.{Damage}
use Rattle.page_store.specs.declared.superblock.Superblock.{Superblock}
use Rattle.btree_nodes.specs.Tree.{map_rows, map_uses}
use Rattle.page_walks.specs.Met.{held}
use Rattle.page_walks.specs.Maps.{IsBadMap, IsBrokenMap, IsWholeMap}
use Rattle.rtree_nodes.specs.Pages.{node_of}
use Rattle.rtree_nodes.specs.Stock.{rows_form}
use Rattle.rtree_nodes.specs.Whole.{IsWell, tree_uses}
use Rattle.tree_check.specs.Names.{AreNamed, IsUnnamed}
use Rattle.tree_check.specs.Damages.{IsBrokenTree}
use Rattle.tree_check.specs.Nodes.{tree_pages}
use Rattle.store_tables.specs.Holding.{numbers_form, places_form, texts_form}
use Rattle.store_verify.specs.Breaks.{BreaksNumberRow, BreaksPlaceRow, BreaksTextRow, IsBroken}
use Rattle.store_verify.specs.Tree.{node_uses}
use Rattle.store_verify.specs.Whole.{store_uses}
use Rattle.store_verify.proofs.Damages.{map-named, tree-named, value-named}
use Rattle.store_verify.proofs.Named.{misused-named, stray-named}
use Rattle.store_verify.specs.Walked.{IsTreeWalked}

-- what holds of pages held before a call that only reads
pub stayed : (Q : PageMap → ℕ → ℕ → Type 0) (pages pages' : PageMap) (count count' first first' : ℕ) → pages' ≡ pages → count' ≡ count → first' ≡ first → Q pages' count' first' → Q pages count first
stayed Q pages pages' count count' first first' p c f x = subst (λ (n : ℕ). Q pages count n) f (subst (λ (n : ℕ). Q pages n first') c (subst (λ (q : PageMap). Q q count' first') p x))

-- and still holds after it
pub stays : (Q : PageMap → ℕ → ℕ → Type 0) (pages pages' : PageMap) (count count' first first' : ℕ) → pages' ≡ pages → count' ≡ count → first' ≡ first → Q pages count first → Q pages' count' first'
stays Q pages pages' count count' first first' p c f x = stayed Q pages' pages count' count first' first (sym p) (sym c) (sym f) x

-- nothing was met yet
pub held-none : (met : BTreeSet ℕ) → met.keys ≡ [] → (n : ℕ) → held met n ≡ 0
unfolding held
held-none met none n = ap (λ (ks : List ℕ). if list_any (is_at (nat_cmp n)) ks then 1 else 0) none

-- the tree and the map of its rows, walked with what was met before
pub tree-walked : (block : Superblock) (pages : PageMap) (list : List ℕ) (before met seen nodes : ℕ → ℕ) → ((n : ℕ) → before n ≡ 0) → IsWell node_of pages block.head.tree
    → ((n : ℕ) → IsUncounted block.counted n → tree_uses node_of pages block.head.tree n ≡ 0) → ((n : ℕ) → met n ≡ before n + tree_uses node_of pages block.head.tree n)
    → list ≡ tree_pages pages block.head.tree → ((n : ℕ) → nodes n ≡ met n)
    → IsWholeMap rows_form pages block.counted met block.head.rows × AreNamed (map_rows rows_form pages block.head.rows) nodes
    → ((n : ℕ) → seen n ≡ met n + map_uses rows_form pages block.head.rows n) → IsTreeWalked block pages list seen
tree-walked block pages list before met seen nodes none well counted met_is listed same good gains = record {
  tree = well;
  listed = listed;
  map = good.0.map;
  named = subst (λ (f : ℕ → ℕ). AreNamed (map_rows rows_form pages block.head.rows) f) (fun_ext (λ n. let a = same n in let b = met_is n in let z = none n in omega arith)) good.1;
  met_are = λ n. (let a = gains n in let b = met_is n in let z = none n in omega arith);
  known = λ n u. (let a = counted n u in let b = good.0.used.known n u in omega arith);
}

module _ (block : Superblock) (pages : PageMap) (damage : Damage) where
  -- the tree
  pub tree-broken : (before : ℕ → ℕ) → ((n : ℕ) → before n ≡ 0) → IsBrokenTree pages block.counted before block.head.tree damage → IsBroken block pages damage
  tree-broken before none (inl misused) = misused-named block pages before (tree_uses node_of pages block.head.tree) damage (λ n. let z = none n in omega arith) misused
  tree-broken before none (inr damaged) = tree-named block pages damage damaged

  -- the map of its rows
  pub rows-broken : (before nodes : ℕ → ℕ) → ((n : ℕ) → before n ≡ node_uses block.head pages n) → ((n : ℕ) → nodes n ≡ node_uses block.head pages n)
      → IsBrokenMap rows_form pages block.counted before block.head.rows damage
      ⊎ (IsWholeMap rows_form pages block.counted before block.head.rows × IsUnnamed (map_rows rows_form pages block.head.rows) nodes damage) → IsBroken block pages damage
  rows-broken before nodes met all (inl (inl misused)) = misused-named block pages before (map_uses rows_form pages block.head.rows) damage (λ n. let z = met n in omega arith) misused
  rows-broken before nodes met all (inl (inr damaged)) = map-named block pages rows_form block.head.rows (λ d m. inr (inr (inr m))) (λ n. omega arith) damage damaged
  rows-broken before nodes met all (inr stray) = stray-named block pages nodes damage (λ n z. let same = all n in omega arith) stray.1

  module _ (before : ℕ → ℕ) where
    -- the place table, walked after the tree and its rows
    pub places-broken : ((n : ℕ) → before n + map_uses places_form pages block.head.places n ≤ store_uses block.head pages n)
        → IsBadMap BreaksPlaceRow places_form pages block.counted before block.head.places damage → IsBroken block pages damage
    places-broken uses (inl (inl misused)) = misused-named block pages before (map_uses places_form pages block.head.places) damage uses misused
    places-broken uses (inl (inr damaged)) = map-named block pages places_form block.head.places (λ d m. inl m) (λ n. omega arith) damage damaged
    places-broken uses (inr leaf) = value-named block pages damage (inl leaf)

    pub texts-broken : ((n : ℕ) → before n + map_uses texts_form pages block.head.texts n ≤ store_uses block.head pages n)
        → IsBadMap BreaksTextRow texts_form pages block.counted before block.head.texts damage → IsBroken block pages damage
    texts-broken uses (inl (inl misused)) = misused-named block pages before (map_uses texts_form pages block.head.texts) damage uses misused
    texts-broken uses (inl (inr damaged)) = map-named block pages texts_form block.head.texts (λ d m. inr (inl m)) (λ n. omega arith) damage damaged
    texts-broken uses (inr leaf) = value-named block pages damage (inr (inl leaf))

    pub numbers-broken : ((n : ℕ) → before n + map_uses numbers_form pages block.head.numbers n ≤ store_uses block.head pages n)
        → IsBadMap BreaksNumberRow numbers_form pages block.counted before block.head.numbers damage → IsBroken block pages damage
    numbers-broken uses (inl (inl misused)) = misused-named block pages before (map_uses numbers_form pages block.head.numbers) damage uses misused
    numbers-broken uses (inl (inr damaged)) = map-named block pages numbers_form block.head.numbers (λ d m. inr (inr (inl m))) (λ n. omega arith) damage damaged
    numbers-broken uses (inr leaf) = value-named block pages damage (inr (inr leaf))
