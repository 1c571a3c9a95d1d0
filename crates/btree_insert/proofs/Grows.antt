-- A put below an inner page, seen from the page.
use Rattle.std.proofs.Common.{◌≡◌, ℕ, zero, suc, ◌+◌, ◌<◌, ◌≤◌, inl, inr, Bool, List, [], ◌∷◌, ◌++◌, length, arith, refl, sym, ap, ◌∙◌, subst}
use Rattle.page_face.specs.FreeList.{PageMap}
use Rattle.page_face.specs.declared.fault.Rule.{Rule}
use Rattle.page_face.specs.declared.fault.Damage.{Damage}
use Rattle.btree_nodes.specs.declared.form.Form.{Form}
use Rattle.btree_nodes.specs.Supply.{view, IsSupplied, spare}
use Rattle.btree_nodes.specs.Rows.{lookup, put}
use Rattle.page_face.specs.Nodes.{count_of}
use Rattle.btree_nodes.specs.Nodes.{entries_in, half_of}
use Rattle.btree_nodes.specs.Tree.{IsTree, IsPlaceFor, rows_at, uses}
use Rattle.btree_nodes.specs.Bounds.{low_at, high_at, child_of}
use Rattle.btree_insert.specs.Steps.{StepsAt}
use Rattle.btree_insert.specs.Keeps.{KeepsAbove}
use Rattle.page_face.specs.Causes.{IsUncounted}
use Rattle.std.specs.Option.{is_some}
use Rattle.btree_nodes.specs.Damages.{IsDamaged, AreReadable, AsksOnly, BreaksLeaf, BreaksInner}
use Rattle.btree_nodes.specs.Store.{IsGrown}
use Rattle.btree_nodes.proofs.Spots.{length-entries_in}
use Rattle.btree_nodes.proofs.Trees.{tree-size, child-uses}
use Rattle.btree_nodes.proofs.Harms.{asks-here, asks-further, asks-more}
use Rattle.btree_nodes.proofs.Walks.{tree-below, damage-below, lookup-below, told-read, uses-self, uses-below}
use Rattle.btree_insert.proofs.Climbs.{not_split, page-same, Links, links}

-- a leaf that breaks a rule
pub damage-leaf : (form : Form) (pages : PageMap) (count : ℕ) (damage : Damage) (least level page low high : ℕ) (bytes : List ℕ) → level ≡ 0 → bytes ≡ pages page
    → (damage.page ≡ page) × BreaksLeaf damage.rule form least low high bytes → IsDamaged form pages count damage least level page low high
damage-leaf form pages count damage least zero page low high bytes z is b = (b.0, inr (subst (BreaksLeaf damage.rule form least low high) is b.1))
damage-leaf form pages count damage least (suc level) page low high bytes z is b = absurd (omega arith)

-- an inner page that breaks a rule
pub damage-inner : (form : Form) (pages : PageMap) (count : ℕ) (damage : Damage) (least level page low high : ℕ) (rule : Rule) (bytes : List ℕ) → (level ≡ 0 → ⊥) → bytes ≡ pages page
    → damage ≡ record { page = page; rule = rule } → BreaksInner rule form least level low high bytes → IsDamaged form pages count damage least level page low high
damage-inner form pages count damage least zero page low high rule bytes z is e b = absurd (z refl)
damage-inner form pages count damage least (suc level) page low high rule bytes z is e b =
    inl (
      ap (λ (d : Damage). d.page) e,
      inr (subst (λ (r : Rule). BreaksInner r form least (suc level) low high (pages page)) (sym (ap (λ (d : Damage). d.rule) e))
          (subst (BreaksInner rule form least (suc level) low high) is b)),
    )

module _ {form : Form} {mid : PageMap} {count count' first first' level at key child least' lo hi low high : ℕ} {below bytes : List ℕ} (least : ℕ) (old : PageMap) (page l : ℕ)
    (up : level ≡ suc l) (is : bytes ≡ old page) (s : StepsAt form bytes key low high at child lo hi) (from : low ≤ key) (to : key < high) (least_is : least' ≡ half_of form l)
    (pages_same : mid ≡ old) (count_same : count' ≡ count) (first_same : first' ≡ first) (gives : 0 < length (old child) → below ≡ old child) where
  -- the child heads a tree
  child-tree : IsTree form least old level page low high → IsTree form least' old l child lo hi
  child-tree tree = tree-below form old bytes level l page at up is s.within least least' low high lo hi child least_is s.from s.to s.is tree

  -- and so it does after the look
  pub mid-tree : IsTree form least old level page low high → IsTree form least' mid l child lo hi
  mid-tree tree = rw pages_same (child-tree tree)

  pub mid-bytes : IsTree form least old level page low high → below ≡ mid child
  mid-bytes tree = rw pages_same (gives (tree-size form least' old l child lo hi (child-tree tree)))

  pub mid-supplied : (free : List ℕ) → IsSupplied (view old count first free) → IsSupplied (view mid count' first' free)
  mid-supplied free s = rw (pages_same, count_same, first_same) s

  -- the page's uses are above the child's
  child-less : (n : ℕ) → uses form old l child n ≤ uses form old level page n
  child-less n =
      let e : child ≡ child_of form (old page) at = s.is ∙ ap (λ (b : List ℕ). child_of form b at) is in
      let w = s.within in
      let c : count_of bytes ≡ count_of (old page) = ap count_of is in
      let a : uses form old l child n ≡ uses form old l (child_of form (old page) at) n = ap (λ (k : ℕ). uses form old l k n) e in
      let b = child-uses form old l page at (let m = length-entries_in form (old page) in omega arith) n in
      let d : uses form old level page n ≡ uses form old (suc l) page n = ap (λ (k : ℕ). uses form old k page n) up in
      omega arith

  pub mid-once : (free : List ℕ) → ((n : ℕ) → uses form old level page n + spare free count n ≤ 1) → (n : ℕ) → uses form mid l child n + spare free count' n ≤ 1
  mid-once free once n = rw (pages_same, count_same) (let o = once n in let c = child-less n in omega arith)

  -- the row at the key is the child's
  pub mid-had : (had : Bool) → IsTree form least old level page low high → had ≡ is_some (lookup key (rows_at form mid l child)) → had ≡ is_some (lookup key (rows_at form old level page))
  mid-had had tree h =
      h ∙ ap (λ (p : PageMap). is_some (lookup key (rows_at form p l child))) pages_same
      ∙ ap is_some (sym (lookup-below form old bytes level l page at up is s.within least low high key child s.is s.place from to tree))

  -- damage below the child is damage below the page
  pub mid-damage : (damage : Damage) → IsDamaged form mid count' damage least' l child lo hi → IsDamaged form old count damage least level page low high
  mid-damage damage d =
      damage-below form old bytes level l page at up is s.within count damage least least' low high lo hi child least_is s.from s.to s.is
      (subst (λ (n : ℕ). IsDamaged form old n damage least' l child lo hi) count_same (subst (λ (p : PageMap). IsDamaged form p count' damage least' l child lo hi) pages_same d))

  -- what is told was lent
  pub mid-told : AreReadable old count → (IsUncounted count child → ⊥) → AreReadable mid count' × (below ≡ mid child)
  mid-told told counted = rw (pages_same, count_same) (told, gives (told-read old count child told counted))

  -- what was asked for below the child
  pub mid-own : (before asked last : List ℕ) → asked ≡ before ++ page ∷ [] → AsksOnly (uses form mid l child) asked last → AsksOnly (uses form old level page) before last
  mid-own before asked last a o =
      let mine : ℕ → ℕ = uses form old level page in
      asks-further mine before asked last (asks-here mine before asked page (uses-self form old level page) a)
      (asks-more (uses form mid l child) mine asked last (λ n h. uses-below form old bytes level l page at up is s.within child n s.is (subst (λ (p : PageMap). 0 < uses form p l child n) pages_same h)) o)

  -- inner pages above the child stay
  pub mid-kept : (new : PageMap) (count'' : ℕ) → KeepsAbove l mid count' new count'' → KeepsAbove l old count new count''
  mid-kept new count'' k =
      subst (λ (n : ℕ). KeepsAbove l old n new count'') count_same (subst (λ (p : PageMap). KeepsAbove l p count' new count'') pages_same k)

  module _ (value : List ℕ) (free : List ℕ) (tree : IsTree form least old level page low high) (once : (n : ℕ) → uses form old level page n + spare free count n ≤ 1) (new : PageMap) (last last' right middle : ℕ)
      (grew : IsGrown form least' (view mid count' first' free) (uses form mid l child) new last last' l child lo hi (put key value (rows_at form mid l child)) right middle) where
    pub tree' : IsTree form least old (suc l) page low high
    tree' = subst (λ (k : ℕ). IsTree form least old k page low high) up tree

    pub once' : (n : ℕ) → uses form old (suc l) page n + spare free count n ≤ 1
    once' = subst (λ (k : ℕ). (n : ℕ) → uses form old k page n + spare free count n ≤ 1) up once

    pub place' : IsPlaceFor (entries_in form (old page)) key at
    place' = subst (λ (b : List ℕ). IsPlaceFor (entries_in form b) key at) is s.place

    pub child_is' : child ≡ child_of form (old page) at
    child_is' = s.is ∙ ap (λ (b : List ℕ). child_of form b at) is

    -- what the child has become, from the pages before the look and by the bounds on the page
    pub grew' : IsGrown form (half_of form l) (view old count first free) (uses form old l child) new last last' l child (low_at form (old page) low at) (high_at form (old page) high at) (put key value (rows_at form old l child)) right middle
    grew' =
        subst (λ (x : ℕ). IsGrown form (half_of form l) (view old count first free) (uses form old l child) new last last' l child (low_at form (old page) low at) x (put key value (rows_at form old l child)) right middle) (s.to ∙ ap (λ (b : List ℕ). high_at form b high at) is)
        (subst (λ (x : ℕ). IsGrown form (half_of form l) (view old count first free) (uses form old l child) new last last' l child x hi (put key value (rows_at form old l child)) right middle) (s.from ∙ ap (λ (b : List ℕ). low_at form b low at) is)
        (subst (λ (x : ℕ). IsGrown form x (view old count first free) (uses form old l child) new last last' l child lo hi (put key value (rows_at form old l child)) right middle) least_is
        (subst (λ (x : ℕ). IsGrown form least' (view old count x free) (uses form old l child) new last last' l child lo hi (put key value (rows_at form old l child)) right middle) first_same
        (subst (λ (x : ℕ). IsGrown form least' (view old x first' free) (uses form old l child) new last last' l child lo hi (put key value (rows_at form old l child)) right middle) count_same
        (subst (λ (x : PageMap). IsGrown form least' (view x count' first' free) (uses form x l child) new last last' l child lo hi (put key value (rows_at form x l child)) right middle) pages_same grew)))))

    -- the child wasn't split
    pub whole : right ≡ 0 → IsGrown form least (view old count first free) (uses form old level page) new last last' level page low high (put key value (rows_at form old level page)) right middle
    whole z =
        let w = not_split form least old count first l page low high key at child value free tree' from to place' child_is' once' new last last' right middle grew' z in
        let v : IsGrown form least (view old count first free) (uses form old level page) new last last' level page low high (put key value (rows_at form old level page)) 0 middle =
        subst (λ (k : ℕ). IsGrown form least (view old count first free) (uses form old k page) new last last' k page low high (put key value (rows_at form old k page)) 0 middle) (sym up) w in
        subst (λ (r : ℕ). IsGrown form least (view old count first free) (uses form old level page) new last last' level page low high (put key value (rows_at form old level page)) r middle) (sym z) v

    -- the page itself has stayed
    pub stayed : new page ≡ old page
    stayed = page-same form least old count first l page low high key at child value free tree' from to place' child_is' once' new last last' right middle grew'

    -- it was, and is to be linked
    pub to-be-linked : 0 < right → Links form least old count first l page low high key at child value free tree' from to place' child_is' once' new last last' right middle grew'
    to-be-linked some = links form least old count first l page low high key at child value free tree' from to place' child_is' once' new last last' right middle grew' some
