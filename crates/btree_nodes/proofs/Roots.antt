-- A map entered at its root.
use Rattle.std.proofs.Common.{◌≡◌, ℕ, zero, suc, ◌^◌, ◌<◌, ◌≤◌, List, ◌++◌, take, replicate, length, arith, refl, sym, ap, ◌∙◌, subst}
use Rattle.std.proofs.Math.Nat.{zero-mul}
use Rattle.page_face.specs.FreeList.{PageMap, with_page}
use Rattle.page_face.specs.Number.{number}
use Rattle.btree_nodes.specs.declared.form.Form.{Form}
use Rattle.btree_nodes.specs.Rows.{IsWithin}
use Rattle.btree_nodes.specs.Supply.{one_at}
use Rattle.btree_nodes.specs.Nodes.{rows_in, IsLeaf, least_of_root}
use Rattle.btree_nodes.specs.Tree.{IsTree, IsMap, rows_at, uses, map_rows, map_uses, level_of}
use Rattle.btree_nodes.proofs.Supplies.{one_at-same, with-same, with-other}
use Rattle.btree_nodes.specs.Below.{HeadsInstead, LiesBelow}
use Rattle.btree_nodes.specs.Leaves.{HoldsInstead, IsLeafOf}

-- what is said of a page by other names is said of it
pub enter : (Claim : PageMap → ℕ → ℕ → ℕ → ℕ → ℕ → Type 0) (pages pages' : PageMap) (count count' level level' least least' low low' high high' : ℕ) → pages' ≡ pages → count' ≡ count
    → level' ≡ level → least' ≡ least → low' ≡ low → high' ≡ high → Claim pages' count' level' least' low' high' → Claim pages count level least low high
enter Claim pages pages' count count' level level' least least' low low' high high' e f g h i j claim =
    subst (λ (x : ℕ). Claim pages count level least low x) j
    (subst (λ (x : ℕ). Claim pages count level least x high') i
    (subst (λ (x : ℕ). Claim pages count level x low' high') h
    (subst (λ (x : ℕ). Claim pages count x least' low' high') g
    (subst (λ (x : ℕ). Claim pages x level' least' low' high') f
    (subst (λ (x : PageMap). Claim x count' level' least' low' high') e claim)))))

-- a map that isn't empty is the tree below its root
pub map-tree : (form : Form) (pages : PageMap) (root : ℕ) → 0 < root → IsMap form pages root → IsTree form (least_of_root (level_of (pages root))) pages (level_of (pages root)) root 0 (256 ^ form.key)
map-tree form pages zero some map = absurd (omega arith)
map-tree form pages (suc n) some map = map

pub map-rows : (form : Form) (pages : PageMap) (root : ℕ) → 0 < root → map_rows form pages root ≡ rows_at form pages (level_of (pages root)) root
map-rows form pages zero some = absurd (omega arith)
map-rows form pages (suc n) some = refl

pub map-uses : (form : Form) (pages : PageMap) (root n : ℕ) → 0 < root → map_uses form pages root n ≡ uses form pages (level_of (pages root)) root n
map-uses form pages zero n some = absurd (omega arith)
map-uses form pages (suc m) n some = refl

-- the tree below a root is a map
pub tree-map : (form : Form) (pages : PageMap) (root : ℕ) → 0 < root → IsTree form (least_of_root (level_of (pages root))) pages (level_of (pages root)) root 0 (256 ^ form.key) → IsMap form pages root
tree-map form pages zero some tree = absurd (omega arith)
tree-map form pages (suc n) some tree = tree

-- a tree's page has the tree's level
pub tree-level : (form : Form) (least : ℕ) (pages : PageMap) (level page low high : ℕ) → IsTree form least pages level page low high → level_of (pages page) ≡ level
tree-level form least pages zero page low high tree = tree.0.level
tree-level form least pages (suc level) page low high tree = tree.0.node.level

module _ (form : Form) (pages : PageMap) (root least page low high : ℕ) (some : 0 < root)
    (lies : LiesBelow form pages (least_of_root (level_of (pages root))) (level_of (pages root)) root 0 (256 ^ form.key) least 0 page low high) where
  module _ (bytes : List ℕ) (leaf : IsLeaf form least bytes) (within : IsWithin low high (rows_in form bytes)) (once : (n : ℕ) → map_uses form pages root n ≤ 1) where
    after : PageMap
    after = with_page page bytes pages

    written : after page ≡ bytes
    unfolding after
    written = with-same pages bytes page

    -- another leaf in the place of this one
    instead : HeadsInstead form (least_of_root (level_of (pages root))) pages after (level_of (pages root)) root 0 (256 ^ form.key) (lies.front ++ (rows_in form (after page) ++ lies.back))
    unfolding after
    instead = lies.edit after
        (λ n. let m = map-uses form pages root n some in let o = once n in omega arith)
        (λ n other used. with-other pages bytes page n (λ same. let s = one_at-same page in let a : one_at page n ≡ one_at page page = ap (one_at page) same in absurd (omega arith)))
        (subst (IsLeaf form least) (sym written) leaf, subst (λ (b : List ℕ). IsWithin low high (rows_in form b)) (sym written) within)
        (λ n. refl)

    holds-instead : HoldsInstead form pages after root (lies.front ++ (rows_in form bytes ++ lies.back))
    holds-instead =
        let level : level_of (after root) ≡ level_of (pages root) = tree-level form (least_of_root (level_of (pages root))) after (level_of (pages root)) root 0 (256 ^ form.key) instead.tree in
        record {
          map = tree-map form after root some (subst (λ (k : ℕ). IsTree form (least_of_root k) after k root 0 (256 ^ form.key)) (sym level) instead.tree);
          has = map-rows form after root some ∙ ap (λ (k : ℕ). rows_at form after k root) level ∙ instead.has ∙ ap (λ (b : List ℕ). lies.front ++ (rows_in form b ++ lies.back)) written;
          uses = λ n. map-uses form after root n some ∙ ap (λ (k : ℕ). uses form after k root n) level ∙ instead.uses n ∙ sym (map-uses form pages root n some);
        }

  -- a leaf that lies below a map's root
  pub leaf-of : IsLeafOf form pages root least page low high
  unfolding after
  leaf-of = record {
    front = lies.front;
    back = lies.back;
    used = let m = map-uses form pages root page some in let f = lies.fewer page in let s = one_at-same page in omega arith;
    leaf = lies.tree.0;
    within = lies.tree.1;
    rows = map-rows form pages root some ∙ lies.rows;
    before = lies.before;
    behind = lies.behind;
    edit = λ bytes leaf within once. holds-instead bytes leaf within once;
  }

zeros-front : (n m : ℕ) → number (take n (replicate m 0)) ≡ 0
zeros-front zero m = refl
zeros-front (suc n) zero = refl
zeros-front (suc n) (suc m) = let i = zeros-front n m in omega (arith, zero-mul (256 ^ length (take n (replicate {A = ℕ} m 0))))

pub number-low : (n : ℕ) → number (take n (replicate 255 0)) ≡ 0
number-low n = zeros-front n 255
