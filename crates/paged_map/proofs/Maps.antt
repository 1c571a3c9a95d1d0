-- A map entered at its root.
use Rattle.std.proofs.Common.{◌≡◌, ℕ, zero, suc, ◌^◌, ◌<◌, ◌≤◌, List, [], ◌∷◌, take, replicate, arith, refl, sym, ap, ◌∙◌, subst, append-nil, ⊎_elim}
use Rattle.std.proofs.lemmas.List.{take-replicate}
use Rattle.std.specs.List.{flat_map}
use Rattle.page_face.specs.FreeList.{PageMap}
use Rattle.page_face.specs.declared.fault.Damage.{Damage}
use Rattle.page_face.specs.Number.{number}
use Rattle.btree_nodes.specs.declared.form.Form.{Form}
use Rattle.btree_nodes.specs.Rows.{Row}
use Rattle.btree_nodes.specs.Supply.{View, view, Moves}
use Rattle.btree_nodes.specs.Nodes.{Entry, least_of_root}
use Rattle.btree_nodes.specs.Store.{IsGrown}
use Rattle.btree_nodes.proofs.Supplies.{moves-as, spare-away, uncounted-past}
use Rattle.btree_nodes.specs.Tree.{IsTree, IsFan, IsMap, total, rows_at, uses, map_rows, map_uses, level_of}
use Rattle.btree_nodes.specs.Damages.{IsDamaged}
use Rattle.btree_nodes.proofs.Harms.{tree-undamaged}
use Rattle.btree_nodes.proofs.Numbers.{number-zeros}
use Rattle.paged_map.specs.Maps.{IsMapDamaged, AreCounted, IsKept, HasBecome}
use Rattle.btree_nodes.proofs.Roots.{map-rows, map-uses, tree-map, tree-level}

-- what is said of a page by other names is said of it
pub enter : (Claim : Form → PageMap → ℕ → ℕ → ℕ → ℕ → Type 0) (form form' : Form) (pages pages' : PageMap) (count count' level level' least least' low low' : ℕ) → form' ≡ form → pages' ≡ pages → count' ≡ count
    → level' ≡ level → least' ≡ least → low' ≡ low → Claim form' pages' count' level' least' low' → Claim form pages count level least low
enter Claim form form' pages pages' count count' level level' least least' low low' e f g h i j claim =
    subst (λ (x : ℕ). Claim form pages count level least x) j
    (subst (λ (x : ℕ). Claim form pages count level x low') i
    (subst (λ (x : ℕ). Claim form pages count x least' low') h
    (subst (λ (x : ℕ). Claim form pages x level' least' low') g
    (subst (λ (x : PageMap). Claim form x count' level' least' low') f
    (subst (λ (x : Form). Claim x pages' count' level' least' low') e claim)))))

pub map-damage : (form : Form) (pages : PageMap) (count root : ℕ) (damage : Damage) → 0 < root → IsDamaged form pages count damage (least_of_root (level_of (pages root))) (level_of (pages root)) root 0 (256 ^ form.key) → IsMapDamaged form pages count root damage
map-damage form pages count zero damage some d = absurd (omega arith)
map-damage form pages count (suc n) damage some d = d

-- an empty map has no row
pub map-none : (form : Form) (pages : PageMap) (root : ℕ) → root ≡ 0 → map_rows form pages root ≡ []
map-none form pages zero e = refl
map-none form pages (suc n) e = absurd (omega arith)

-- an empty map uses no page
pub unused : (form : Form) (pages : PageMap) (root n : ℕ) → root ≡ 0 → map_uses form pages root n ≡ 0
unused form pages zero n e = refl
unused form pages (suc m) n e = absurd (omega arith)

-- no page of a well-formed map is damaged
pub map-undamaged : (form : Form) (pages : PageMap) (count root : ℕ) (damage : Damage) → IsMap form pages root → AreCounted (map_uses form pages root) count → IsMapDamaged form pages count root damage → ⊥
map-undamaged form pages count zero damage map counted d = d
map-undamaged form pages count (suc n) damage map counted d =
    tree-undamaged form pages count damage (least_of_root (level_of (pages (suc n)))) (level_of (pages (suc n))) (suc n) 0 (256 ^ form.key) map counted d

-- the least key
pub number-low : (key : ℕ) → key ≤ 255 → number (take key (replicate 255 0)) ≡ 0
number-low key h = ap number (take-replicate key 255 0 h) ∙ number-zeros key

-- A tree that has grown into one tree, over a root's pages, is what the map has become.
pub becomes : (form : Form) (before : View) (pages : PageMap) (count first level root page middle : ℕ) (mine : ℕ → ℕ) (rows : List Row) → 0 < page → before.count ≤ count → IsKept form before root
    → ((n : ℕ) → mine n ≡ map_uses form before.pages root n)
    → IsGrown form (least_of_root level) before mine pages count first level page 0 (256 ^ form.key) rows 0 middle → HasBecome form before pages count first root page rows
becomes form before pages count first level root page middle mine rows some more kept same grew =
    let fan : IsFan (IsTree form (least_of_root level) pages level) 0 (256 ^ form.key) ((0, page) ∷ []) = subst (λ (es : List Entry). IsFan (IsTree form (least_of_root level) pages level) 0 (256 ^ form.key) es) grew.is grew.fan in
    let tree : IsTree form (least_of_root level) pages level page 0 (256 ^ form.key) = fan.2 in
    let lv : level_of (pages page) ≡ level = tree-level form (least_of_root level) pages level page 0 (256 ^ form.key) tree in
    let tree' : IsTree form (least_of_root (level_of (pages page))) pages (level_of (pages page)) page 0 (256 ^ form.key) =
    subst (λ (k : ℕ). IsTree form (least_of_root k) pages k page 0 (256 ^ form.key)) (sym lv) tree in
    let ours : (n : ℕ) → map_uses form pages page n ≡ total (λ (c : ℕ). uses form pages level c n) grew.entries = λ n.
    let a = map-uses form pages page n some in
    let b : uses form pages (level_of (pages page)) page n ≡ uses form pages level page n = ap (λ (k : ℕ). uses form pages k page n) lv in
    let d : total (λ (c : ℕ). uses form pages level c n) grew.entries ≡ total (λ (c : ℕ). uses form pages level c n) ((0, page) ∷ []) = ap (total (λ (c : ℕ). uses form pages level c n)) grew.is in
    omega arith in
    let moved : Moves before (view pages count first grew.free) (map_uses form before.pages root) (map_uses form pages page) = moves-as (λ n. sym (same n)) ours grew.moves in
    let zero_before = spare-away before kept.some kept.supplied in
    let at_zero = moved.kept 0 in
    let z = kept.away in
    record {
      free = grew.free;
      kept = record {
        map = tree-map form pages page some tree';
        supplied = moved.supplied;
        once = λ n. let k = moved.kept n in let o = kept.once n in omega arith;
        away = omega arith;
        some = let s = kept.some in omega arith;
      };
      has = map-rows form pages page some ∙ ap (λ (k : ℕ). rows_at form pages k page) lv
          ∙ sym (append-nil (rows_at form pages level page))
          ∙ ap (λ (es : List Entry). flat_map (λ (e : Entry). rows_at form pages level e.1) es) (sym grew.is) ∙ grew.gives;
      moves = moved;
    }

-- each page of a map that is kept is counted
pub kept-counted : (form : Form) (v : View) (root : ℕ) → IsKept form v root → AreCounted (map_uses form v.pages root) v.count
kept-counted form v root kept n used u =
    ⊎_elim
    (λ (z : n ≡ 0). let a = kept.away in let e : map_uses form v.pages root n ≡ map_uses form v.pages root 0 = ap (map_uses form v.pages root) z in absurd (omega arith))
    (λ (past : v.count ≤ n). let o = kept.once n in let c = uncounted-past v.count n past in absurd (omega arith)) u
