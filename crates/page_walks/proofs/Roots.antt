-- A map, entered at its root.
use Rattle.std.proofs.Common.{◌≡◌, ℕ, zero, suc, ◌+◌, ◌^◌, ◌<◌, ◌≤◌, List, [], arith, refl, sym, ◌∙◌, subst, inl, inr, ⊎_elim}
use Rattle.page_face.specs.FreeList.{PageMap}
use Rattle.page_face.specs.Causes.{IsUncounted}
use Rattle.page_face.specs.declared.fault.Rule.{Rule}
use Rattle.page_face.specs.declared.fault.Damage.{Damage}
use Rattle.btree_nodes.specs.declared.form.Form.{Form}
use Rattle.btree_nodes.specs.Rows.{Row}
use Rattle.btree_nodes.specs.Supply.{one_at}
use Rattle.btree_nodes.specs.Nodes.{entries_in, least_of_root}
use Rattle.btree_nodes.specs.Tree.{map_rows, map_uses, level_of}
use Rattle.btree_nodes.proofs.Roots.{map-rows, map-uses, tree-map}
use Rattle.paged_map.proofs.Maps.{map-damage, map-none, map-undamaged}
use Rattle.page_walks.specs.Met.{Meets}
use Rattle.page_walks.specs.Misuse.{IsMisused}
use Rattle.page_walks.proofs.Misuses.{misused-apart, misused-up, one-known}
use Rattle.page_walks.proofs.Meetings.{meets-both, meets-up}
use Rattle.page_walks.specs.Beneath.{beneath}
use Rattle.page_walks.specs.Leaves.{AreGood, IsBadLeaf, IsBadBelow}
use Rattle.page_walks.specs.Maps.{IsWholeMap, IsBrokenMap, AreGoodIn, IsBadLeafIn, IsGoodMap, IsBadMap}
use Rattle.page_walks.specs.Walks.{HasWalked}
use Rattle.page_walks.proofs.Children.{uses-beneath}
use Rattle.page_walks.proofs.Fans.{children-apart, children-none}

-- the pages of a map are its root and those beneath it
root-uses : (form : Form) (pages : PageMap) (root n : ℕ) → 0 < root → map_uses form pages root n ≡ one_at root n + beneath form pages (level_of (pages root)) root n
root-uses form pages root n some = map-uses form pages root n some ∙ uses-beneath form pages (level_of (pages root)) root n

good-root : (good : List ℕ → Type 0) (form : Form) (pages : PageMap) (root : ℕ) → 0 < root → AreGood good form pages (level_of (pages root)) root → AreGoodIn good form pages root
good-root good form pages zero some g = tt
good-root good form pages (suc n) some g = g

bad-root : (breaks : Rule → List ℕ → Type 0) (form : Form) (pages : PageMap) (root : ℕ) (damage : Damage) → 0 < root → IsBadLeaf breaks form pages damage (level_of (pages root)) root → IsBadLeafIn breaks form pages root damage
bad-root breaks form pages zero damage some b = absurd (omega arith)
bad-root breaks form pages (suc n) damage some b = b

-- an empty map is whole
pub empty-good : (good : List ℕ → Type 0) (form : Form) (pages : PageMap) (count : ℕ) (before : ℕ → ℕ) (root : ℕ) → root ≡ 0 → ((n : ℕ) → before n ≤ 1) → IsGoodMap good form pages count before root
empty-good good form pages count before root z once = subst (IsGoodMap good form pages count before) (sym z) (record {
  whole = record { map = tt; used = record { once = λ n. let o = once n in omega arith; known = λ n u. refl } };
  leaves = tt;
})

-- what was walked below a root that was entered is a whole map
pub walked-good : (good : List ℕ → Type 0) (takes : List Row → Type 0) (form : Form) (pages : PageMap) (count root : ℕ) (before now met : ℕ → ℕ) → 0 < root → (IsUncounted count root → ⊥)
    → ((n : ℕ) → now n ≡ before n + one_at root n) → ((n : ℕ) → met n ≤ 1)
    → HasWalked good takes form pages count (least_of_root (level_of (pages root))) (level_of (pages root)) root 0 (256 ^ form.key) now met → IsGoodMap good form pages count before root
walked-good good takes form pages count root before now met some known enters once w = record {
  whole = record {
    map = tree-map form pages root some w.tree;
    used = record {
      once = λ n. let u = root-uses form pages root n some in let e = enters n in let m = w.met n in let o = once n in omega arith;
      known = λ n un. let u = root-uses form pages root n some in let o = one-known count root n known un in let b = w.known n un in omega arith;
    };
  };
  leaves = good-root good form pages root some w.leaves;
}

-- its pages were met
pub walked-met : (good : List ℕ → Type 0) (takes : List Row → Type 0) (form : Form) (pages : PageMap) (count root : ℕ) (before now met : ℕ → ℕ) → 0 < root → ((n : ℕ) → now n ≡ before n + one_at root n)
    → HasWalked good takes form pages count (least_of_root (level_of (pages root))) (level_of (pages root)) root 0 (256 ^ form.key) now met → (n : ℕ) → met n ≡ before n + map_uses form pages root n
walked-met good takes form pages count root before now met some enters w n = let u = root-uses form pages root n some in let e = enters n in let m = w.met n in omega arith

-- and its rows were taken
pub walked-rows : (good : List ℕ → Type 0) (takes : List Row → Type 0) (form : Form) (pages : PageMap) (count root : ℕ) (now met : ℕ → ℕ) → 0 < root
    → HasWalked good takes form pages count (least_of_root (level_of (pages root))) (level_of (pages root)) root 0 (256 ^ form.key) now met → takes (map_rows form pages root)
walked-rows good takes form pages count root now met some w = subst takes (sym (map-rows form pages root some)) w.taken

-- an empty map has no row
pub empty-rows : (takes : List Row → Type 0) (form : Form) (pages : PageMap) (root : ℕ) → root ≡ 0 → takes [] → takes (map_rows form pages root)
empty-rows takes form pages root z t = subst takes (sym (map-none form pages root z)) t

-- the root itself is misused
pub root-misused : (breaks : Rule → List ℕ → Type 0) (form : Form) (pages : PageMap) (count : ℕ) (before : ℕ → ℕ) (root : ℕ) → 0 < root → (d : Damage) → IsMisused count before (one_at root) d → IsBadMap breaks form pages count before root d
root-misused breaks form pages count before root some d m =
    inl (inl (misused-up count before before (one_at root) (map_uses form pages root) d (λ n. let u = root-uses form pages root n some in omega arith) (λ n. let u = root-uses form pages root n some in omega arith) m))

-- the damage is below the root
pub root-below : (breaks : Rule → List ℕ → Type 0) (form : Form) (pages : PageMap) (count : ℕ) (before now : ℕ → ℕ) (root : ℕ) → 0 < root → ((n : ℕ) → now n ≡ before n + one_at root n) → (d : Damage)
    → IsBadBelow breaks form pages count now (least_of_root (level_of (pages root))) (level_of (pages root)) root 0 (256 ^ form.key) d → IsBadMap breaks form pages count before root d
root-below breaks form pages count before now root some enters d b =
    ⊎_elim
    (λ f. inl (⊎_elim
    (λ m. inl (misused-up count now before (beneath form pages (level_of (pages root)) root) (map_uses form pages root) d
    (λ n. let u = root-uses form pages root n some in let e = enters n in omega arith) (λ n. let u = root-uses form pages root n some in omega arith) m))
    (λ g. inr (map-damage form pages count root d some g)) f))
    (λ l. inr (bad-root breaks form pages root d some l)) b

-- the pages met are the map's
pub root-meets : (form : Form) (pages : PageMap) (root : ℕ) (asked asked' asked'' : List ℕ) (before now met : ℕ → ℕ) → 0 < root → Meets (one_at root) asked asked' before now
    → Meets (beneath form pages (level_of (pages root)) root) asked' asked'' now met → Meets (map_uses form pages root) asked asked'' before met
root-meets form pages root asked asked' asked'' before now met some a b =
    meets-both (one_at root) (beneath form pages (level_of (pages root)) root) (map_uses form pages root) asked asked' asked'' before now met a b (λ n. let u = root-uses form pages root n some in omega arith)

pub root-enters : (form : Form) (pages : PageMap) (root : ℕ) (asked asked' : List ℕ) (before now : ℕ → ℕ) → 0 < root → Meets (one_at root) asked asked' before now → Meets (map_uses form pages root) asked asked' before now
root-enters form pages root asked asked' before now some m = meets-up (one_at root) (map_uses form pages root) asked asked' before now m (λ n. let u = root-uses form pages root n some in omega arith)

-- a broken map isn't whole
pub broken-apart : (form : Form) (pages : PageMap) (count : ℕ) (before : ℕ → ℕ) (root : ℕ) (damage : Damage) → IsBrokenMap form pages count before root damage → IsWholeMap form pages count before root → ⊥
broken-apart form pages count before root damage b w =
    ⊎_elim (λ m. misused-apart count before (map_uses form pages root) damage m w.used)
    (λ d. map-undamaged form pages count root damage w.map (λ n some un. let z = w.used.known n un in absurd (omega arith)) d) b

-- a leaf that breaks a rule isn't good
leaf-apart : (breaks : Rule → List ℕ → Type 0) (good : List ℕ → Type 0) → ((rule : Rule) (page : List ℕ) → breaks rule page → good page → ⊥)
    → (form : Form) (pages : PageMap) (damage : Damage) (level page : ℕ) → IsBadLeaf breaks form pages damage level page → AreGood good form pages level page → ⊥
leaf-apart breaks good apart form pages damage zero page b g = apart damage.rule (pages page) b.1 g
leaf-apart breaks good apart form pages damage (suc level) page b g =
    children-apart (IsBadLeaf breaks form pages damage level) (AreGood good form pages level) (λ c. leaf-apart breaks good apart form pages damage level c) (entries_in form (pages page)) b g

leaf-apart-in : (breaks : Rule → List ℕ → Type 0) (good : List ℕ → Type 0) → ((rule : Rule) (page : List ℕ) → breaks rule page → good page → ⊥)
    → (form : Form) (pages : PageMap) (root : ℕ) (damage : Damage) → IsBadLeafIn breaks form pages root damage → AreGoodIn good form pages root → ⊥
leaf-apart-in breaks good apart form pages zero damage b g = b
leaf-apart-in breaks good apart form pages (suc n) damage b g = leaf-apart breaks good apart form pages damage (level_of (pages (suc n))) (suc n) b g

-- a bad map isn't good
pub bad-apart : (breaks : Rule → List ℕ → Type 0) (good : List ℕ → Type 0) → ((rule : Rule) (page : List ℕ) → breaks rule page → good page → ⊥)
    → (form : Form) (pages : PageMap) (count : ℕ) (before : ℕ → ℕ) (root : ℕ) (damage : Damage) → IsBadMap breaks form pages count before root damage → IsGoodMap good form pages count before root → ⊥
bad-apart breaks good apart form pages count before root damage b g =
    ⊎_elim (λ m. broken-apart form pages count before root damage m g.whole) (λ l. leaf-apart-in breaks good apart form pages root damage l g.leaves) b

-- no leaf breaks a rule if none is asked for
leaf-none : (form : Form) (pages : PageMap) (damage : Damage) (level page : ℕ) → IsBadLeaf (λ rule bytes. ⊥) form pages damage level page → ⊥
leaf-none form pages damage zero page b = b.1
leaf-none form pages damage (suc level) page b = children-none (IsBadLeaf (λ rule bytes. ⊥) form pages damage level) (λ c. leaf-none form pages damage level c) (entries_in form (pages page)) b

leaf-none-in : (form : Form) (pages : PageMap) (root : ℕ) (damage : Damage) → IsBadLeafIn (λ rule bytes. ⊥) form pages root damage → ⊥
leaf-none-in form pages zero damage b = b
leaf-none-in form pages (suc n) damage b = leaf-none form pages damage (level_of (pages (suc n))) (suc n) b

-- so a bad map is a broken one
pub bad-broken : (form : Form) (pages : PageMap) (count : ℕ) (before : ℕ → ℕ) (root : ℕ) (damage : Damage) → IsBadMap (λ rule bytes. ⊥) form pages count before root damage → IsBrokenMap form pages count before root damage
bad-broken form pages count before root damage b = ⊎_elim (λ m. m) (λ l. absurd (leaf-none-in form pages root damage l)) b
