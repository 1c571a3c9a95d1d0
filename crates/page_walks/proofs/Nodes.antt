-- A page in its place: what it breaks there, and what a leaf shows.
use Rattle.std.proofs.Common.{◌≡◌, ℕ, zero, suc, ◌<◌, List, arith, refl, subst, inl, inr}
use Rattle.page_face.specs.FreeList.{PageMap}
use Rattle.page_face.specs.declared.fault.Rule.{Rule}
use Rattle.page_face.specs.declared.fault.Damage.{Damage}
use Rattle.btree_nodes.specs.declared.form.Form.{Form}
use Rattle.btree_nodes.specs.Rows.{Row, IsWithin}
use Rattle.btree_nodes.specs.Nodes.{IsLeaf, rows_in}
use Rattle.btree_nodes.specs.Damages.{BreaksLeaf, BreaksInner}
use Rattle.page_walks.specs.Leaves.{IsBadBelow}
use Rattle.page_walks.specs.Walks.{HasWalked}

-- what is said of the bytes looked at is said of the page
module _ (form : Form) (pages : PageMap) (count least page low high : ℕ) (before : ℕ → ℕ) (bytes : List ℕ) (is : bytes ≡ pages page) where
  -- a leaf breaks a rule in its place
  pub leaf-damaged : (breaks : Rule → List ℕ → Type 0) (rule : Rule) → BreaksLeaf rule form least low high bytes → (d : Damage) → record { page = page; rule = rule } ≡ d
      → IsBadBelow breaks form pages count before least 0 page low high d
  leaf-damaged breaks rule b d e =
      subst (IsBadBelow breaks form pages count before least 0 page low high) e (inl (inr (refl, inr (subst (BreaksLeaf rule form least low high) is b))))

  -- its bytes break a rule of the sink
  pub leaf-bad : (breaks : Rule → List ℕ → Type 0) (rule : Rule) → breaks rule bytes → (d : Damage) → record { page = page; rule = rule } ≡ d → IsBadBelow breaks form pages count before least 0 page low high d
  leaf-bad breaks rule b d e = subst (IsBadBelow breaks form pages count before least 0 page low high) e (inr (refl, subst (breaks rule) is b))

  -- it is whole, and its rows were taken
  pub leaf-walked : (good : List ℕ → Type 0) (takes : List Row → Type 0) → IsLeaf form least bytes → IsWithin low high (rows_in form bytes) → good bytes → takes (rows_in form bytes)
      → HasWalked good takes form pages count least 0 page low high before before
  leaf-walked good takes leaf within fine taken = record {
    tree = subst (λ (x : List ℕ). IsLeaf form least x × IsWithin low high (rows_in form x)) is (leaf, within);
    known = λ n u. refl;
    met = λ n. omega arith;
    leaves = subst good is fine;
    taken = subst (λ (x : List ℕ). takes (rows_in form x)) is taken;
  }

  -- an inner page breaks a rule in its place
  pub inner-damaged : (breaks : Rule → List ℕ → Type 0) (level : ℕ) (rule : Rule) → 0 < level → BreaksInner rule form least level low high bytes → (d : Damage) → record { page = page; rule = rule } ≡ d
      → IsBadBelow breaks form pages count before least level page low high d
  inner-damaged breaks zero rule up b d e = absurd (omega arith)
  inner-damaged breaks (suc level) rule up b d e =
      subst (IsBadBelow breaks form pages count before least (suc level) page low high) e (inl (inr (inl (refl, inr (subst (BreaksInner rule form least (suc level) low high) is b)))))
