-- One step down a tree: what a page's child has is what the page has.
use Rattle.std.proofs.Common.{◌≡◌, ℕ, zero, suc, ◌+◌, ◌<◌, ◌≤◌, inl, inr, List, [], ◌∷◌, ◌++◌, length, arith, refl, sym, ap, ◌∙◌, subst, Result, Ok, Err, ⊎_elim}
use Rattle.std.proofs.lemmas.Bool.{cases_lt}
use Rattle.std.specs.Result.{IsErrOf}
use Rattle.page_face.specs.FreeList.{PageMap}
use Rattle.page_face.specs.Causes.{IsUncounted, asked_after, unlinked}
use Rattle.page_face.specs.declared.fault.Damage.{Damage}
use Rattle.page_face.specs.declared.fault.PageFault.{PageFault}
use Rattle.page_face.specs.declared.fault.PageFault.TheVariants.{Disk, NoRoom, Stopped, Damaged, Memory}
use Rattle.page_face.specs.Cells.{IsPlace, key_at}
use Rattle.btree_nodes.specs.declared.form.Form.{Form}
use Rattle.btree_nodes.specs.Rows.{lookup}
use Rattle.page_face.specs.Nodes.{count_of}
use Rattle.btree_nodes.specs.Nodes.{entries_in, half_of}
use Rattle.btree_nodes.specs.Tree.{IsTree, IsPlaceFor, rows_at, uses}
use Rattle.btree_nodes.specs.Bounds.{low_at, high_at, child_of}
use Rattle.btree_nodes.specs.Damages.{IsDamaged, AreReadable, AskedSince, AsksOnly}
use Rattle.btree_nodes.proofs.Spots.{length-entries_in}
use Rattle.btree_nodes.proofs.Trees.{tree-child, child-uses, child-damage, place-lookup}
use Rattle.btree_nodes.proofs.Harms.{asked-here, asked-sooner, asks-here, asks-further}
use Rattle.btree_nodes.proofs.Supplies.{one_at-same}

-- the fault of a refusal
fault_in : {T : Type 0} → PageFault → Result T PageFault → PageFault
fault_in other (Err fault) = fault
fault_in other (Ok x) = other

pub same-fault : {T : Type 0} (first second : PageFault) → IsErrOf {T = T} {E = PageFault} (Err first) second → first ≡ second
unfolding fault_in
same-fault {T = T} first second e = ap (fault_in {T = T} first) e

-- a read that was refused as damaged has asked for its page
pub named-read : {T : Type 0} (before asked new : List ℕ) (page child : ℕ) (result : Result T PageFault) (damage : Damage) → asked ≡ before ++ page ∷ [] → new ≡ asked_after result child asked → result ≡ Err (Damaged damage) → damage.page ≡ child → AskedSince before new damage.page
named-read {T = T} before asked new page child result damage a n e same =
    asked-sooner before new page damage.page
    (asked-here (before ++ page ∷ []) new damage.page
    (n ∙ ap (λ (r : Result T PageFault). asked_after r child asked) e ∙ ap (λ (x : List ℕ). x ++ child ∷ []) a ∙ ap (λ (p : ℕ). (before ++ page ∷ []) ++ p ∷ []) (sym same)))

-- a page that is read of those that are told
pub told-read : (pages : PageMap) (count page : ℕ) → AreReadable pages count → (IsUncounted count page → ⊥) → 0 < length (pages page)
told-read pages count page told counted =
    told page
    (⊎_elim (λ (l : page < 1). absurd (counted (inl (omega arith)))) (λ (l : 1 ≤ page). l) (cases_lt page 1))
    (⊎_elim (λ (l : page < count). l) (λ (l : count ≤ page). absurd (counted (inr l))) (cases_lt page count))

-- a read that was refused as damaged has asked for its page
pub named-refused : {T : Type 0} (asked new : List ℕ) (child : ℕ) (result : Result T PageFault) (damage : Damage) → new ≡ asked_after result child asked → result ≡ Err (Damaged damage) → damage.page ≡ child → AskedSince asked new damage.page
named-refused {T = T} asked new child result damage n e same =
    asked-here asked new damage.page
    (n ∙ ap (λ (r : Result T PageFault). asked_after r child asked) e ∙ ap (λ (p : ℕ). asked ++ p ∷ []) (sym same))

-- a page uses itself
pub uses-self : (form : Form) (pages : PageMap) (level page : ℕ) → 0 < uses form pages level page page
uses-self form pages zero page = let s = one_at-same page in omega arith
uses-self form pages (suc level) page = let s = one_at-same page in omega arith

-- a read that was refused asks for its page at most
pub asks-read : {T : Type 0} (mine : ℕ → ℕ) (before asked : List ℕ) (page : ℕ) (result : Result T PageFault) → AsksOnly mine before asked → 0 < mine page → AsksOnly mine before (asked_after result page asked)
asks-read mine before asked page (Err Stopped) a u = a
asks-read mine before asked page (Err Memory) a u = a
asks-read mine before asked page (Err Disk) a u = asks-further mine before asked (asked ++ page ∷ []) a (asks-here mine asked (asked ++ page ∷ []) page u refl)
asks-read mine before asked page (Err NoRoom) a u = asks-further mine before asked (asked ++ page ∷ []) a (asks-here mine asked (asked ++ page ∷ []) page u refl)
asks-read mine before asked page (Err (Damaged d)) a u = asks-further mine before asked (asked ++ page ∷ []) a (asks-here mine asked (asked ++ page ∷ []) page u refl)
asks-read mine before asked page (Ok x) a u = asks-further mine before asked (asked ++ page ∷ []) a (asks-here mine asked (asked ++ page ∷ []) page u refl)

-- the damage that a page isn't counted
pub damage-link : (form : Form) (pages : PageMap) (count : ℕ) (damage : Damage) (least level page low high : ℕ) → damage ≡ unlinked page → IsUncounted count page → IsDamaged form pages count damage least level page low high
damage-link form pages count damage least zero page low high e u = (ap (λ (d : Damage). d.page) e, inl (ap (λ (d : Damage). d.rule) e, u))
damage-link form pages count damage least (suc level) page low high e u = inl (ap (λ (d : Damage). d.page) e, inl (ap (λ (d : Damage). d.rule) e, u))

-- the place above a key isn't the first one, whose key is all zeros
pub place-some : (form : Form) (page : List ℕ) (key at : ℕ) → IsPlace form.key (form.key + 4) (count_of page) page (key + 1) at → 0 < count_of page → key_at form.key (form.key + 4) page 0 ≡ 0 → 0 < at
place-some form page key zero place some first = let a = place.after some in absurd (omega arith)
place-some form page key (suc at) place some first = omega arith

module _ (form : Form) (pages : PageMap) (bytes : List ℕ) (level l page at : ℕ) (up : level ≡ suc l) (is : bytes ≡ pages page) (within : at < count_of bytes) where
  pub inside : at < length (entries_in form (pages page))
  inside = let n = length-entries_in form (pages page) in let c : count_of bytes ≡ count_of (pages page) = ap count_of is in omega arith

  -- its child's pages are its own
  pub uses-below : (child n : ℕ) → child ≡ child_of form bytes at → 0 < uses form pages l child n → 0 < uses form pages level page n
  uses-below child n e h =
      let e' : child ≡ child_of form (pages page) at = e ∙ ap (λ (b : List ℕ). child_of form b at) is in
      let a : uses form pages l child n ≡ uses form pages l (child_of form (pages page) at) n = ap (λ (c : ℕ). uses form pages l c n) e' in
      let b = child-uses form pages l page at inside n in
      let d : uses form pages level page n ≡ uses form pages (suc l) page n = ap (λ (k : ℕ). uses form pages k page n) up in
      omega arith

  -- the child heads a tree
  pub tree-below : (least least' low high lo hi child : ℕ) → least' ≡ half_of form l → lo ≡ low_at form bytes low at → hi ≡ high_at form bytes high at → child ≡ child_of form bytes at
      → IsTree form least pages level page low high → IsTree form least' pages l child lo hi
  tree-below least least' low high lo hi child e f g h tree =
      let t = tree-child form pages l page at inside least low high (subst (λ (k : ℕ). IsTree form least pages k page low high) up tree) in
      let t' : IsTree form (half_of form l) pages l (child_of form bytes at) (low_at form bytes low at) (high_at form bytes high at) =
      subst (λ (b : List ℕ). IsTree form (half_of form l) pages l (child_of form b at) (low_at form b low at) (high_at form b high at)) (sym is) t in
      rw (e, f, g, h) t'

  -- the child's damage is the page's
  pub damage-below : (count : ℕ) (damage : Damage) (least least' low high lo hi child : ℕ) → least' ≡ half_of form l → lo ≡ low_at form bytes low at → hi ≡ high_at form bytes high at → child ≡ child_of form bytes at
      → IsDamaged form pages count damage least' l child lo hi → IsDamaged form pages count damage least level page low high
  damage-below count damage least least' low high lo hi child e f g h d =
      let d' : IsDamaged form pages count damage (half_of form l) l (child_of form bytes at) (low_at form bytes low at) (high_at form bytes high at) =
      subst (λ (c : ℕ). IsDamaged form pages count damage (half_of form l) l c (low_at form bytes low at) (high_at form bytes high at)) h
      (subst (λ (c : ℕ). IsDamaged form pages count damage (half_of form l) l child (low_at form bytes low at) c) g
      (subst (λ (c : ℕ). IsDamaged form pages count damage (half_of form l) l child c hi) f
      (subst (λ (c : ℕ). IsDamaged form pages count damage c l child lo hi) e d))) in
      let d'' : IsDamaged form pages count damage (half_of form l) l (child_of form (pages page) at) (low_at form (pages page) low at) (high_at form (pages page) high at) =
      subst (λ (b : List ℕ). IsDamaged form pages count damage (half_of form l) l (child_of form b at) (low_at form b low at) (high_at form b high at)) is d' in
      subst (λ (k : ℕ). IsDamaged form pages count damage least k page low high) (sym up) (child-damage form pages l page at inside count damage least low high d'')

  -- the row at a key is the child's
  pub lookup-below : (least low high key child : ℕ) → child ≡ child_of form bytes at → IsPlaceFor (entries_in form bytes) key at → low ≤ key → key < high → IsTree form least pages level page low high
      → lookup key (rows_at form pages level page) ≡ lookup key (rows_at form pages l child)
  lookup-below least low high key child e place from to tree =
      let e' : child ≡ child_of form (pages page) at = e ∙ ap (λ (b : List ℕ). child_of form b at) is in
      ap (λ (k : ℕ). lookup key (rows_at form pages k page)) up
      ∙ place-lookup form least pages l page low high key at (subst (λ (k : ℕ). IsTree form least pages k page low high) up tree) from to (subst (λ (b : List ℕ). IsPlaceFor (entries_in form b) key at) is place)
      ∙ ap (λ (c : ℕ). lookup key (rows_at form pages l c)) (sym e')
