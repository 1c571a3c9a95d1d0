-- What stays of pages that tell, whatever they hold.
use Rattle.std.proofs.Common.{◌≡◌, ◌≢◌, ℕ, suc, ◌+◌, ◌<◌, ◌≤◌, List, length, slice_index, arith, sym, ap, ◌∙◌, subst, ⊎_elim, inr}
use Rattle.std.proofs.lemmas.Bool.{cases_eq, cases_lt}
use Rattle.page_face.specs.FreeList.{PageMap, with_page, IsTakeable}
use Rattle.page_face.specs.Causes.{IsUncounted}
use Rattle.btree_nodes.specs.declared.form.Form.{Form}
use Rattle.btree_nodes.specs.Build.{image}
use Rattle.btree_nodes.specs.Nodes.{IsLeaf, IsInner}
use Rattle.btree_nodes.specs.Tree.{level_of}
use Rattle.btree_nodes.specs.Damages.{AreReadable}
use Rattle.btree_nodes.proofs.Tolds.{image_told}
use Rattle.btree_nodes.proofs.Supplies.{with-same, with-other}
use Rattle.btree_insert.specs.Keeps.{KeepsOthers, KeepsAbove}

-- a page tells still where one was written
page-told : (old : PageMap) (bytes : List ℕ) (page n : ℕ) → 0 < length bytes → (n ≢ page → 0 < length (old n)) → 0 < length (with_page page bytes old n)
page-told old bytes page n some told =
    ⊎_elim
    (λ (e : n ≡ page). subst (λ (k : ℕ). 0 < length (with_page page bytes old k)) (sym e) (subst (λ (x : List ℕ). 0 < length x) (sym (with-same old bytes page)) some))
    (λ (f : n ≡ page → ⊥). subst (λ (x : List ℕ). 0 < length x) (sym (with-other old bytes page n f)) (told f))
    (cases_eq n page)

-- one page was written
pub one-kept : (number kind level cells_count page count count' : ℕ) (cells : List ℕ) (old new : PageMap) → AreReadable old count → new ≡ with_page page (image number kind level cells_count cells) old → count' ≡ count
    → KeepsOthers page old count new count'
one-kept number kind level cells_count page count count' cells old new told is same =
    let bytes : List ℕ = image number kind level cells_count cells in
    rw (is, same) record {
      told = λ n a b. page-told old bytes page n (image_told number kind level cells_count cells) (λ f. told n a b);
      others = λ n a f g. with-other old bytes page n f;
    }

-- what is counted behind a take was counted before, but for the page taken
before-take : (count more first next page : ℕ) → (first ≡ 0 → (page ≡ count) × (more ≡ count + 1) × (next ≡ 0)) → (0 < first → (page ≡ first) × (more ≡ count))
    → (n : ℕ) → n < more → (n ≡ page → ⊥) → n < count
before-take count more first next page isnew isfree n a f =
    ⊎_elim
    (λ (h : 0 < first). let i = (isfree h).1 in omega arith)
    (λ h. let i = isnew (omega arith) in let p = i.0 in let q = i.1 in ⊎_elim (λ (e : n ≡ count). absurd (f (e ∙ sym p))) (λ (e : n ≡ count → ⊥). omega arith) (cases_eq n count))
    (cases_lt 0 first)

-- a page was taken and written
pub told-taken : (old taken new : PageMap) (count more count' first next page : ℕ) (bytes : List ℕ) → AreReadable old count
    → (first ≡ 0 → (page ≡ count) × (more ≡ count + 1) × (next ≡ 0)) → (0 < first → (page ≡ first) × (more ≡ count)) → ((n : ℕ) → (n ≡ page → ⊥) → taken n ≡ old n)
    → new ≡ with_page page bytes taken → count' ≡ more → 0 < length bytes → AreReadable new count'
told-taken old taken new count more count' first next page bytes told isnew isfree others is same some n a b =
    subst (λ (p : PageMap). 0 < length (p n)) (sym is)
    (page-told taken bytes page n some (λ f. subst (λ (x : List ℕ). 0 < length x) (sym (others n f)) (told n a (before-take count more first next page isnew isfree n (omega arith) f))))

module _ (old taken first_written new : PageMap) (count more first next page right count' : ℕ) (front back : List ℕ)
    (isnew : first ≡ 0 → (right ≡ count) × (more ≡ count + 1) × (next ≡ 0)) (isfree : 0 < first → (right ≡ first) × (more ≡ count))
    (inside : first < count) (takeable : 0 < first → 0 < length (old first) → IsTakeable old count first)
    (others : (n : ℕ) → (n ≡ right → ⊥) → taken n ≡ old n)
    (one : first_written ≡ with_page page front taken) (two : new ≡ with_page right back first_written) (same : count' ≡ more)
    (some : 0 < length front) (some_too : 0 < length back) (told : AreReadable old count) where
  -- a page that was taken was free, or isn't counted before
  not-taken : (n : ℕ) → n < count → slice_index (old n) 0 ≢ 4 → n ≡ right → ⊥
  not-taken n a f e =
      ⊎_elim
      (λ (h : 0 < first). let i = (isfree h).0 in let t = takeable h (told first h inside) in f (ap (λ (k : ℕ). slice_index (old k) 0) (e ∙ i) ∙ t.0.kind))
      (λ h. let i = (isnew (omega arith)).0 in absurd (omega arith))
      (cases_lt 0 first)

  pub two-kept : KeepsOthers page old count new count'
  two-kept = rw (two, one, same) record {
    told = λ n a b. page-told (with_page page front taken) back right n some_too (λ f.
        page-told taken front page n some (λ h. subst (λ (x : List ℕ). 0 < length x) (sym (others n f)) (told n a (before-take count more first next right isnew isfree n b f))));
    others = λ n a f g.
        let r = not-taken n a g in
        with-other (with_page page front taken) back right n r ∙ with-other taken front page n f ∙ others n r;
  }

-- a leaf was written
pub leaf-keeps : (form : Form) (least page count count' : ℕ) (bytes : List ℕ) (old new : PageMap) → bytes ≡ old page → IsLeaf form least bytes → KeepsOthers page old count new count' → KeepsAbove 0 old count new count'
leaf-keeps form least page count count' bytes old new is leaf k =
    let low : level_of (old page) ≡ 0 = subst (λ (b : List ℕ). level_of b ≡ 0) is leaf.level in
    record {
      told = k.told;
      above = λ n a kind up. k.others n a (λ e. let f : level_of (old n) ≡ level_of (old page) = ap (λ (m : ℕ). level_of (old m)) e in omega arith) (λ f. omega arith);
    }

-- no page of this level was written
pub kept-higher : (level count count' : ℕ) (old new : PageMap) → KeepsAbove level old count new count' → KeepsAbove (suc level) old count new count'
kept-higher level count count' old new k = record { told = k.told; above = λ n a kind up. k.above n a kind (omega arith) }

-- the inner page itself has stayed
pub page-kept : (form : Form) (least level page count count' : ℕ) (bytes : List ℕ) (old new : PageMap) → bytes ≡ old page → IsInner form least (suc level) bytes → page < count → KeepsAbove level old count new count' → new page ≡ bytes
page-kept form least level page count count' bytes old new is inner counted k =
    let kind = subst (λ (b : List ℕ). slice_index b 0 ≡ 2) is inner.node.kind in
    let at : level_of (old page) ≡ suc level = subst (λ (b : List ℕ). level_of b ≡ suc level) is inner.node.level in
    k.above page counted kind (omega arith) ∙ sym is

-- it was written then
pub inner-keeps : (form : Form) (least level page count count' count'' : ℕ) (bytes : List ℕ) (old middle new : PageMap) → bytes ≡ old page → IsInner form least (suc level) bytes → count ≤ count'
    → KeepsAbove level old count middle count' → KeepsOthers page middle count' new count'' → KeepsAbove (suc level) old count new count''
inner-keeps form least level page count count' count'' bytes old middle new is inner more k h =
    let at : level_of (old page) ≡ suc level = subst (λ (b : List ℕ). level_of b ≡ suc level) is inner.node.level in
    record {
      told = h.told;
      above = λ n a kind up.
          let m = k.above n a kind (omega arith) in
          let stay : slice_index (middle n) 0 ≡ 2 = ap (λ (b : List ℕ). slice_index b 0) m ∙ kind in
          h.others n (omega arith) (λ e. let f : level_of (old n) ≡ level_of (old page) = ap (λ (j : ℕ). level_of (old j)) e in omega arith) (λ f. omega arith) ∙ m;
    }

-- a page that is counted
pub counted-below : (count page : ℕ) → (IsUncounted count page → ⊥) → page < count
counted-below count page f = ⊎_elim (λ (h : page < count). h) (λ h. absurd (f (inr (omega arith)))) (cases_lt page count)
