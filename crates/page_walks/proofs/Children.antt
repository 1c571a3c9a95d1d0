-- The children of an inner page that were walked so far.
use Rattle.std.proofs.Common.{◌≡◌, ℕ, zero, suc, ◌+◌, ◌<◌, ◌≤◌, ◌++◌, List, [], length, take, arith, refl, sym, ap, ◌∙◌, subst, inl, inr, ⊎_elim}
use Rattle.std.proofs.lemmas.List.{take_all}
use Rattle.std.proofs.lemmas.Bool.{cases_eq}
use Rattle.std.specs.List.{flat_map}
use Rattle.page_face.specs.FreeList.{PageMap}
use Rattle.page_face.specs.Causes.{IsUncounted}
use Rattle.page_face.specs.Nodes.{count_of}
use Rattle.page_face.specs.declared.fault.Rule.{Rule}
use Rattle.page_face.specs.declared.fault.Damage.{Damage}
use Rattle.btree_nodes.specs.declared.form.Form.{Form}
use Rattle.btree_nodes.specs.Rows.{Row}
use Rattle.btree_nodes.specs.Supply.{one_at}
use Rattle.btree_nodes.specs.Nodes.{Entry, entries_in, half_of, IsInner}
use Rattle.btree_nodes.specs.Tree.{total, uses, rows_at, with_low, IsFan, IsTree}
use Rattle.btree_nodes.specs.Bounds.{child_of, low_at, high_at}
use Rattle.btree_nodes.specs.Damages.{SomeChild, IsDamaged, IsOrdered}
use Rattle.btree_nodes.proofs.Spots.{length-entries_in}
use Rattle.page_walks.specs.Met.{Meets}
use Rattle.page_walks.specs.Misuse.{IsMisused}
use Rattle.page_walks.proofs.Misuses.{one-known, misused-up}
use Rattle.page_walks.proofs.Meetings.{meets-then}
use Rattle.page_walks.specs.Beneath.{beneath}
use Rattle.page_walks.specs.Leaves.{EachChild, AnyChildIs, AreGood, IsBadLeaf, IsBadBelow}
use Rattle.page_walks.specs.Walks.{HasWalked}
use Rattle.page_walks.proofs.Fans.{children-fan, child-some, each-child, any-child, total-take, total-part, rows-take}

-- a page is used once by itself, and beneath itself
pub uses-beneath : (form : Form) (pages : PageMap) (level page n : ℕ) → uses form pages level page n ≡ one_at page n + beneath form pages level page n
uses-beneath form pages zero page n = omega arith
uses-beneath form pages (suc level) page n = refl

-- The first `at` children of a page are trees, whose pages are counted and were met, whose leaves are good and whose rows were taken.
pub record IsWalked (good : List ℕ → Type 0) (takes : List Row → Type 0) (form : Form) (pages : PageMap) (count level low high : ℕ) (node : List ℕ) (before now : ℕ → ℕ) (at : ℕ) : Type 0 where
  pub trees : (k : ℕ) → k < at → IsTree form (half_of form level) pages level (child_of form node k) (low_at form node low k) (high_at form node high k)
  pub known : (n : ℕ) → IsUncounted count n → total (λ (c : ℕ). uses form pages level c n) (take at (entries_in form node)) ≡ 0
  pub met : (n : ℕ) → now n ≡ before n + total (λ (c : ℕ). uses form pages level c n) (take at (entries_in form node))
  pub leaves : (k : ℕ) → k < at → AreGood good form pages level (child_of form node k)
  pub taken : takes (flat_map (λ (e : Entry). rows_at form pages level e.1) (take at (entries_in form node)))

pub walked-none : (good : List ℕ → Type 0) (takes : List Row → Type 0) (form : Form) (pages : PageMap) (count level low high : ℕ) (node : List ℕ) (before : ℕ → ℕ) → takes []
    → IsWalked good takes form pages count level low high node before before 0
walked-none good takes form pages count level low high node before t = record {
  trees = λ k h. absurd (omega arith);
  known = λ n u. refl;
  met = λ n. omega arith;
  leaves = λ k h. absurd (omega arith);
  taken = t;
}

-- A child that is walked behind the first `at`.
module _ (form : Form) (pages : PageMap) (count level low high : ℕ) (node : List ℕ) (at child from to : ℕ) (small : at < count_of node)
    (child-is : child ≡ child_of form node at) (from-is : from ≡ low_at form node low at) (to-is : to ≡ high_at form node high at) where
  within : at < length (entries_in form node)
  within = omega (arith, length-entries_in form node)

  -- what is said of the child is said of the one at its place
  here : (Claim : ℕ → ℕ → ℕ → Type 0) → Claim child from to → Claim (child_of form node at) (low_at form node low at) (high_at form node high at)
  here Claim claim =
      subst (λ (x : ℕ). Claim x (low_at form node low at) (high_at form node high at)) child-is
      (subst (λ (x : ℕ). Claim child x (high_at form node high at)) from-is
      (subst (λ (x : ℕ). Claim child from x) to-is claim))

  -- its pages are some of those beneath the page
  owns : (n : ℕ) → total (λ (c : ℕ). uses form pages level c n) (take at (entries_in form node)) + (one_at child n + beneath form pages level child n)
      ≤ total (λ (c : ℕ). uses form pages level c n) (entries_in form node)
  owns n =
      let t = total-part (λ (c : ℕ). uses form pages level c n) (entries_in form node) at within in
      let u = uses-beneath form pages level child n in
      let e : uses form pages level child n ≡ uses form pages level (child_of form node at) n = ap (λ (c : ℕ). uses form pages level c n) child-is in
      omega arith

  -- those beneath the page are those of its entries
  beneath-node : (page : ℕ) → node ≡ pages page → (n : ℕ) → total (λ (c : ℕ). uses form pages level c n) (entries_in form node) ≡ beneath form pages (suc level) page n
  beneath-node page is n = ap (λ (x : List ℕ). total (λ (c : ℕ). uses form pages level c n) (entries_in form x)) is

  -- one child more was walked
  pub walked-more : (good : List ℕ → Type 0) (takes more takes' : List Row → Type 0) (before now met now' : ℕ → ℕ) → ((rows others : List Row) → takes rows → more others → takes' (rows ++ others))
      → IsWalked good takes form pages count level low high node before now at
      → (IsUncounted count child → ⊥) → ((n : ℕ) → met n ≡ now n + one_at child n) → HasWalked good more form pages count (half_of form level) level child from to met now'
      → IsWalked good takes' form pages count level low high node before now' (at + 1)
  walked-more good takes more takes' before now met now' join w known enters h =
      let e : suc at ≡ at + 1 = omega arith in
      subst (λ (i : ℕ). IsWalked good takes' form pages count level low high node before now' i) e (record {
        trees = λ k less. ⊎_elim
            (λ same. subst (λ (i : ℕ). IsTree form (half_of form level) pages level (child_of form node i) (low_at form node low i) (high_at form node high i)) (sym same)
            (here (IsTree form (half_of form level) pages level) h.tree))
            (λ other. w.trees k (omega arith)) (cases_eq k at);
        known = λ n u.
            let t = total-take (λ (c : ℕ). uses form pages level c n) (entries_in form node) at within in
            let a = w.known n u in
            let b = one-known count child n known u in
            let d = h.known n u in
            let s = uses-beneath form pages level child n in
            let e : uses form pages level child n ≡ uses form pages level (child_of form node at) n = ap (λ (c : ℕ). uses form pages level c n) child-is in
            omega arith;
        met = λ n.
            let t = total-take (λ (c : ℕ). uses form pages level c n) (entries_in form node) at within in
            let a = w.met n in
            let b = enters n in
            let d = h.met n in
            let s = uses-beneath form pages level child n in
            let e : uses form pages level child n ≡ uses form pages level (child_of form node at) n = ap (λ (c : ℕ). uses form pages level c n) child-is in
            omega arith;
        leaves = λ k less. ⊎_elim
            (λ same. subst (λ (i : ℕ). AreGood good form pages level (child_of form node i)) (sym same) (subst (AreGood good form pages level) child-is h.leaves))
            (λ other. w.leaves k (omega arith)) (cases_eq k at);
        taken =
            subst takes' (sym (rows-take (rows_at form pages level) (entries_in form node) at within))
            (subst (λ (c : ℕ). takes' (flat_map (λ (e : Entry). rows_at form pages level e.1) (take at (entries_in form node)) ++ rows_at form pages level c)) child-is
            (join _ _ w.taken h.taken));
      })

  -- the child itself is misused
  pub enter-broken : (breaks : Rule → List ℕ → Type 0) (good : List ℕ → Type 0) (takes : List Row → Type 0) (before now : ℕ → ℕ) (page least low' high' : ℕ) → node ≡ pages page
      → IsWalked good takes form pages count level low high node before now at → (d : Damage) → IsMisused count now (one_at child) d
      → IsBadBelow breaks form pages count before least (suc level) page low' high' d
  enter-broken breaks good takes before now page least low' high' is w d m =
      inl (inl (misused-up count now before (one_at child) (beneath form pages (suc level) page) d
      (λ n. let a = w.met n in let b = owns n in let e = beneath-node page is n in omega arith)
      (λ n. let b = owns n in let e = beneath-node page is n in omega arith) m))

  -- the damage is below the child
  pub below-broken : (breaks : Rule → List ℕ → Type 0) (good : List ℕ → Type 0) (takes : List Row → Type 0) (before now met : ℕ → ℕ) (page least : ℕ) → node ≡ pages page
      → IsWalked good takes form pages count level low high node before now at → ((n : ℕ) → met n ≡ now n + one_at child n)
      → (d : Damage) → IsBadBelow breaks form pages count met (half_of form level) level child from to d → IsBadBelow breaks form pages count before least (suc level) page low high d
  below-broken breaks good takes before now met page least is w enters d b =
      ⊎_elim
      (λ f. inl (⊎_elim
      (λ m. inl (misused-up count met before (beneath form pages level child) (beneath form pages (suc level) page) d
      (λ n. let a = w.met n in let b = owns n in let e = beneath-node page is n in let z = enters n in omega arith)
      (λ n. let b = owns n in let e = beneath-node page is n in omega arith) m))
      (λ g. inr (inr (subst (λ (x : List ℕ). SomeChild (IsDamaged form pages count d (half_of form level) level) high (with_low low (entries_in form x))) is
      (child-some (IsDamaged form pages count d (half_of form level) level) form low high node at within (here (IsDamaged form pages count d (half_of form level) level) g)))))
      f))
      (λ l. inr (subst (λ (x : List ℕ). AnyChildIs (IsBadLeaf breaks form pages d level) (entries_in form x)) is
      (any-child (IsBadLeaf breaks form pages d level) (entries_in form node) at within (subst (IsBadLeaf breaks form pages d level) child-is l))))
      b

  -- the pages met, with the child
  pub meets-enter : (asked asked' asked'' : List ℕ) (before now met : ℕ → ℕ) (page : ℕ) → node ≡ pages page
      → ((n : ℕ) → now n ≡ before n + total (λ (c : ℕ). uses form pages level c n) (take at (entries_in form node)))
      → Meets (beneath form pages (suc level) page) asked asked' before now → Meets (one_at child) asked' asked'' now met → Meets (beneath form pages (suc level) page) asked asked'' before met
  meets-enter asked asked' asked'' before now met page is was m e =
      meets-then (beneath form pages (suc level) page) (one_at child) (beneath form pages (suc level) page) asked asked' asked'' before now met m e
      (λ n. let l = was n in let o = e.own n in let w = owns n in let s = beneath-node page is n in omega arith)

  -- the pages met, with those below the child
  pub meets-below : (asked asked' asked'' last : List ℕ) (before now met now' : ℕ → ℕ) (page : ℕ) → node ≡ pages page
      → ((n : ℕ) → now n ≡ before n + total (λ (c : ℕ). uses form pages level c n) (take at (entries_in form node)))
      → Meets (beneath form pages (suc level) page) asked asked' before now → Meets (one_at child) asked' asked'' now met
      → Meets (beneath form pages level child) asked'' last met now' → Meets (beneath form pages (suc level) page) asked last before now'
  meets-below asked asked' asked'' last before now met now' page is was m e b =
      meets-then (beneath form pages (suc level) page) (beneath form pages level child) (beneath form pages (suc level) page) asked asked'' last before met now'
      (meets-enter asked asked' asked'' before now met page is was m e)
      b (λ n. let l = was n in let o = e.own n in let q = b.own n in let w = owns n in let s = beneath-node page is n in omega arith)

-- all children were walked
pub walked-all : (good : List ℕ → Type 0) (takes : List Row → Type 0) (form : Form) (pages : PageMap) (count least level page low high : ℕ) (node : List ℕ) (before now : ℕ → ℕ) (at : ℕ)
    → node ≡ pages page → count_of node ≤ at → IsInner form least (suc level) node → IsOrdered form low high node
    → IsWalked good takes form pages count level low high node before now at → HasWalked good takes form pages count least (suc level) page low high before now
walked-all good takes form pages count least level page low high node before now at is all inner order w =
    let n = length-entries_in form node in
    let whole : take at (entries_in form node) ≡ entries_in form (pages page) = take_all at (entries_in form node) (omega arith) ∙ ap (entries_in form) is in
    record {
      tree = subst (λ (x : List ℕ). IsInner form least (suc level) x × IsFan (IsTree form (half_of form level) pages level) low high (with_low low (entries_in form x))) is (
        inner,
        children-fan (IsTree form (half_of form level) pages level) form low high node order.1 (λ i h. w.trees i (omega arith)),
      );
      known = λ m u. ap (total (λ (c : ℕ). uses form pages level c m)) (sym whole) ∙ w.known m u;
      met = λ m. let e : total (λ (c : ℕ). uses form pages level c m) (take at (entries_in form node)) ≡ beneath form pages (suc level) page m = ap (total (λ (c : ℕ). uses form pages level c m)) whole in
          let a = w.met m in omega arith;
      leaves = subst (λ (x : List ℕ). EachChild (AreGood good form pages level) (entries_in form x)) is
          (each-child (AreGood good form pages level) (entries_in form node) (λ k h. w.leaves k (omega arith)));
      taken = subst (λ (x : List Entry). takes (flat_map (λ (e : Entry). rows_at form pages level e.1) x)) whole w.taken;
    }
