-- A search that has come down from a page to one below it.
use Rattle.std.proofs.Common.{◌≡◌, ℕ, suc, ◌<◌, ◌≤◌, ◌⊎◌, inl, inr, ⊎_elim, List, [], ◌∷◌, ◌++◌, length, arith, refl, sym, ap, ◌∙◌, subst, append_assoc, Result, Err}
use Rattle.page_face.specs.FreeList.{PageMap}
use Rattle.page_face.specs.Causes.{IsUncounted, asked_after, unlinked}
use Rattle.page_face.specs.declared.fault.Damage.{Damage}
use Rattle.page_face.specs.declared.fault.PageFault.{PageFault}
use Rattle.page_face.specs.declared.fault.PageFault.TheVariants.{Damaged}
use Rattle.btree_nodes.specs.declared.form.Form.{Form}
use Rattle.btree_nodes.specs.Nodes.{IsInner, IsLeaf, half_of, least_of_root, rows_in}
use Rattle.btree_nodes.specs.Rows.{IsWithin}
use Rattle.btree_nodes.specs.Tree.{IsTree, uses}
use Rattle.btree_nodes.specs.Damages.{IsDamaged, IsOrdered, AreReadable, AskedSince, AsksOnly}
use Rattle.btree_nodes.proofs.Trees.{tree-size}
use Rattle.btree_nodes.proofs.Harms.{asks-here, asks-further}
use Rattle.btree_nodes.proofs.Walks.{told-read, uses-self, asks-read, damage-link, uses-below, damage-below}
use Rattle.btree_nodes.specs.Steps.{StepsTo}
use Rattle.btree_nodes.specs.Below.{LiesBelow}
use Rattle.btree_nodes.specs.Ways.{IsWay}
use Rattle.btree_nodes.proofs.Places.{lies-itself, lies-below, lies-further}

-- what a page below has, the page above has
pub record Below (form : Form) (pages : PageMap) (count least level page low high fill height here lo hi : ℕ) : Type 0 where
  pub lies : IsTree form least pages level page low high → LiesBelow form pages least level page low high fill height here lo hi
  pub owns : (n : ℕ) → 0 < uses form pages height here n → 0 < uses form pages level page n
  pub damage : (damage : Damage) → IsDamaged form pages count damage fill height here lo hi → IsDamaged form pages count damage least level page low high

below-start : (form : Form) (pages : PageMap) (count least level page low high : ℕ) → low ≤ high → Below form pages count least level page low high least level page low high
below-start form pages count least level page low high order = record { lies = λ t. lies-itself form pages least level page low high order t; owns = λ n h. h; damage = λ d h. h }

-- The search is at `here`, which was looked at last, with these bytes, and the pages asked for are `since`.
pub record Descends (form : Form) (pages : PageMap) (count key least level page low high : ℕ) (bytes asked : List ℕ) (fill height here lo hi : ℕ) (looked since : List ℕ) : Type 0 where
  pub below : bytes ≡ pages page → IsTree form least pages level page low high ⊎ AreReadable pages count → (looked ≡ pages here) × Below form pages count least level page low high fill height here lo hi
  pub ends : (before : List ℕ) → asked ≡ before ++ page ∷ [] → (front : List ℕ) × (since ≡ before ++ (front ++ here ∷ []))
  pub own : (before : List ℕ) → asked ≡ before ++ page ∷ [] → bytes ≡ pages page → AreReadable pages count → AsksOnly (uses form pages level page) before since
  pub way : bytes ≡ pages page → AreReadable pages count → (leaf from to : ℕ) → IsWay form pages count key fill height here lo hi leaf from to → IsWay form pages count key least level page low high leaf from to
  pub counted : IsUncounted count here → ⊥
  pub fills : least_of_root height ≤ fill
  pub from : lo ≤ key
  pub to : key < hi

pub descends-start : (form : Form) (pages : PageMap) (count key least level page low high : ℕ) (bytes asked : List ℕ) → least_of_root level ≤ least → (IsUncounted count page → ⊥) → low ≤ key → key < high
    → Descends form pages count key least level page low high bytes asked least level page low high bytes asked
descends-start form pages count key least level page low high bytes asked f u a b = record {
  below = λ is t. (is, below-start form pages count least level page low high (omega arith));
  ends = λ before e. ([], e);
  own = λ before e is told. asks-here (uses form pages level page) before asked page (uses-self form pages level page) e;
  way = λ is told leaf from to w. w;
  counted = u;
  fills = f;
  from = a;
  to = b;
}

pub same-damage : {T : Type 0} (result : Result T PageFault) (fault : PageFault) (other damage : Damage) → result ≡ Err fault → fault ≡ Damaged other → result ≡ Err (Damaged damage) → damage ≡ other
same-damage result fault other damage e f h = cc

module _ {form : Form} {pages : PageMap} {count key least level page low high : ℕ} {bytes asked : List ℕ} {fill height here lo hi : ℕ} {looked since : List ℕ}
    (d : Descends form pages count key least level page low high bytes asked fill height here lo hi looked since) where
  module _ {child lo' hi' : ℕ} (l : ℕ) (up : height ≡ suc l) (s : StepsTo form looked key lo hi child lo' hi') where
    -- one level further down
    below-step : (fill' : ℕ) → fill' ≡ half_of form l → looked ≡ pages here → Below form pages count least level page low high fill height here lo hi → Below form pages count least level page low high fill' l child lo' hi'
    below-step fill' f is b = record {
      lies = λ t. let p = b.lies t in lies-further p (lies-below form pages looked height l here s.at up is s.within fill fill' lo hi lo' hi' child f s.from s.to s.is p.tree);
      owns = λ n h. b.owns n (uses-below form pages looked height l here s.at up is s.within child n s.is h);
      damage = λ m h. b.damage m (damage-below form pages looked height l here s.at up is s.within count m fill fill' lo hi lo' hi' child f s.from s.to s.is h);
    }

    -- a way from the child goes on from the page
    way-step : (inner : IsInner form fill height looked) → IsOrdered form lo hi looked → (IsUncounted count child → ⊥) → looked ≡ pages here → (leaf from to : ℕ) → IsWay form pages count key (half_of form l) l child lo' hi' leaf from to
        → IsWay form pages count key fill height here lo hi leaf from to
    way-step inner ordered counted is leaf from to w =
        subst (λ (k : ℕ). IsWay form pages count key fill k here lo hi leaf from to) (sym up) (
          subst (λ (x : List ℕ). IsInner form fill (suc l) x) is (subst (λ (k : ℕ). IsInner form fill k looked) up inner),
          subst (IsOrdered form lo hi) is ordered,
          child,
          lo',
          hi',
          subst (λ (x : List ℕ). StepsTo form x key lo hi child lo' hi') is s,
          counted,
          w,
        )

    pub descends-step : (fill' : ℕ) (looked' since' : List ℕ) → IsInner form fill height looked → IsOrdered form lo hi looked → fill' ≡ half_of form l → least_of_root l ≤ fill' → (0 < length (pages child) → looked' ≡ pages child) → (IsUncounted count child → ⊥) → since' ≡ since ++ child ∷ []
        → Descends form pages count key least level page low high bytes asked fill' l child lo' hi' looked' since'
    descends-step fill' looked' since' inner ordered f some gives counted e = record {
      below = λ is t.
          let was = d.below is t in
          let b = below-step fill' f was.0 was.1 in
          (gives (⊎_elim (λ tree. tree-size form fill' pages l child lo' hi' (let p = b.lies tree in p.tree)) (λ told. told-read pages count child told counted) t), b);
      ends = λ before a.
          let was = d.ends before a in
          (was.0 ++ here ∷ [], e ∙ ap (λ (x : List ℕ). x ++ child ∷ []) was.1 ∙ append_assoc before (was.0 ++ here ∷ []) (child ∷ []));
      own = λ before a is told.
          let was = d.below is (inr told) in
          let b = below-step fill' f was.0 was.1 in
          let mine : ℕ → ℕ = uses form pages level page in
          asks-further mine before since since' (d.own before a is told) (asks-here mine since since' child (b.owns child (uses-self form pages l child)) e);
      way = λ is told leaf from to w.
          let was = d.below is (inr told) in
          d.way is told leaf from to (way-step inner ordered counted was.0 leaf from to (subst (λ (k : ℕ). IsWay form pages count key k l child lo' hi' leaf from to) f w));
      counted = counted;
      fills = some;
      from = s.over d.from;
      to = s.under d.to;
    }

    -- a child that was refused isn't counted
    pub damaged-link : (damage : Damage) → bytes ≡ pages page → AreReadable pages count → damage ≡ unlinked child → IsUncounted count child → IsDamaged form pages count damage least level page low high
    damaged-link damage is told e u =
        let was = d.below is (inr told) in
        (below-step (half_of form l) refl was.0 was.1).damage damage (damage-link form pages count damage (half_of form l) l child lo' hi' e u)

    pub named-link : {T : Type 0} (result : Result T PageFault) (new before : List ℕ) (damage : Damage) → asked ≡ before ++ page ∷ [] → new ≡ asked_after result child since → result ≡ Err (Damaged damage) → damage ≡ unlinked child → AskedSince before new damage.page
    named-link {T = T} result new before damage a n e u =
        let was = d.ends before a in
        record {
          front = was.0 ++ here ∷ [];
          back = [];
          is = n ∙ ap (λ (r : Result T PageFault). asked_after r child since) e ∙ ap (λ (x : List ℕ). x ++ child ∷ []) was.1 ∙ append_assoc before (was.0 ++ here ∷ []) (child ∷ [])
              ∙ ap (λ (m : Damage). before ++ ((was.0 ++ here ∷ []) ++ m.page ∷ [])) (sym u);
        }

    pub own-link : {T : Type 0} (result : Result T PageFault) (new before : List ℕ) → asked ≡ before ++ page ∷ [] → bytes ≡ pages page → AreReadable pages count → new ≡ asked_after result child since → AsksOnly (uses form pages level page) before new
    own-link {T = T} result new before a is told n =
        let was = d.below is (inr told) in
        let b = below-step (half_of form l) refl was.0 was.1 in
        let mine : ℕ → ℕ = uses form pages level page in
        subst (λ (x : List ℕ). AsksOnly mine before x) (sym n) (asks-read mine before since child result (d.own before a is told) (b.owns child (uses-self form pages l child)))

  -- the leaf, which was looked at last
  pub leaf-lies : height ≡ 0 → bytes ≡ pages page → IsTree form least pages level page low high → (looked ≡ pages here) × LiesBelow form pages least level page low high fill 0 here lo hi
  leaf-lies down is tree =
      let was = d.below is (inl tree) in
      (was.0, subst (λ (k : ℕ). LiesBelow form pages least level page low high fill k here lo hi) down (was.1.lies tree))

  -- it was asked for, and is as the pages have it
  pub leaf-read : (before : List ℕ) → asked ≡ before ++ page ∷ [] → bytes ≡ pages page → AreReadable pages count → AskedSince before since here × (looked ≡ pages here)
  leaf-read before a is told =
      let was = d.ends before a in
      (record { front = was.0; back = []; is = was.1 }, (d.below is (inr told)).0)

  -- the way ends at the leaf that keeps its rules
  pub leaf-way : height ≡ 0 → bytes ≡ pages page → AreReadable pages count → IsLeaf form fill looked → IsWithin lo hi (rows_in form looked) → IsWay form pages count key least level page low high here lo hi
  leaf-way down is told leaf within =
      let was = d.below is (inr told) in
      d.way is told here lo hi (subst (λ (k : ℕ). IsWay form pages count key fill k here lo hi here lo hi) (sym down)
      (refl, refl, refl, subst (IsLeaf form fill) was.0 leaf, subst (λ (x : List ℕ). IsWithin lo hi (rows_in form x)) was.0 within))
