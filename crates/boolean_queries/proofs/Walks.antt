-- The steps of a walk: what was found and what waits lead to all places.
use Rattle.std.proofs.Common.{◌≡◌, ℕ, zero, suc, ◌+◌, ◌*◌, ◌<◌, ◌≤◌, List, [], ◌∷◌, ◌++◌, length, refl, sym, ap, subst, ◌∙◌, arith, sum_by}
use Rattle.std.specs.List.{AllByRecursion}
use Rattle.std.proofs.lemmas.List.{append-nil}
use Rattle.std.proofs.lemmas.Grind.{flat_map-append}
use Rattle.std.proofs.lemmas.List.Sums.{sum_by-cons, sum_by-append}
use Rattle.place_values.specs.Members.{SameMembers}
use Rattle.place_values.specs.declared.hit.Hit.{Hit}
use Rattle.best_first.specs.declared.item.Item.{Item}
use Rattle.best_first.specs.declared.item.Item.TheVariants.{Node, Place}
use Rattle.best_first.specs.Items.{nodes_of, places_of, IsGivenAt}
use Rattle.best_first.specs.Leads.{below, reached, leads}
use Rattle.best_first.proofs.Steps.{below_leads, node_weight, weight, work, child_weight, mul_le as mul-le}

module _ (opens : ℕ → ℕ → List Item) where
  -- what was found, and what the waiting nodes lead to, are all places
  pub record Walking (total found : List Hit) (queue : List Item) : Type 0 where
    pub all : SameMembers total (found ++ leads opens queue)

  -- what items lead to: their places, and what their nodes lead to
  leads-split : (f : Hit → ℕ) (items : List Item) → sum_by f (leads opens items) ≡ sum_by f (places_of items) + sum_by f (leads opens (nodes_of items))
  leads-split f [] = refl
  leads-split f (Node page level bound ∷ items) =
      omega (arith, leads-split f items, sum_by-append f (below opens level page) (leads opens items), sum_by-append f (below opens level page) (leads opens (nodes_of items)))
  leads-split f (Place hit ∷ items) =
      omega (arith, leads-split f items, sum_by-cons f hit (leads opens items), sum_by-cons f hit (places_of items))

  leads-append : (f : Hit → ℕ) (xs ys : List Item) → sum_by f (leads opens (xs ++ ys)) ≡ sum_by f (leads opens xs) + sum_by f (leads opens ys)
  leads-append f xs ys = ap (sum_by f) (flat_map-append (reached opens) xs ys) ∙ sum_by-append f (leads opens xs) (leads opens ys)

  -- at the start
  pub walk-begun : (starts queue : List Item) (found : List Hit) → found ≡ [] → queue ≡ starts → Walking (leads opens starts) found queue
  walk-begun starts queue found e s = record { all = λ f. ap (λ (l : List Hit). sum_by f (l ++ leads opens queue)) e ∙ ap (λ (q : List Item). sum_by f (leads opens q)) s }

  -- a node is opened
  pub walk-node : (total now found : List Hit) (page level bound : ℕ) (items queue rest new : List Item) → queue ≡ rest ++ Node page level bound ∷ [] → items ≡ opens page level → AllByRecursion (IsGivenAt level) items
      → new ≡ rest ++ nodes_of items → found ≡ now ++ places_of items → Walking total now queue → Walking total found new
  walk-node total now found page level bound items queue rest new q o g n p w =
      let given : AllByRecursion (IsGivenAt level) (opens page level) = subst (AllByRecursion (IsGivenAt level)) o g in
      let under : below opens level page ≡ leads opens items = below_leads opens level page given ∙ ap (leads opens) (sym o) in
      record {
        all = λ f.
            let a = w.all f in
            let b = sum_by-append f now (leads opens queue) in
            let c = ap (λ (l : List Item). sum_by f (leads opens l)) q in
            let d = leads-append f rest (Node page level bound ∷ []) in
            let e : sum_by f (leads opens (Node page level bound ∷ [])) ≡ sum_by f (leads opens items) = ap (sum_by f) (append-nil (below opens level page) ∙ under) in
            let h = leads-split f items in
            let i = sum_by-append f found (leads opens new) in
            let j = ap (sum_by f) p in
            let k = sum_by-append f now (places_of items) in
            let l = ap (λ (x : List Item). sum_by f (leads opens x)) n in
            let m = leads-append f rest (nodes_of items) in
            omega arith;
      }

node-is : (level : ℕ) → node_weight level ≡ 1 + 32 * child_weight level
node-is zero = refl
node-is (suc l) = refl

children-light : (level : ℕ) (items : List Item) → AllByRecursion (IsGivenAt level) items → work (nodes_of items) ≤ length items * child_weight level
children-light level [] g = omega arith
children-light zero (Node page l bound ∷ items) g = absurd g.0
children-light (suc level) (Node page l bound ∷ items) g = omega (arith, sum_by-cons weight (Node page l bound) (nodes_of items), ap node_weight g.0, children-light (suc level) items g.1)
children-light level (Place hit ∷ items) g = omega (arith, children-light level items g.1)

-- an opened node leaves less work
pub opened-smaller : (page level bound : ℕ) (items queue rest new : List Item) → queue ≡ rest ++ Node page level bound ∷ [] → length items ≤ 32 → AllByRecursion (IsGivenAt level) items → new ≡ rest ++ nodes_of items → work new < work queue
opened-smaller page level bound items queue rest new q f g n =
    let node = Node page level bound in
    let a = ap work q in
    let b = sum_by-append weight rest (node ∷ []) in
    let d = ap work n in
    let e = sum_by-append weight rest (nodes_of items) in
    let c = children-light level items g in
    let m = mul-le (length items) 32 (child_weight level) f in
    omega (arith, node-is level, sum_by-cons weight node [])
