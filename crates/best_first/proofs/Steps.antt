-- The steps of a search: what was found and what waits lead to all places.
use Rattle.std.proofs.Common.{◌≡◌, ℕ, zero, suc, ◌+◌, ◌*◌, ◌<◌, ◌≤◌, List, [], ◌∷◌, ◌++◌, take, length, refl, sym, ap, subst, ◌∙◌, arith, false, true, nat_lt, Option, Some, None, inl, inr, append_assoc, sum_by, IsPermutation}
use Rattle.std.specs.List.{AllByRecursion, flat_map}
use Rattle.std.proofs.lemmas.Bool.{ltb-true}
use Rattle.std.proofs.lemmas.List.{append-nil}
use Rattle.std.proofs.lemmas.Grind.{flat_map-append}
use Rattle.std.proofs.lemmas.List.Sums.{sum_by-cons, sum_by-append}
use Rattle.std.proofs.lemmas.List.Sorted.{sum_by-IsPermutation, IsPermutation-sym}
use Rattle.place_values.specs.First.{first, IsRanked}
use Rattle.place_values.specs.Members.{SameMembers, ranked_same}
use Rattle.place_values.specs.declared.hit.Hit.{Hit}
use Rattle.place_values.specs.Hit.{comes_before, hits_linear}
use Rattle.best_first.specs.declared.item.Item.{Item}
use Rattle.best_first.specs.declared.item.Item.TheVariants.{Node, Place}
use Rattle.best_first.specs.Items.{nodes_of, places_of, bound_of, IsGivenAt}
use Rattle.best_first.specs.Leads.{led, at_node, below, reached, leads, IsAhead, IsBound, AreBounds, BoundsBelow, Bounds}
use Rattle.best_first.specs.Queue.{IsNext}
use Rattle.best_first.specs.Openings.{cheaper}
use Rattle.best_first.specs.Cuts.{is_over, affordable}
use Rattle.best_first.specs.Lists.{all_weaker, all_append, all_parts, flat_all, all_moved, flat_map_same}
use Rattle.best_first.proofs.CostLaws.{IsMost, all_cheaper, cheaper_some, below_cost}
use Rattle.best_first.proofs.Firsts.{first_own, first_absorbed, first_front}
use Rattle.best_first.proofs.Limits.{all-affordable, none-affordable, within, affordable-weight}

module _ (opens : ℕ → ℕ → List Item) where
  -- The first k of all places that cost no more than the limit are the first k of those found and of those that the queue leads to.
  pub record Searching (total : List Hit) (limit : Option ℕ) (k : ℕ) (found : List Hit) (queue : List Item) : Type 0 where
    pub same : first comes_before k (affordable limit total) ≡ first comes_before k (found ++ affordable limit (leads opens queue))
    pub bounds : Bounds opens queue

  abbrev Sound : Item → Type 0
  Sound i = IsBound opens i × BoundsBelow opens i

  -- what items lead to: their places, and what their nodes lead to
  leads_split : (f : Hit → ℕ) (items : List Item) → sum_by f (leads opens items) ≡ sum_by f (places_of items) + sum_by f (leads opens (nodes_of items))
  leads_split f [] = refl
  leads_split f (Node page level bound ∷ items) =
      omega (arith, leads_split f items, sum_by-append f (below opens level page) (leads opens items), sum_by-append f (below opens level page) (leads opens (nodes_of items)))
  leads_split f (Place hit ∷ items) =
      omega (arith, leads_split f items, sum_by-cons f hit (leads opens items), sum_by-cons f hit (places_of items))

  same_leads : (level : ℕ) (under : ℕ → List Hit) → ((p l : ℕ) → suc l ≡ level → under p ≡ below opens l p) → (items : List Item) → AllByRecursion (IsGivenAt level) items → flat_map (led under) items ≡ leads opens items
  same_leads level under agree [] g = refl
  same_leads zero under agree (Node page l bound ∷ items) g = absurd g.0
  same_leads (suc level) under agree (Node page l bound ∷ items) g =
      let q : under page ≡ below opens l page = agree page l (ap suc g.0) in
      ap (λ x. x ++ flat_map (led under) items) q ∙ ap (λ x. below opens l page ++ x) (same_leads (suc level) under agree items g.1)
  same_leads level under agree (Place hit ∷ items) g = ap (λ x. hit ∷ x) (same_leads level under agree items g.1)

  -- a node leads to what its items lead to
  pub below_leads : (level page : ℕ) → AllByRecursion (IsGivenAt level) (opens page level) → below opens level page ≡ leads opens (opens page level)
  below_leads zero page g = same_leads 0 (λ p. []) (λ p l e. absurd (omega arith)) (opens page 0) g
  below_leads (suc level) page g = same_leads (suc level) (λ p. below opens level p) (λ p l e. let q : level ≡ l = omega arith in ap (λ n. below opens n p) q) (opens page (suc level)) g

  -- the bounds of what a node gives hold where those below it do
  sound_given : (level : ℕ) (items : List Item) → AllByRecursion (IsGivenAt (suc level)) items → AllByRecursion (λ (i : Item). IsBound opens i × at_node (λ p. AreBounds opens level p) i) items → Bounds opens items
  sound_given level [] g b = tt
  sound_given level (Node page l bound ∷ items) g b = ((b.0.0, subst (λ n. AreBounds opens n page) (sym g.0) b.0.1), sound_given level items g.1 b.1)
  sound_given level (Place hit ∷ items) g b = absurd g.0

  sound_places : (items : List Item) → AllByRecursion (IsGivenAt 0) items → Bounds opens items
  sound_places [] g = tt
  sound_places (Node page l bound ∷ items) g = absurd g.0
  sound_places (Place hit ∷ items) g = ((tt, tt), sound_places items g.1)

  opened_sound : (level page : ℕ) → AllByRecursion (IsGivenAt level) (opens page level) → AreBounds opens level page → Bounds opens (opens page level)
  opened_sound zero page g b = sound_places (opens page 0) g
  opened_sound (suc level) page g b = sound_given level (opens page (suc level)) g b

  -- what holds of all items holds of the nodes among them
  pub all_nodes : (P : Item → Type 0) (items : List Item) → AllByRecursion P items → AllByRecursion P (nodes_of items)
  all_nodes P [] h = tt
  all_nodes P (Node page level bound ∷ items) h = (h.0, all_nodes P items h.1)
  all_nodes P (Place hit ∷ items) h = all_nodes P items h.1

  -- what holds of all places that items lead to holds of the places among them
  pub all_places : (P : Hit → Type 0) (items : List Item) → AllByRecursion (λ (i : Item). AllByRecursion P (reached opens i)) items → AllByRecursion P (places_of items)
  all_places P [] h = tt
  all_places P (Node page level bound ∷ items) h = all_places P items h.1
  all_places P (Place hit ∷ items) h = (h.0.0, all_places P items h.1)

  leads_moved : (f : Hit → ℕ) (xs ys : List Item) → IsPermutation xs ys → sum_by f (leads opens ys) ≡ sum_by f (leads opens xs)
  leads_moved f xs ys p = flat_map_same (reached opens) xs ys (λ g. sum_by-IsPermutation g xs ys p) f

  -- at the start
  pub started : (starts items : List Item) (limit : Option ℕ) (k : ℕ) (empty queue : List Item) (none found : List Hit) → empty ≡ [] → none ≡ [] → items ≡ starts → IsPermutation (nodes_of items ++ empty) queue → found ≡ first comes_before k (none ++ affordable limit (places_of items)) → Bounds opens starts → Searching (leads opens starts) limit k found queue
  started starts items limit k empty queue none found e n s p f b =
      let q : IsPermutation (nodes_of starts) queue = subst (λ x. IsPermutation x queue) (ap (λ x. nodes_of items ++ x) e ∙ append-nil (nodes_of items) ∙ ap nodes_of s) p in
      let g : found ≡ first comes_before k (affordable limit (places_of starts)) = f ∙ ap (λ x. first comes_before k (x ++ affordable limit (places_of items))) n ∙ ap (λ x. first comes_before k (affordable limit (places_of x))) s in
      let moved : SameMembers (affordable limit (leads opens starts)) (affordable limit (places_of starts) ++ affordable limit (leads opens queue)) =
      λ f.
      let w : Hit → ℕ = within limit f in
      omega (arith, leads_split w starts, sum_by-append f (affordable limit (places_of starts)) (affordable limit (leads opens queue)), leads_moved w (nodes_of starts) queue q, affordable-weight limit f (leads opens starts), affordable-weight limit f (places_of starts), affordable-weight limit f (leads opens queue)) in
      record {
        same = ap (take k) (sym (ranked_same hits_linear (affordable limit (leads opens starts)) (affordable limit (places_of starts) ++ affordable limit (leads opens queue)) moved))
            ∙ sym (first_absorbed k (affordable limit (places_of starts)) (affordable limit (leads opens queue)))
            ∙ ap (λ x. first comes_before k (x ++ affordable limit (leads opens queue))) (sym g);
        bounds = all_moved Sound (nodes_of starts) queue q (all_nodes Sound starts b);
      }

  -- nothing waits any more
  pub none_waits : (total : List Hit) (limit : Option ℕ) (k : ℕ) (found : List Hit) (queue : List Item) → queue ≡ [] → Searching total limit k found queue → IsRanked comes_before found → length found ≤ k → found ≡ first comes_before k (affordable limit total)
  none_waits total limit k found queue e s r l = sym (s.same ∙ ap (λ q. first comes_before k (found ++ affordable limit (leads opens q))) e ∙ ap (first comes_before k) (append-nil found) ∙ first_own k found r l)

  -- no place that an item leads to costs less than a bound that its own is above
  pub item_ahead : (bound : ℕ) (i : Item) → bound ≤ bound_of i → IsBound opens i → IsAhead opens bound i
  item_ahead bound (Node page level b) l h = all_weaker (λ (h : Hit). b ≤ h.cost) (λ (h : Hit). bound ≤ h.cost) (λ h q. omega arith) (below opens level page) h
  item_ahead bound (Place hit) l h = (l, tt)

  pub items_ahead : (bound : ℕ) (items : List Item) → AllByRecursion (λ (i : Item). bound ≤ bound_of i) items → Bounds opens items → AllByRecursion (IsAhead opens bound) items
  items_ahead bound [] l b = tt
  items_ahead bound (i ∷ items) l b = (item_ahead bound i l.0 b.0.0, items_ahead bound items l.1 b.1)

  -- what items lead to costs more than a bound that theirs are above
  led_later : (most : ℕ) (out : List Item) → AllByRecursion (λ (i : Item). nat_lt most (bound_of i) ≡ true) out → Bounds opens out → AllByRecursion (λ (h : Hit). suc most ≤ h.cost) (leads opens out)
  led_later most out o b =
      let above : AllByRecursion (λ (i : Item). suc most ≤ bound_of i) out = all_weaker (λ (i : Item). nat_lt most (bound_of i) ≡ true) (λ (i : Item). suc most ≤ bound_of i) (λ i h. let q = ltb-true most (bound_of i) h in omega arith) out o in
      flat_all (λ (h : Hit). suc most ≤ h.cost) (reached opens) out (items_ahead (suc most) out above b)

  -- none of the places that items lead to is affordable, where their bounds are above the limit
  over_limit : (limit : Option ℕ) (out : List Item) → AllByRecursion (λ (i : Item). is_over limit (bound_of i) ≡ true) out → Bounds opens out → affordable limit (leads opens out) ≡ []
  over_limit limit [] o b = refl
  over_limit None (i ∷ out) o b = let f = o.0 in absurd (cc)
  over_limit (Some limit) (i ∷ out) o b = none-affordable limit (leads opens (i ∷ out)) (led_later limit (i ∷ out) o b)

  -- what costs more than the kth of those found, or than the limit, isn't among the first k
  cut_keeps : (limit : Option ℕ) (k : ℕ) (now : List Hit) (most : Option ℕ) (out : List Item) → IsRanked comes_before now → length now ≤ k → IsMost limit k now most → AllByRecursion (λ (i : Item). is_over most (bound_of i) ≡ true) out → Bounds opens out
      → first comes_before k (now ++ affordable limit (leads opens out)) ≡ now
  cut_keeps limit k now most [] r l m o b = ap (first comes_before k) (append-nil now) ∙ first_own k now r l
  cut_keeps limit k now None (i ∷ out) r l m o b = let f = o.0 in absurd (cc)
  cut_keeps limit k now (Some most) (i ∷ out) r l (inl same) o b =
      ap (λ x. first comes_before k (now ++ x)) (over_limit limit (i ∷ out) (subst (λ (m : Option ℕ). AllByRecursion (λ (i : Item). is_over m (bound_of i) ≡ true) (i ∷ out)) same o) b)
      ∙ ap (first comes_before k) (append-nil now) ∙ first_own k now r l
  cut_keeps limit k now (Some most) (i ∷ out) r l (inr m) o b =
      let later : AllByRecursion (λ (h : Hit). suc most ≤ h.cost) (affordable limit (leads opens (i ∷ out))) = all-affordable (λ (h : Hit). suc most ≤ h.cost) limit (leads opens (i ∷ out)) (led_later most (i ∷ out) o b) in
      first_front k now (affordable limit (leads opens (i ∷ out))) r m.0
      (all_weaker (λ (h : Hit). h.cost ≤ most) (λ (h : Hit). AllByRecursion (λ y. comes_before y h ≡ false) (affordable limit (leads opens (i ∷ out))))
      (λ h q. all_weaker (λ (y : Hit). suc most ≤ y.cost) (λ y. comes_before y h ≡ false) (λ y z. below_cost h y (omega arith)) (affordable limit (leads opens (i ∷ out))) later) now m.1)

  -- a node is opened
  pub node_next : (total : List Hit) (limit : Option ℕ) (k page level bound : ℕ) (all items out old rest new : List Item) (most : Option ℕ) (now found : List Hit) → Searching total limit k now old → IsNext (Node page level bound) rest old → all ≡ opens page level → AllByRecursion (IsGivenAt level) all
      → IsPermutation all (items ++ out) → AllByRecursion (λ (i : Item). is_over most (bound_of i) ≡ true) out → IsMost limit k now most → IsRanked comes_before now → length now ≤ k
      → IsPermutation (nodes_of items ++ rest) new → found ≡ first comes_before k (now ++ affordable limit (places_of items)) → Searching total limit k found new
  node_next total limit k page level bound all items out old rest new most now found s n o g parts over m r l p f =
      let node = Node page level bound in
      let given : AllByRecursion (IsGivenAt level) (opens page level) = subst (AllByRecursion (IsGivenAt level)) o g in
      let under : below opens level page ≡ leads opens all = below_leads level page given ∙ ap (leads opens) (sym o) in
      let bounds : Bounds opens (node ∷ rest) = all_moved Sound old (node ∷ rest) n.members s.bounds in
      let sound : Bounds opens all = subst (Bounds opens) (sym o) (opened_sound level page given bounds.0.1) in
      let each = all_parts Sound items out (all_moved Sound all (items ++ out) parts sound) in
      let dear : first comes_before k (now ++ affordable limit (leads opens out)) ≡ now = cut_keeps limit k now most out r l m over each.1 in
      let moved : SameMembers (now ++ affordable limit (leads opens old)) ((now ++ affordable limit (leads opens out)) ++ (affordable limit (places_of items) ++ affordable limit (leads opens new))) = λ f. all_sums f under in
      record {
        same = s.same ∙ ap (take k) (sym (ranked_same hits_linear (now ++ affordable limit (leads opens old)) ((now ++ affordable limit (leads opens out)) ++ (affordable limit (places_of items) ++ affordable limit (leads opens new))) moved))
            ∙ sym (first_absorbed k (now ++ affordable limit (leads opens out)) (affordable limit (places_of items) ++ affordable limit (leads opens new)))
            ∙ ap (λ x. first comes_before k (x ++ (affordable limit (places_of items) ++ affordable limit (leads opens new)))) dear
            ∙ ap (first comes_before k) (sym (append_assoc now (affordable limit (places_of items)) (affordable limit (leads opens new))))
            ∙ sym (first_absorbed k (now ++ affordable limit (places_of items)) (affordable limit (leads opens new))) ∙ ap (λ x. first comes_before k (x ++ affordable limit (leads opens new))) (sym f);
        bounds = all_moved Sound (nodes_of items ++ rest) new p (all_append Sound (nodes_of items) rest (all_nodes Sound items each.0) bounds.1);
      }
    where
      parted : (f : Hit → ℕ) (xs ys : List Item) → sum_by f (leads opens (xs ++ ys)) ≡ sum_by f (leads opens xs) + sum_by f (leads opens ys)
      parted f xs ys = ap (sum_by f) (flat_map-append (reached opens) xs ys) ∙ sum_by-append f (leads opens xs) (leads opens ys)

      all_sums : (f : Hit → ℕ) → below opens level page ≡ leads opens all
          → sum_by f ((now ++ affordable limit (leads opens out)) ++ (affordable limit (places_of items) ++ affordable limit (leads opens new))) ≡ sum_by f (now ++ affordable limit (leads opens old))
      all_sums f under =
          let w : Hit → ℕ = within limit f in
          let outer : sum_by f ((now ++ affordable limit (leads opens out)) ++ (affordable limit (places_of items) ++ affordable limit (leads opens new))) ≡ (sum_by f now + sum_by f (affordable limit (leads opens out))) + (sum_by f (affordable limit (places_of items)) + sum_by f (affordable limit (leads opens new))) =
          sum_by-append f (now ++ affordable limit (leads opens out)) (affordable limit (places_of items) ++ affordable limit (leads opens new))
          ∙ ap (λ (x : ℕ). x + sum_by f (affordable limit (places_of items) ++ affordable limit (leads opens new))) (sum_by-append f now (affordable limit (leads opens out)))
          ∙ ap (λ (x : ℕ). (sum_by f now + sum_by f (affordable limit (leads opens out))) + x) (sum_by-append f (affordable limit (places_of items)) (affordable limit (leads opens new))) in
          let left_out = affordable-weight limit f (leads opens out) in
          let given = affordable-weight limit f (places_of items) in
          let waiting = affordable-weight limit f (leads opens new) in
          let waited = affordable-weight limit f (leads opens old) in
          let later : sum_by w (leads opens new) ≡ sum_by w (leads opens (nodes_of items)) + sum_by w (leads opens rest) = leads_moved w (nodes_of items ++ rest) new p ∙ parted w (nodes_of items) rest in
          let before : sum_by w (below opens level page) + sum_by w (leads opens rest) ≡ sum_by w (leads opens old) =
          sym (sum_by-append w (below opens level page) (leads opens rest)) ∙ leads_moved w old (Node page level bound ∷ rest) n.members in
          let led : sum_by w (below opens level page) ≡ sum_by w (leads opens items) + sum_by w (leads opens out) = ap (sum_by w) under ∙ sym (leads_moved w all (items ++ out) parts) ∙ parted w items out in
          let inner = sum_by-append f now (affordable limit (leads opens old)) in
          omega (arith, leads_split w items)

  -- what waits leads to no place that costs less than the bound of the next one
  all_later : (page level bound : ℕ) (old rest : List Item) → Bounds opens old → IsNext (Node page level bound) rest old → AllByRecursion (λ (h : Hit). bound ≤ h.cost) (leads opens old)
  all_later page level bound old rest sound n =
      let node = Node page level bound in
      let bounds : Bounds opens (node ∷ rest) = all_moved Sound old (node ∷ rest) n.members sound in
      let later : AllByRecursion (IsAhead opens bound) (node ∷ rest) = (bounds.0.0, items_ahead bound rest n.least bounds.1) in
      flat_all (λ (h : Hit). bound ≤ h.cost) (reached opens) old (all_moved (IsAhead opens bound) (node ∷ rest) old (IsPermutation-sym old (node ∷ rest) n.members) later)

  -- k places cost less than any that waits
  pub enough : (total : List Hit) (limit : Option ℕ) (k page level bound : ℕ) (old rest : List Item) (found : List Hit) → Searching total limit k found old → IsNext (Node page level bound) rest old → IsRanked comes_before found → length found ≤ k → k ≤ cheaper bound found
      → found ≡ first comes_before k (affordable limit total)
  enough total limit k page level bound old rest found s n r l c =
      let later = all-affordable (λ (h : Hit). bound ≤ h.cost) limit (leads opens old) (all_later page level bound old rest s.bounds n) in
      let some = cheaper_some bound found in
      let front = all_cheaper bound found (omega arith) in
      sym (s.same ∙ first_front k found (affordable limit (leads opens old)) r (omega arith) (all_weaker (λ (h : Hit). h.cost < bound) (λ (h : Hit). AllByRecursion (λ y. comes_before y h ≡ false) (affordable limit (leads opens old)))
      (λ h q. all_weaker (λ (y : Hit). bound ≤ y.cost) (λ y. comes_before y h ≡ false) (λ y z. below_cost h y (omega arith)) (affordable limit (leads opens old)) later) found front))

  -- each place that waits costs more than the limit
  pub past_limit : (total : List Hit) (limit : Option ℕ) (k page level bound : ℕ) (old rest : List Item) (found : List Hit) → Searching total limit k found old → IsNext (Node page level bound) rest old → IsRanked comes_before found → length found ≤ k → is_over limit bound ≡ true
      → found ≡ first comes_before k (affordable limit total)
  past_limit total None k page level bound old rest found s n r l over = absurd (cc)
  past_limit total (Some limit) k page level bound old rest found s n r l over =
      let above = ltb-true limit bound over in
      let later = all_weaker (λ (h : Hit). bound ≤ h.cost) (λ (h : Hit). limit < h.cost) (λ h q. omega arith) (leads opens old) (all_later page level bound old rest s.bounds n) in
      sym (s.same ∙ ap (λ x. first comes_before k (found ++ x)) (none-affordable limit (leads opens old) later) ∙ ap (first comes_before k) (append-nil found) ∙ first_own k found r l)

-- how much work a waiting item is, at most
abbrev pub node_weight : ℕ → ℕ
node_weight zero = 1
node_weight (suc l) = 1 + 32 * node_weight l

abbrev pub weight : Item → ℕ
weight (Node page level bound) = node_weight level
weight (Place hit) = 0

abbrev pub work : List Item → ℕ
work items = sum_by weight items

abbrev pub child_weight : ℕ → ℕ
child_weight zero = 0
child_weight (suc l) = node_weight l

node_is : (level : ℕ) → node_weight level ≡ 1 + 32 * child_weight level
node_is zero = refl
node_is (suc l) = refl

children_light : (level : ℕ) (items : List Item) → AllByRecursion (IsGivenAt level) items → work (nodes_of items) ≤ length items * child_weight level
children_light level [] g = omega arith
children_light zero (Node page l bound ∷ items) g = absurd g.0
children_light (suc level) (Node page l bound ∷ items) g = omega (arith, sum_by-cons weight (Node page l bound) (nodes_of items), ap node_weight g.0, children_light (suc level) items g.1)
children_light level (Place hit ∷ items) g = omega (arith, children_light level items g.1)

pub mul_le : (a b m : ℕ) → a ≤ b → a * m ≤ b * m
mul_le a b m q = grind arith

-- an opened node leaves less work
pub node_smaller : (page level bound : ℕ) (items old rest new : List Item) → IsNext (Node page level bound) rest old → length items ≤ 32 → AllByRecursion (IsGivenAt level) items → IsPermutation (nodes_of items ++ rest) new → work new < work old
node_smaller page level bound items old rest new n f g p =
    let node = Node page level bound in
    let a = sum_by-IsPermutation weight old (node ∷ rest) n.members in
    let b = sum_by-cons weight node rest in
    let d = sum_by-IsPermutation weight (nodes_of items ++ rest) new p in
    let e = sum_by-append weight (nodes_of items) rest in
    let c = children_light level items g in
    let m = mul_le (length items) 32 (child_weight level) f in
    omega (arith, node_is level)
