-- What a search has opened so far, step by step.
use Rattle.std.proofs.Common.{◌≡◌, ℕ, zero, suc, ◌<◌, ◌≤◌, List, [], ◌∷◌, ◌++◌, refl, sym, ap, subst, ◌∙◌, arith, Option, ⊎_elim, IsPermutation}
use Rattle.std.specs.List.{AllByRecursion, Contains}
use Rattle.std.proofs.lemmas.List.{append-nil}
use Rattle.std.proofs.lemmas.List.Elements.{Contains-append_left, Contains-append_right, Contains-append_cases}
use Rattle.page_face.specs.FreeList.{PageMap}
use Rattle.btree_nodes.specs.Damages.{AskedSince}
use Rattle.place_values.specs.First.{first, IsRanked}
use Rattle.place_values.specs.declared.hit.Hit.{Hit}
use Rattle.place_values.specs.Hit.{comes_before}
use Rattle.best_first.specs.declared.item.Item.{Item}
use Rattle.best_first.specs.declared.item.Item.TheVariants.{Node, Place}
use Rattle.best_first.specs.Items.{nodes_of, places_of, pages_of, IsGivenAt, IsRootAlone}
use Rattle.best_first.specs.Leads.{below, reached, leads, IsAhead, Bounds, IsBound, BoundsBelow}
use Rattle.best_first.specs.Queue.{IsNext}
use Rattle.best_first.specs.Cuts.{affordable}
use Rattle.best_first.specs.Openings.{AsksNodes, Opening, pages_opened, given_by, IsFromLeaf, Told, last_cost, cheaper, Opened}
use Rattle.best_first.specs.Lists.{all_weaker, all_append, all_parts, all_flat, all_moved, all_in}
use Rattle.best_first.proofs.CostLaws.{cheaper_kept, last_above}
use Rattle.best_first.proofs.Firsts.{all_first}
use Rattle.best_first.proofs.Limits.{all-affordable}
use Rattle.best_first.proofs.Steps.{Searching, below_leads, all_nodes, all_places, items_ahead}
use Rattle.best_first.specs.Logs.{asked_sooner, asked_before, asks_wider, asks_then}

-- a list contains its head
pub contains_head : {X : Type 0} (x : X) (xs : List X) → Contains (x ∷ xs) x
contains_head x xs = (all_in (x ∷ xs)).0

-- each place among a leaf's items is from that leaf
pub places_from : (all : List Item) (level : ℕ) (items : List Item) → AllByRecursion (IsGivenAt level) items → AllByRecursion (Contains all) items → AllByRecursion (λ (h : Hit). (level ≡ 0) × Contains all (Place h)) (places_of items)
places_from all level [] g c = tt
places_from all zero (Node page l bound ∷ items) g c = absurd g.0
places_from all (suc level) (Node page l bound ∷ items) g c = places_from all (suc level) items g.1 c.1
places_from all zero (Place hit ∷ items) g c = ((refl, c.0), places_from all zero items g.1 c.1)
places_from all (suc level) (Place hit ∷ items) g c = absurd g.0

-- what starts with a root alone gives no place
root_places : (root : ℕ) (items : List Item) → IsRootAlone root items → places_of items ≡ []
root_places root [] r = refl
root_places root (Node page level bound ∷ []) r = refl
root_places root (Node page level bound ∷ i ∷ items) r = absurd r
root_places root (Place hit ∷ items) r = absurd r

module _ (stands : List ℕ → ℕ → Item → Type 0) (pages : PageMap) (is_node : ℕ → Type 0) (fits : Type 0) (opens : ℕ → ℕ → List Item) (starts : List Item) (root : ℕ) where
  -- What is told of the openings so far, and of what waits: it was given, no place that it leads to costs less than the bound of a
  -- node opened before, and fewer than k places found cost less than that.
  pub record Underway (old_log new_log : List ℕ) (k : ℕ) (found : List Hit) (queue : List Item) : Type 0 where
    pub told : Told stands pages is_node fits opens starts root old_log new_log found
    pub queued : AllByRecursion (Contains (given_by told.start told.openings)) queue
    pub ahead : fits → AllByRecursion (λ (o : Opening). AllByRecursion (IsAhead opens o.bound) queue) told.openings
    pub fewer : fits → AllByRecursion (λ (o : Opening). cheaper o.bound found < k) told.openings

  pub begun : (items empty queue : List Item) (none found : List Hit) (old new : List ℕ) (limit : Option ℕ) (k : ℕ) → empty ≡ [] → none ≡ [] → IsPermutation (nodes_of items ++ empty) queue → found ≡ first comes_before k (none ++ affordable limit (places_of items)) → IsRootAlone root items → (fits → items ≡ starts) → AsksNodes is_node (root ∷ []) old new → (fits → AsksNodes is_node (pages_of items) old new) → Underway old new k found queue
  begun items empty queue none found old new limit k e n p f r b a g =
      let q : IsPermutation (nodes_of items) queue = subst (λ x. IsPermutation x queue) (ap (λ x. nodes_of items ++ x) e ∙ append-nil (nodes_of items)) p in
      let h : found ≡ first comes_before k [] = f ∙ ap (λ x. first comes_before k (x ++ affordable limit (places_of items))) n ∙ ap (λ x. first comes_before k (affordable limit x)) (root_places root items r) in
      record {
        told = record {
          start = items;
          alone = r;
          begun = b;
          openings = [];
          trail = tt;
          stood = tt;
          children = tt;
          gave = λ _. tt;
          read = tt;
          log = a;
          log_given = λ t. asks_wider is_node (pages_of items) (pages_of items ++ []) old new (λ page c. Contains-append_left (pages_of items) [] page c) (g t);
          from_leaf = rw h (all_first (IsFromLeaf []) k [] tt);
        };
        queued = all_moved (Contains items) (nodes_of items) queue q (all_nodes opens (Contains items) items (all_in items));
        ahead = λ _. tt;
        fewer = λ _. tt;
      }

  module _ (old mid new : List ℕ) (limit : Option ℕ) (k page level bound : ℕ) (all items out queue rest next : List Item) (now found : List Hit) (total : List Hit) where
    -- a node is opened
    pub opened : cheaper bound now < k → IsNext (Node page level bound) rest queue → IsPermutation (nodes_of items ++ rest) next → found ≡ first comes_before k (now ++ affordable limit (places_of items)) → AsksNodes is_node (page ∷ []) mid new → AskedSince mid new page → AllByRecursion (stands (pages page) level) all → AllByRecursion (IsGivenAt level) all → (fits → all ≡ opens page level) → IsPermutation all (items ++ out) → (fits → Searching opens total limit k now queue) → Underway old mid k now queue → Underway old new k found next
    opened few n p f a since st g o parts se u =
        let t = u.told in
        let node = Node page level bound in
        let before = given_by t.start t.openings in
        let one : Opening = record { page = page; level = level; bound = bound; items = all } in
        let some = one ∷ t.openings in
        -- what holds of all holds of those that were given
        let part : (P : Item → Type 0) → AllByRecursion P all → AllByRecursion P items = λ P h. (all_parts P items out (all_moved P all (items ++ out) parts h)).0 in
        let ps = pages_opened t.openings in
        let q = all_moved (Contains before) queue (node ∷ rest) n.members u.queued in
        let bounds : fits → Bounds opens (node ∷ rest) = λ w. all_moved (λ (i : Item). IsBound opens i × BoundsBelow opens i) queue (node ∷ rest) n.members (se w).bounds in
        let under : fits → below opens level page ≡ leads opens all = λ w. below_leads opens level page (subst (AllByRecursion (IsGivenAt level)) (o w) g) ∙ ap (leads opens) (sym (o w)) in
        -- none of the items leads to a place that costs less than a bound that the node is ahead of
        let items_above : fits → (b : ℕ) → AllByRecursion (λ (h : Hit). b ≤ h.cost) (below opens level page) → AllByRecursion (IsAhead opens b) items = λ w b h. part (IsAhead opens b) (all_flat (λ (h : Hit). b ≤ h.cost) (reached opens) all (subst (AllByRecursion (λ (h : Hit). b ≤ h.cost)) (under w) h)) in
        let next_above : (b : ℕ) → AllByRecursion (IsAhead opens b) items → AllByRecursion (IsAhead opens b) rest → AllByRecursion (IsAhead opens b) next = λ b h r. all_moved (IsAhead opens b) (nodes_of items ++ rest) next p (all_append (IsAhead opens b) (nodes_of items) rest (all_nodes opens (IsAhead opens b) items h) r) in
        let still : (b : ℕ) → cheaper b now < k → AllByRecursion (IsAhead opens b) items → cheaper b found < k = λ b c h. let z = cheaper_kept b k now (affordable limit (places_of items)) (all-affordable (λ (h : Hit). b ≤ h.cost) limit (places_of items) (all_places opens (λ (h : Hit). b ≤ h.cost) items h)) in let y : cheaper b found ≡ cheaper b (first comes_before k (now ++ affordable limit (places_of items))) = ap (cheaper b) f in omega arith in
        record {
          told = record {
            start = t.start;
            alone = t.alone;
            begun = t.begun;
            openings = some;
            trail = (q.0, t.trail);
            stood = (st, t.stood);
            children = (g, t.children);
            gave = λ w. (o w, t.gave w);
            read = (asked_sooner old t.log.more new page (subst (λ x. AskedSince x new page) t.log.log since), all_weaker (λ (o : Opening). AskedSince old mid o.page) (λ (o : Opening). AskedSince old new o.page) (λ o h. asked_before old mid a.more new o.page h a.log) t.openings t.read);
            log = more_logged (root ∷ []) ps t.log a;
            log_given = λ w. more_logged (pages_of t.start) ps (t.log_given w) a;
            from_leaf = rw f (all_first (IsFromLeaf some) k (now ++ affordable limit (places_of items)) (all_append (IsFromLeaf some) now (affordable limit (places_of items))
                (all_weaker (IsFromLeaf t.openings) (IsFromLeaf some) (λ h l. record { leaf = l.leaf; among = Contains-append_right (one ∷ []) t.openings l.leaf l.among; level = l.level; gave = l.gave }) now t.from_leaf)
                (all-affordable (IsFromLeaf some) limit (places_of items) (all_weaker (λ (h : Hit). (level ≡ 0) × Contains all (Place h)) (IsFromLeaf some) (λ h l. record { leaf = one; among = contains_head one t.openings; level = l.0; gave = l.1 }) (places_of items) (places_from all level items (part (IsGivenAt level) g) (part (Contains all) (all_in all)))))));
          };
          queued = all_moved (Contains (all ++ before)) (nodes_of items ++ rest) next p (all_append (Contains (all ++ before)) (nodes_of items) rest
              (all_nodes opens (Contains (all ++ before)) items (all_weaker (Contains all) (Contains (all ++ before)) (λ i h. Contains-append_left all before i h) items (part (Contains all) (all_in all))))
              (all_weaker (Contains before) (Contains (all ++ before)) (λ i h. Contains-append_right all before i h) rest q.1));
          ahead = λ w. (
            next_above bound (items_above w bound (bounds w).0.0) (items_ahead opens bound rest n.least (bounds w).1),
            all_weaker (λ (o : Opening). AllByRecursion (IsAhead opens o.bound) queue) (λ (o : Opening). AllByRecursion (IsAhead opens o.bound) next) (λ o h. let r = all_moved (IsAhead opens o.bound) queue (node ∷ rest) n.members h in next_above o.bound (items_above w o.bound r.0) r.1) t.openings (u.ahead w),
          );
          fewer = λ w. (
            still bound few (items_above w bound (bounds w).0.0),
            both (λ (o : Opening). AllByRecursion (IsAhead opens o.bound) queue) (λ (o : Opening). cheaper o.bound now < k) (λ (o : Opening). cheaper o.bound found < k) (λ o h c. still o.bound c (items_above w o.bound (all_moved (IsAhead opens o.bound) queue (node ∷ rest) n.members h).0)) t.openings (u.ahead w) (u.fewer w),
          );
        }
      where
        both : (P Q R : Opening → Type 0) → ((o : Opening) → P o → Q o → R o) → (os : List Opening) → AllByRecursion P os → AllByRecursion Q os → AllByRecursion R os
        both P Q R f [] p q = tt
        both P Q R f (o ∷ os) p q = (f o p.0 q.0, both P Q R f os p.1 q.1)

        more_logged : (front ps : List ℕ) → AsksNodes is_node (front ++ ps) old mid → AsksNodes is_node (page ∷ []) mid new → AsksNodes is_node (front ++ page ∷ ps) old new
        more_logged front ps l a = asks_then is_node (front ++ page ∷ ps) old mid new
            (asks_wider is_node (front ++ ps) (front ++ page ∷ ps) old mid (λ z h. ⊎_elim (λ (h : Contains front z). Contains-append_left front (page ∷ ps) z h) (λ (h : Contains ps z). Contains-append_right front (page ∷ ps) z (Contains-append_right (page ∷ []) ps z h)) (Contains-append_cases front ps z h)) l)
            (asks_wider is_node (page ∷ []) (front ++ page ∷ ps) mid new (λ z h. Contains-append_right front (page ∷ ps) z (Contains-append_left (page ∷ []) ps z h)) a)

  -- the search ends
  pub ended : (old new : List ℕ) (k : ℕ) (found : List Hit) (queue : List Item) → IsRanked comes_before found → Underway old new k found queue → Opened stands pages is_node fits opens starts root old new k found
  ended old new k found queue r u = record {
    told = u.told;
    few = λ w l. all_weaker (λ (o : Opening). cheaper o.bound found < k) (λ (o : Opening). o.bound ≤ last_cost found) (λ o c. last_above o.bound found r (omega arith)) u.told.openings (u.fewer w);
  }
