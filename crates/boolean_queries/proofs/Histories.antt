-- What a walk has opened so far, step by step.
use Rattle.std.proofs.Common.{◌≡◌, ◌⊎◌, ℕ, zero, suc, ◌<◌, List, [], ◌∷◌, ◌++◌, length, refl, sym, ap, subst, ◌∙◌, arith, ⊎_elim, inl, inr, IsPermutation}
use Rattle.std.specs.Prelude.{◌≢◌}
use Rattle.std.specs.List.{AllByRecursion, Contains}
use Rattle.std.proofs.lemmas.List.{append-nil}
use Rattle.std.proofs.lemmas.List.Elements.{Contains-append_left, Contains-append_right, Contains-append_cases, All-from_recursion}
use Rattle.page_face.specs.FreeList.{PageMap}
use Rattle.page_face.specs.declared.fault.Rule.TheVariants.{Level}
use Rattle.page_face.specs.declared.fault.Damage.{Damage}
use Rattle.btree_nodes.specs.Damages.{AskedSince}
use Rattle.place_values.specs.declared.hit.Hit.{Hit}
use Rattle.rtree_nodes.specs.Slots.{IsChildAt}
use Rattle.rtree_nodes.proofs.Heights.{none_or}
use Rattle.rtree_nodes.specs.Pages.{level_in, stored_in}
use Rattle.rtree_nodes.specs.Harms.{BreaksAlone, BreaksPlace, IfReadable, IsMislevelled, HasWrongLevel, IsHarm}
use Rattle.best_first.specs.declared.item.Item.{Item}
use Rattle.best_first.specs.declared.item.Item.TheVariants.{Node, Place}
use Rattle.best_first.specs.Items.{nodes_of, places_of, IsGivenAt}
use Rattle.best_first.specs.Openings.{Opening, pages_opened, given_by, IsFromLeaf}
use Rattle.best_first.specs.Lists.{all_weaker, all_append, all_parts, all_in, all_moved}
use Rattle.best_first.specs.Logs.{asked_sooner, asked_before}
use Rattle.best_first.proofs.Steps.{all_nodes}
use Rattle.best_first.proofs.Histories.{contains_head as contains-head, places_from as places-from}
use Rattle.boolean_queries.specs.declared.region.Region.{Region}
use Rattle.boolean_queries.specs.Walked.{Stands, AsksFor, Walked}
use Rattle.node_rows.specs.Damages.{IsRowsDamage}
use Rattle.boolean_queries.specs.Harms.{IsNodeHarm, IsQueryHarm}
use Rattle.boolean_queries.proofs.Logs.{asks-wider, asks-then}

-- what holds of all holds of one among them
pub all-contained : {X : Type 0} (P : X → Type 0) (xs : List X) (x : X) → AllByRecursion P xs → Contains xs x → P x
all-contained P xs x h c = subst P c.2 (All-from_recursion P xs h c.0 x c.1)

-- the page and the level of a node
abbrev page-in : Item → ℕ
page-in (Node page level bound) = page
page-in (Place hit) = 0

abbrev level-in : Item → ℕ
level-in (Node page level bound) = level
level-in (Place hit) = 0

module _ (region : Region) (pages : PageMap) (mine : ℕ → ℕ) (fits : Type 0) (opens : ℕ → ℕ → List Item) (root root_level : ℕ) where
  -- what is told of the openings so far, and of what waits: it was given
  pub record Underway (old_log new_log : List ℕ) (found : List Hit) (queue : List Item) : Type 0 where
    pub told : Walked region pages mine fits opens (Node root root_level 0 ∷ []) root old_log new_log found
    pub start_is : told.start ≡ Node root root_level 0 ∷ []
    pub queued : AllByRecursion (Contains (given_by told.start told.openings)) queue

  pub begun : (queue : List Item) (found : List Hit) (log : List ℕ) → found ≡ [] → queue ≡ Node root root_level 0 ∷ [] → Underway log log found queue
  begun queue found log n q = record {
    told = record {
      start = Node root root_level 0 ∷ [];
      alone = refl;
      begun = λ f. refl;
      openings = [];
      trail = tt;
      stood = tt;
      children = tt;
      gave = λ f. tt;
      read = tt;
      log = record { more = []; log = sym (append-nil log); alone = tt };
      from_leaf = rw n tt;
    };
    start_is = refl;
    queued = rw q (contains-head (Node root root_level 0) [], tt);
  }

  module _ (old mid new : List ℕ) (page level bound : ℕ) (items queue rest next : List Item) (now found : List Hit) where
    -- a node is opened
    pub opened : queue ≡ rest ++ Node page level bound ∷ [] → next ≡ rest ++ nodes_of items → found ≡ now ++ places_of items → AsksFor (page ∷ []) mine mid new → AskedSince mid new page
        → AllByRecursion (Stands region (pages page) level) items → AllByRecursion (IsGivenAt level) items → (fits → items ≡ opens page level) → Underway old mid now queue → Underway old new found next
    opened q n p a since st g o u =
        let t = u.told in
        let node = Node page level bound in
        let before = given_by t.start t.openings in
        let one : Opening = record { page = page; level = level; bound = bound; items = items } in
        let all = one ∷ t.openings in
        let ps = pages_opened t.openings in
        let parts = all_parts (Contains before) rest (node ∷ []) (subst (AllByRecursion (Contains before)) q u.queued) in
        record {
          told = record {
            start = t.start;
            alone = t.alone;
            begun = t.begun;
            openings = all;
            trail = (parts.1.0, t.trail);
            stood = (st, t.stood);
            children = (g, t.children);
            gave = λ w. (o w, t.gave w);
            read = (asked_sooner old t.log.more new page (subst (λ x. AskedSince x new page) t.log.log since), all_weaker (λ (o : Opening). AskedSince old mid o.page) (λ (o : Opening). AskedSince old new o.page) (λ o h. asked_before old mid a.more new o.page h a.log) t.openings t.read);
            log = asks-then (root ∷ page ∷ ps) mine old mid new
                (asks-wider (root ∷ ps) (root ∷ page ∷ ps) mine old mid (λ z h. ⊎_elim (λ (h : Contains (root ∷ []) z). Contains-append_left (root ∷ []) (page ∷ ps) z h) (λ (h : Contains ps z). Contains-append_right (root ∷ page ∷ []) ps z h) (Contains-append_cases (root ∷ []) ps z h)) t.log)
                (asks-wider (page ∷ []) (root ∷ page ∷ ps) mine mid new (λ z h. Contains-append_right (root ∷ []) (page ∷ ps) z (Contains-append_left (page ∷ []) ps z h)) a);
            from_leaf = rw p (all_append (IsFromLeaf all) now (places_of items)
                (all_weaker (IsFromLeaf t.openings) (IsFromLeaf all) (λ h l. record { leaf = l.leaf; among = Contains-append_right (one ∷ []) t.openings l.leaf l.among; level = l.level; gave = l.gave }) now t.from_leaf)
                (all_weaker (λ (h : Hit). (level ≡ 0) × Contains items (Place h)) (IsFromLeaf all) (λ h l. record { leaf = one; among = contains-head one t.openings; level = l.0; gave = l.1 }) (places_of items) (places-from items level items g (all_in items))));
          };
          start_is = u.start_is;
          queued = rw n (all_append (Contains (items ++ before)) rest (nodes_of items)
              (all_weaker (Contains before) (Contains (items ++ before)) (λ i h. Contains-append_right items before i h) rest parts.0)
              (all_nodes opens (Contains (items ++ before)) items (all_weaker (Contains items) (Contains (items ++ before)) (λ i h. Contains-append_left items before i h) items (all_in items))));
        }

  -- the opening that gave a node
  record IsSource (old new : List ℕ) (item : Item) : Type 0 where
    pub opening : Opening
    pub stood : Stands region (pages opening.page) opening.level item
    pub child : IsGivenAt opening.level item
    pub read : AskedSince old new opening.page

  source : (old new : List ℕ) (start : List Item) (item : Item) (openings : List Opening) → AllByRecursion (λ (o : Opening). AllByRecursion (Stands region (pages o.page) o.level) o.items) openings
      → AllByRecursion (λ (o : Opening). AllByRecursion (IsGivenAt o.level) o.items) openings → AllByRecursion (λ (o : Opening). AskedSince old new o.page) openings
      → Contains (given_by start openings) item → Contains start item ⊎ IsSource old new item
  source old new start item [] st g r c = inl c
  source old new start item (o ∷ older) st g r c = ⊎_elim
      (λ (here : Contains o.items item).
      inr (record { opening = o; stood = all-contained (Stands region (pages o.page) o.level) o.items item st.0 here; child = all-contained (IsGivenAt o.level) o.items item g.0 here; read = r.0 }))
      (λ (older_one : Contains (given_by start older) item). source old new start item older st.1 g.1 r.1 older_one)
      (Contains-append_cases o.items (given_by start older) item c)

  -- what stands in the bytes of a page one level above
  record IsNamed (bytes : List ℕ) (page level : ℕ) : Type 0 where
    pub at : ℕ
    pub child : IsChildAt (stored_in bytes) at page
    pub level_is : level_in bytes ≡ suc level

  named-by : (bytes : List ℕ) (above page level bound : ℕ) → 0 < length bytes → IsGivenAt above (Node page level bound) → Stands region bytes above (Node page level bound) → IsNamed bytes page level
  named-by bytes zero page level bound some g st = absurd g
  named-by bytes (suc l) page level bound some g st =
      let s = st some in
      record {
        at = s.at;
        child = record { item = s.slot; is = s.is; to_is = sym (ap page-in s.item_is) };
        level_is = s.level_is ∙ ap suc (sym g);
      }

  -- a child of an opened node that isn't of its level
  mislevelled : (old new : List ℕ) (page level bound : ℕ) → IfReadable pages page (λ bytes. level_in bytes ≢ level) → IsSource old new (Node page level bound) → IsMislevelled pages old new page
  mislevelled old new page level bound wrong s = ⊎_elim
      (λ (none : length (pages s.opening.page) ≡ 0).
      record { parent = s.opening.page; at = 0; asked = s.read; names = λ some. absurd (omega arith); level = λ some there. absurd (omega arith) })
      (λ (some : 0 < length (pages s.opening.page)).
      let n = named-by (pages s.opening.page) s.opening.level page level bound some s.child s.stood in
      record {
        parent = s.opening.page;
        at = n.at;
        asked = s.read;
        names = λ told. n.child;
        level = λ told there e. let k = n.level_is in wrong there (omega arith);
      })
      (none_or (length (pages s.opening.page)))

  -- the root, looked at as of another level than it was found to have
  misread : (page level bound : ℕ) → IfReadable pages root (λ bytes. level_in bytes ≡ root_level) → IfReadable pages page (λ bytes. level_in bytes ≢ level) → Node page level bound ≡ Node root root_level 0 → IfReadable pages page (λ bytes. 9 < level_in bytes)
  misread page level bound right wrong e some =
      let p : page ≡ root = ap page-in e in
      let l : level ≡ root_level = ap level-in e in
      absurd (wrong some (subst (λ (n : ℕ). IfReadable pages n (λ bytes. level_in bytes ≡ root_level)) (sym p) right some ∙ sym l))

  module _ (rows count : ℕ) (old mid new : List ℕ) (page level bound : ℕ) (queue rest : List Item) (found : List Hit) (damage : Damage) where
    wrong-level : IfReadable pages root (λ bytes. level_in bytes ≡ root_level) → Contains queue (Node page level bound) → AskedSince mid new page → IfReadable pages page (λ bytes. level_in bytes ≢ level) → Underway old mid found queue → HasWrongLevel pages root old new page
    wrong-level right among a wrong u =
        let t = u.told in
        let item = Node page level bound in
        let more = a.front ++ (page ∷ a.back) in
        let read = all_weaker (λ (o : Opening). AskedSince old mid o.page) (λ (o : Opening). AskedSince old new o.page) (λ o h. asked_before old mid more new o.page h a.is) t.openings t.read in
        ⊎_elim
        (λ (first : Contains t.start item).
        let e : item ≡ Node root root_level 0 = all-contained (λ i. i ≡ Node root root_level 0) (Node root root_level 0 ∷ []) item (refl, tt) (subst (λ (l : List Item). Contains l item) u.start_is first) in
        inl (ap page-in e, misread page level bound right wrong e))
        (λ (s : IsSource old new item). inr (mislevelled old new page level bound wrong s))
        (source old new t.start item t.openings t.stood t.children read (all-contained (Contains (given_by t.start t.openings)) queue item u.queued among))

    -- the damage of a node that waited
    pub harm-node : queue ≡ rest ++ Node page level bound ∷ [] → IfReadable pages root (λ bytes. level_in bytes ≡ root_level) → IsNodeHarm pages count rows level page mid new damage → Underway old mid found queue → IsQueryHarm pages count rows root old new damage
    harm-node q right h u =
        let more = u.told.log.more in
        let log = u.told.log.log in
        let among : Contains queue (Node page level bound) = subst (λ (l : List Item). Contains l (Node page level bound)) (sym q) (Contains-append_right rest (Node page level bound ∷ []) (Node page level bound) (contains-head (Node page level bound) [])) in
        ⊎_elim
        (λ (d : (damage.page ≡ page) × AskedSince mid new page × BreaksPlace damage.rule pages count page (λ found. found ≢ level)).
        let same : page ≡ damage.page = sym d.0 in
        let asked : AskedSince old new page = asked_sooner old more new page (subst (λ (l : List ℕ). AskedSince l new page) log d.1) in
        inl (record {
          asked = subst (λ (n : ℕ). AskedSince old new n) same asked;
          breaks = subst (λ (n : ℕ). BreaksAlone damage.rule pages count n ⊎ ((damage.rule ≡ Level) × HasWrongLevel pages root old new n)) same
              (⊎_elim (λ (alone : BreaksAlone damage.rule pages count page). inl alone) (λ (at_level : (damage.rule ≡ Level) × IfReadable pages page (λ bytes. level_in bytes ≢ level)). inr (at_level.0, wrong-level right among d.1 at_level.1 u)) d.2);
        }))
        (λ (m : IsRowsDamage pages count rows mid new damage). inr (m.0, asked_sooner old more new damage.page (subst (λ (l : List ℕ). AskedSince l new damage.page) log m.1)))
        h

-- nothing was opened, and nothing found
pub walked-empty : (region : Region) (pages : PageMap) (mine : ℕ → ℕ) (fits : Type 0) (opens : ℕ → ℕ → List Item) (starts : List Item) (root : ℕ) (log : List ℕ) (found : List Hit) → starts ≡ [] → found ≡ [] → Walked region pages mine fits opens starts root log log found
walked-empty region pages mine fits opens starts root log found e n = record {
  start = [];
  alone = tt;
  begun = λ f. sym e;
  openings = [];
  trail = tt;
  stood = tt;
  children = tt;
  gave = λ f. tt;
  read = tt;
  log = record { more = []; log = sym (append-nil log); alone = tt };
  from_leaf = rw n tt;
}

-- a walk behind the look at its root, with the hits in another order
pub walked-whole : (region : Region) (pages : PageMap) (mine : ℕ → ℕ) (good fits : Type 0) (opens : ℕ → ℕ → List Item) (first starts : List Item) (root : ℕ) (old mid new : List ℕ) (found sorted : List Hit)
    → (fits → good) → (fits → first ≡ starts) → AsksFor (root ∷ []) mine old mid → IsPermutation found sorted → Walked region pages mine good opens first root mid new found → Walked region pages mine fits opens starts root old new sorted
walked-whole region pages mine good fits opens first starts root old mid new found sorted to e a p w =
    let ps = pages_opened w.openings in
    record {
      start = w.start;
      alone = w.alone;
      begun = λ f. w.begun (to f) ∙ e f;
      openings = w.openings;
      trail = w.trail;
      stood = w.stood;
      children = w.children;
      gave = λ f. w.gave (to f);
      read = all_weaker (λ (o : Opening). AskedSince mid new o.page) (λ (o : Opening). AskedSince old new o.page) (λ o h. asked_sooner old a.more new o.page (subst (λ (l : List ℕ). AskedSince l new o.page) a.log h)) w.openings w.read;
      log = asks-then (root ∷ ps) mine old mid new (asks-wider (root ∷ []) (root ∷ ps) mine old mid (λ z h. Contains-append_left (root ∷ []) ps z h) a) w.log;
      from_leaf = all_moved (IsFromLeaf w.openings) found sorted p w.from_leaf;
    }

-- what is asked for in the last call is asked for in all
pub harm-sooner : (pages : PageMap) (count rows root : ℕ) (old more mid new : List ℕ) (damage : Damage) → mid ≡ old ++ more → IsQueryHarm pages count rows root mid new damage → IsQueryHarm pages count rows root old new damage
harm-sooner pages count rows root old more mid new damage e h =
    let sooner : (n : ℕ) → AskedSince mid new n → AskedSince old new n = λ n a. asked_sooner old more new n (subst (λ (l : List ℕ). AskedSince l new n) e a) in
    ⊎_elim
    (λ (harm : IsHarm pages count root mid new damage).
    inl (record {
      asked = sooner damage.page harm.asked;
      breaks = ⊎_elim (λ (alone : BreaksAlone damage.rule pages count damage.page). inl alone)
          (λ (at_level : (damage.rule ≡ Level) × HasWrongLevel pages root mid new damage.page).
          inr (
            at_level.0,
            ⊎_elim (λ (first : (damage.page ≡ root) × IfReadable pages damage.page (λ bytes. 9 < level_in bytes)). inl first)
                (λ (m : IsMislevelled pages mid new damage.page). inr (record { parent = m.parent; at = m.at; asked = sooner m.parent m.asked; names = m.names; level = m.level })) at_level.1,
          )) harm.breaks;
    }))
    (λ (m : IsRowsDamage pages count rows mid new damage). inr (m.0, sooner damage.page m.1))
    h
