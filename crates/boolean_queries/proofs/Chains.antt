-- Each node that was opened is the root, or the child of one that was opened before.
use Rattle.std.proofs.Common.{◌≡◌, ℕ, zero, suc, ◌<◌, List, [], ◌∷◌, Some, refl, sym, ap, subst, ◌∙◌, arith, ◌⊎◌, inl, inr, ⊎_elim}
use Rattle.std.specs.List.{AllByRecursion, Contains}
use Rattle.std.proofs.lemmas.List.Elements.{Contains-append_right}
use Rattle.btree_nodes.proofs.Supplies.{one_at-same}
use Rattle.rtree_nodes.specs.Slots.{Item, NodeMap, Held, IsChildAt}
use Rattle.rtree_nodes.specs.Trees.{IsItem, node_uses}
use Rattle.rtree_nodes.specs.Subtrees.{IsNodeAt}
use Rattle.rtree_nodes.proofs.Subtrees.{child-node}
use Rattle.irtree_shape.specs.Whole.{IsWell, level_at, tree_uses}
use Rattle.place_values.specs.declared.hit.Hit.{Hit}
use Rattle.place_values.specs.declared.query.Query.{Query}
use Rattle.best_first.specs.declared.item.Item as best
use Rattle.best_first.specs.declared.item.Item.TheVariants.{Node, Place}
use Rattle.best_first.specs.Openings.{Opening, given_by, IsTrail, IsFromLeaf}
use Rattle.best_first.specs.Lists.{all_in, all_weaker, all_append}
use Rattle.node_filter.specs.Entries.{node_places, tree_places}
use Rattle.node_filter.specs.Numbers.{Numbers}
use Rattle.boolean_queries.proofs.Subtrees.{well-node}
use Rattle.boolean_queries.specs.BoundingItems.{bounding_item_at}
use Rattle.boolean_queries.specs.Logs.{CallsFor, IsChildOfAsked, IsOpened, IsFromAsked}
use Rattle.boolean_queries.proofs.Histories.{all-contained as of-member}
use Rattle.boolean_queries.proofs.BoundingItems.{child-reach}
use Rattle.boolean_queries.proofs.Belows.{slot-member, child-used}

module _ (nodes : NodeMap) (root : ℕ) (Starts : Type 0) (Admits : Item → ℕ → Type 0) (gives : Item → List Hit) where
  -- a node of a level gives a child with a bound: that of one of its slots, which is let through
  pub record GivesChild (page level to below bound : ℕ) : Type 0 where
    pub up : level ≡ suc below
    pub at : ℕ
    pub within : at < 32
    pub item : Item
    pub is : (nodes page).slots at ≡ Some item
    pub to_is : item.to ≡ to
    pub admitted : Admits item bound

  -- a leaf gives a hit: one of an item in a slot
  pub record GivesHit (page level : ℕ) (hit : Hit) : Type 0 where
    pub leaf : level ≡ 0
    pub at : ℕ
    pub within : at < 32
    pub item : Item
    pub is : (nodes page).slots at ≡ Some item
    pub gave : Contains (gives item) hit

  abbrev pub Gives : ℕ → ℕ → best.Item → Type 0
  Gives page level (Node to below bound) = GivesChild page level to below bound
  Gives page level (Place hit) = GivesHit page level hit

  -- the node was given by one that was opened
  pub record IsFromOpened (openings : List Opening) (page level bound : ℕ) : Type 0 where
    pub parent : Opening
    pub among : Contains openings parent
    pub node : IsNodeAt nodes parent.level parent.page
    pub gave : GivesChild parent.page parent.level page level bound

  -- a well-formed node of the tree: the root, or given by one that was opened
  pub record IsReached (openings : List Opening) (page level bound : ℕ) : Type 0 where
    pub node : IsNodeAt nodes level page
    pub places : (y : Item) → Contains (node_places nodes level page) y → Contains (tree_places nodes root) y
    pub used : (n : ℕ) → 0 < node_uses nodes level page n → 0 < tree_uses nodes root n
    pub from : ((page ≡ root) × Starts) ⊎ IsFromOpened openings page level bound

  abbrev pub AreReached : List Opening → best.Item → Type 0
  AreReached openings (Node page level bound) = IsReached openings page level bound
  AreReached openings (Place hit) = Unit {0}

  -- one more was opened
  reached-later : (o : Opening) (openings : List Opening) (page level bound : ℕ) → IsReached openings page level bound → IsReached (o ∷ openings) page level bound
  reached-later o openings page level bound r = record {
    node = r.node;
    places = r.places;
    used = r.used;
    from = ⊎_elim (λ (e : (page ≡ root) × Starts). inl e)
        (λ (f : IsFromOpened openings page level bound). inr (record { parent = f.parent; among = Contains-append_right (o ∷ []) openings f.parent f.among; node = f.node; gave = f.gave })) r.from;
  }

  item-later : (o : Opening) (openings : List Opening) (i : best.Item) → AreReached openings i → AreReached (o ∷ openings) i
  item-later o openings (Node page level bound) r = reached-later o openings page level bound r
  item-later o openings (Place hit) r = tt

  -- what a node that was opened gives is reached
  item-given : (o : Opening) (openings : List Opening) (i : best.Item) → IsReached openings o.page o.level o.bound → Gives o.page o.level i → AreReached (o ∷ openings) i
  item-given o openings (Place hit) r g = tt
  item-given o openings (Node page level bound) r g =
      let child : IsChildAt (nodes o.page).slots g.at page = record { item = g.item; is = g.is; to_is = g.to_is } in
      let here : node_places nodes level g.item.to ≡ node_places nodes level page = ap (node_places nodes level) g.to_is in
      record {
        node = child-node nodes o.level level o.page g.at page g.up g.within r.node child;
        places = λ y c. r.places y (subst (λ (l : ℕ). Contains (node_places nodes l o.page) y) (sym g.up)
            (slot-member nodes (suc level) o.page g.at g.item y g.within g.is (subst (λ (l : List Item). Contains l y) (sym here) c)));
        used = λ n u. r.used n (subst (λ (l : ℕ). 0 < node_uses nodes l o.page n) (sym g.up)
            (child-used nodes level o.page g.at g.item n g.within g.is (subst (λ (p : ℕ). 0 < node_uses nodes level p n) (sym g.to_is) u)));
        from = inr (record { parent = o; among = (all_in (o ∷ openings)).0; node = r.node; gave = g });
      }

  module _ (opens : ℕ → ℕ → List best.Item) (each : (page level : ℕ) → AllByRecursion (Gives page level) (opens page level)) (start : List best.Item) (begun : AllByRecursion (AreReached []) start) where
    -- each node that was given is reached, and so is each that was opened
    pub all-reached : (openings : List Opening) → IsTrail start openings → AllByRecursion (λ (o : Opening). o.items ≡ opens o.page o.level) openings
        → AllByRecursion (AreReached openings) (given_by start openings) × AllByRecursion (λ (o : Opening). IsReached openings o.page o.level o.bound) openings
    all-reached [] trail gave = (begun, tt)
    all-reached (o ∷ openings) trail gave =
        let r = all-reached openings trail.1 gave.1 in
        let here : IsReached openings o.page o.level o.bound = of-member (AreReached openings) (given_by start openings) (Node o.page o.level o.bound) r.0 trail.0 in
        let items : AllByRecursion (Gives o.page o.level) o.items = subst (AllByRecursion (Gives o.page o.level)) (sym gave.0) (each o.page o.level) in (
          all_append (AreReached (o ∷ openings)) o.items (given_by start openings)
              (all_weaker (Gives o.page o.level) (AreReached (o ∷ openings)) (λ i g. item-given o openings i here g) o.items items)
              (all_weaker (AreReached openings) (AreReached (o ∷ openings)) (item-later o openings) (given_by start openings) r.0),
          (
            reached-later o openings o.page o.level o.bound here,
            all_weaker (λ (p : Opening). IsReached openings p.page p.level p.bound) (λ (p : Opening). IsReached (o ∷ openings) p.page p.level p.bound) (λ p h. reached-later o openings p.page p.level p.bound h) openings r.1,
          ),
        )

  -- the root is
  pub root-reached : (bound : ℕ) → 0 < root → IsWell nodes root → Starts → IsReached [] root (level_at nodes root) bound
  root-reached bound some well starts = record {
    node = well-node nodes root some well;
    places = root-places root some;
    used = root-used root some;
    from = inl (refl, starts);
  }
    where
      root-places : (r : ℕ) → 0 < r → (y : Item) → Contains (node_places nodes (level_at nodes r) r) y → Contains (tree_places nodes r) y
      root-places zero l y c = absurd (omega arith)
      root-places (suc m) l y c = c

      root-used : (r : ℕ) → 0 < r → (n : ℕ) → 0 < node_uses nodes (level_at nodes r) r n → 0 < tree_uses nodes r n
      root-used zero l n u = absurd (omega arith)
      root-used (suc m) l n u = u

  module _ (openings : List Opening) (asked : List ℕ) (read : AllByRecursion (λ (o : Opening). Contains asked o.page) openings) where
    child-asked : (page level bound : ℕ) → IsNodeAt nodes level page → IsFromOpened openings page level bound → IsChildOfAsked nodes asked page
    child-asked page level bound node f = record {
      parent = f.parent.page;
      among = of-member (λ (o : Opening). Contains asked o.page) openings f.parent read f.among;
      level_is = f.node.level_is ∙ f.gave.up ∙ ap suc (sym node.level_is);
      at = f.gave.at;
      within = f.gave.within;
      child = record { item = f.gave.item; is = f.gave.is; to_is = f.gave.to_is };
    }

    -- a node that is reached, and called for
    pub opened-from : (ids : Numbers) (query : Query) (found : List Hit) (page level bound : ℕ) → IsReached openings page level bound → CallsFor ids query found (page ≡ root) (bounding_item_at nodes page)
        → IsOpened ids query nodes root asked found page
    opened-from ids query found page level bound r calls = record {
      used = r.used page (let s = one_at-same page in omega arith);
      from = ⊎_elim (λ (e : (page ≡ root) × Starts). inl e.0) (λ (f : IsFromOpened openings page level bound). inr (child-asked page level bound r.node f)) r.from;
      called = calls;
    }

    -- a hit of a leaf that was opened
    pub found-from : (opens : ℕ → ℕ → List best.Item) → ((page level : ℕ) → AllByRecursion (Gives page level) (opens page level)) → AllByRecursion (λ (o : Opening). o.items ≡ opens o.page o.level) openings
        → ((o : Opening) → Contains openings o → (nodes o.page).level ≡ o.level) → (hit : Hit) → IsFromLeaf openings hit → IsFromAsked nodes asked gives hit
    found-from opens each gave levels hit from =
        let leaf = from.leaf in
        let is : leaf.items ≡ opens leaf.page leaf.level = of-member (λ (o : Opening). o.items ≡ opens o.page o.level) openings leaf gave from.among in
        let g : GivesHit leaf.page leaf.level hit = of-member (Gives leaf.page leaf.level) leaf.items (Place hit) (subst (AllByRecursion (Gives leaf.page leaf.level)) (sym is) (each leaf.page leaf.level)) from.gave in
        record {
          leaf = leaf.page;
          among = of-member (λ (o : Opening). Contains asked o.page) openings leaf read from.among;
          level_is = levels leaf from.among ∙ from.level;
          at = g.at;
          within = g.within;
          item = g.item;
          is = g.is;
          gave = g.gave;
        }

  -- the slot that a node was given for reaches as far as what goes round the places below it
  pub opened-reach : (openings : List Opening) (page level bound : ℕ) (f : IsFromOpened openings page level bound) → f.gave.item.reach ≡ (bounding_item_at nodes page).reach
  opened-reach openings page level bound f =
      let g = f.gave in
      let held : IsItem nodes f.parent.level g.item = subst (Held (λ y. IsItem nodes f.parent.level y)) g.is (f.node.items g.at g.within) in
      child-reach nodes level g.item (subst (λ (l : ℕ). IsItem nodes l g.item) g.up held) ∙ ap (λ (p : ℕ). (bounding_item_at nodes p).reach) g.to_is
