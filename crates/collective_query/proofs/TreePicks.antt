-- The picks of a tree's entries, and the hits that they are made of.
use Rattle.std.proofs.Common.{◌≡◌, ℕ, ◌≤◌, Bool, true, false, ◌&&◌, nat_lt, nat_le, if◌then◌else◌, List, [], ◌∷◌, ◌++◌, map, Some, refl, sym, ap, subst, ◌∙◌, arith}
use Rattle.std.proofs.lemmas.Bool.Decides.{nat_tests}
use Rattle.std.proofs.lemmas.List.{map-append}
use Rattle.std.specs.List.{AllByRecursion, Contains, flat_map}
use Rattle.spatial_base.specs.Point.{Viewpoint, distance}
use Rattle.best_first.specs.Lists.{all_in, all_weaker, flat_all}
use Rattle.place_values.specs.declared.hit.Hit.{Hit}
use Rattle.place_values.specs.declared.query.Expr.TheVariants.{Has}
use Rattle.place_values.specs.declared.query.Pick.{Pick}
use Rattle.place_values.specs.Hit.{hits_linear}
use Rattle.rtree_nodes.specs.Slots.{Item, NodeMap}
use Rattle.node_filter.specs.Numbers.{Numbers, impact_of}
use Rattle.node_filter.specs.Entries.{point_of, tree_places}
use Rattle.node_filter.specs.Hits.{hit_near, near_item, range_item}
use Rattle.group_search.specs.Choices.{IsWithin, IsCut}
use Rattle.collective_query.specs.TreePicks.{pick_in, pick_item, tree_picks, pick_from, word_hits, hits_within, near_picks}
use Rattle.group_search.proofs.Members.{contains-flat, contains-map, all-ranked, among-ranked}
use Rattle.best_first.proofs.Histories.{contains_head as contains-here}
use Rattle.boolean_queries.proofs.Histories.{all-contained}

-- what may be missing, alike
one-made : (there : Bool) (pick : Pick) (hit : Hit) (f : Hit → Pick) → pick ≡ f hit → (if there then pick ∷ [] else []) ≡ map f (if there then hit ∷ [] else [])
one-made true pick hit f is = ap (λ p. p ∷ []) is
one-made false pick hit f is = refl

module _ (ids : Numbers) (at : Viewpoint) (word : List ℕ) where
  made-each : (from : Viewpoint) (places : List Item) → flat_map (pick_item ids at word) places ≡ map (pick_from at word) (flat_map (near_item ids from (Some (Has word))) places)
  made-each from [] = refl
  made-each from (x ∷ places) =
      (λ i. one-made (nat_lt 0 (impact_of ids x word)) (pick_in at word x) (hit_near from x) (pick_from at word) refl i ++ made-each from places i)
      ∙ sym (map-append (pick_from at word) (near_item ids from (Some (Has word)) x) (flat_map (near_item ids from (Some (Has word))) places))

  module _ (nodes : NodeMap) (root : ℕ) where
    -- the picks are made of the hits from any point
    pub picks-made : (from : Viewpoint) → tree_picks ids at nodes root word ≡ map (pick_from at word) (word_hits ids from nodes root word)
    picks-made from = made-each from (tree_places nodes root)

    -- a hit is the pick of an entry
    pub hit-among : (from : Viewpoint) (hit : Hit) → Contains (word_hits ids from nodes root word) hit → Contains (tree_picks ids at nodes root word) (pick_from at word hit)
    hit-among from hit c = subst (λ (picks : List Pick). Contains picks (pick_from at word hit)) (sym (picks-made from)) (contains-map (pick_from at word) (word_hits ids from nodes root word) hit c)

    module _ (centre : Viewpoint) (radius : ℕ) where
      abbrev in_range : Item → List Hit
      in_range = range_item ids centre radius (Some (Has word))

      each-among : (P : Hit → Type 0) (near there : Bool) (hit : Hit) → (there ≡ true → P hit) → AllByRecursion P (if near && there then hit ∷ [] else [])
      each-among P true true hit h = (h refl, tt)
      each-among P true false hit h = tt
      each-among P false there hit h = tt

      holds-among : (x : Item) → Contains (tree_places nodes root) x → nat_lt 0 (impact_of ids x word) ≡ true → Contains (tree_picks ids at nodes root word) (pick_in at word x)
      holds-among x c holds = contains-flat (pick_item ids at word) (tree_places nodes root) x (pick_in at word x) c (rw holds (contains-here (pick_in at word x) []))

      near-among : (pick : Pick) → Contains (near_picks ids at centre radius nodes root word) pick → Contains (tree_picks ids at nodes root word) pick
      near-among pick c =
          all-contained (Contains (tree_picks ids at nodes root word)) (near_picks ids at centre radius nodes root word) pick
          (mapped (hits_within ids centre radius nodes root word)
          (all-ranked hits_linear (λ hit. Contains (tree_picks ids at nodes root word) (pick_from at word hit)) (flat_map in_range (tree_places nodes root))
          (flat_all (λ hit. Contains (tree_picks ids at nodes root word) (pick_from at word hit)) in_range (tree_places nodes root)
          (all_weaker (Contains (tree_places nodes root)) (λ x. AllByRecursion (λ hit. Contains (tree_picks ids at nodes root word) (pick_from at word hit)) (in_range x))
          (λ x in_tree. each-among (λ hit. Contains (tree_picks ids at nodes root word) (pick_from at word hit)) (nat_le (distance centre (point_of x)) radius) (nat_lt 0 (impact_of ids x word)) (hit_near centre x) (holds-among x in_tree))
          (tree_places nodes root) (all_in (tree_places nodes root)))))) c
        where
          mapped : (hits : List Hit) → AllByRecursion (λ hit. Contains (tree_picks ids at nodes root word) (pick_from at word hit)) hits → AllByRecursion (Contains (tree_picks ids at nodes root word)) (map (pick_from at word) hits)
          mapped [] all = tt
          mapped (h ∷ hits) all = (all.0, mapped hits all.1)

      given-near : (x : Item) → Contains (tree_places nodes root) x → nat_lt 0 (impact_of ids x word) ≡ true → distance centre (point_of x) ≤ radius → Contains (near_picks ids at centre radius nodes root word) (pick_in at word x)
      given-near x c holds near =
          let within : nat_le (distance centre (point_of x)) radius ≡ true = grind (arith, nat_tests) in
          contains-map (pick_from at word) (hits_within ids centre radius nodes root word) (hit_near centre x)
          (among-ranked hits_linear (flat_map in_range (tree_places nodes root)) (hit_near centre x)
          (contains-flat in_range (tree_places nodes root) x (hit_near centre x) c (rw (within, holds) (contains-here (hit_near centre x) []))))

      far-among : (pick : Pick) → Contains (tree_picks ids at nodes root word) pick → distance centre pick.point ≤ radius → Contains (near_picks ids at centre radius nodes root word) pick
      far-among pick c near =
          let P : Pick → Type 0 = λ one. distance centre one.point ≤ radius → Contains (near_picks ids at centre radius nodes root word) one in
          all-contained P (tree_picks ids at nodes root word) pick
          (flat_all P (pick_item ids at word) (tree_places nodes root)
          (all_weaker (Contains (tree_places nodes root)) (λ x. AllByRecursion P (pick_item ids at word x)) (λ x in_tree. one-given P (nat_lt 0 (impact_of ids x word)) (pick_in at word x) (given-near x in_tree)) (tree_places nodes root) (all_in (tree_places nodes root)))) c near
        where
          one-given : (P : Pick → Type 0) (there : Bool) (pick : Pick) → (there ≡ true → P pick) → AllByRecursion P (if there then pick ∷ [] else [])
          one-given P true pick h = (h refl, tt)
          one-given P false pick h = tt

      -- the picks in a circle are some of all, and all of those that are there
      pub near-cut : IsCut (IsWithin centre radius) (tree_picks ids at nodes root word) (near_picks ids at centre radius nodes root word)
      near-cut = record { among = near-among; whole = far-among }
