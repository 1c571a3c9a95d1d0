-- An entry of a tree gives to a word what the place that it stands for does.
use Rattle.std.proofs.Common.{◌≡◌, ℕ, nat_lt, if◌then◌else◌, List, [], ◌∷◌, ap}
use Rattle.spatial_base.specs.Key.{Name, IsName, form_of}
use Rattle.spatial_base.specs.Point.{IsOnMap, Viewpoint, distance}
use Rattle.term_impacts.specs.Pairs.{impact_in}
use Rattle.place_values.specs.declared.place.Place.{Place}
use Rattle.place_values.specs.Filter.{has_word}
use Rattle.place_values.specs.Group.{pick_of, word_picks}
use Rattle.rtree_nodes.specs.Slots.{Item}
use Rattle.rtree_nodes.specs.Reach.{place_item}
use Rattle.rtree_nodes.proofs.Keys.{named}
use Rattle.irtree_shape.specs.Words.{worded}
use Rattle.node_filter.specs.Numbers.{Numbers, impact_of}
use Rattle.node_filter.specs.Entries.{point_of, name_of}
use Rattle.node_filter.proofs.Agreements.{point-back}
use Rattle.collective_query.specs.TreePicks.{pick_in, pick_item}

-- by the impact of the word
pub pick-agrees : (ids : Numbers) (f : ℕ → ℕ) (key : Name) (place : Place) → IsName key → IsOnMap place.point.x place.point.y
    → (at : Viewpoint) (word : List ℕ) → impact_of ids (worded f (place_item place.point (form_of key))) word ≡ impact_in place.words word
    → pick_item ids at word (worded f (place_item place.point (form_of key))) ≡ word_picks at word (key, place)
pick-agrees ids f key place named_so on at word impact =
    let x : Item = worded f (place_item place.point (form_of key)) in
    let p : point_of x ≡ place.point = point-back f place.point (form_of key) on in
    let n : name_of x ≡ key = named key named_so in
    let holds : nat_lt 0 (impact_of ids x word) ≡ has_word place word = ap (nat_lt 0) impact in
    let pick : pick_in at word x ≡ pick_of at word (key, place) = λ i. record { key = n i; word = word; dist = distance at (p i); point = p i } in
    λ i. if holds i then pick i ∷ [] else []
