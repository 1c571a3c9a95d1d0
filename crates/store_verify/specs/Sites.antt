-- Where keys are: the entries of a tree's leaves, or places without their words.
use Rattle.std.specs.Prelude.{◌≢◌, ℕ, List, sum_by, All}
use Rattle.spatial_base.specs.Key.{Name, IsName, form_of}
use Rattle.spatial_base.specs.Point.{Position, IsOnMap}
use Rattle.place_values.specs.State.{IsSerialAbove}
use Rattle.rtree_nodes.specs.Entries.{is_entry}
use Rattle.rtree_nodes.specs.Reach.{place_item}
use Rattle.rtree_nodes.specs.Slots.{Item}

-- a key and the point where it is
abbrev pub Site : Type 0
Site = Name × Position

-- of a key and a point on the map
abbrev pub IsSite : Site → Type 0
IsSite site = IsName site.0 × IsOnMap site.1.x site.1.y

-- the entry in a leaf of a key at a point
abbrev pub site_item : Site → Item
site_item site = place_item site.1 (form_of site.0)

-- the sum of f over the entries of sites
abbrev pub site_sum : (Item → ℕ) → List Site → ℕ
site_sum f sites = sum_by (λ (s : Site). f (site_item s)) sites

-- some key at some point isn't equally often in both
pub record AreApart (found places : List Site) : Type 0 where
  pub site : Site
  pub apart : site_sum (is_entry site.1 (form_of site.0)) found ≢ site_sum (is_entry site.1 (form_of site.0)) places

-- each automatic key is below the next serial
abbrev pub AreGiven : ℕ → List Site → Type 0
AreGiven serial sites = All (λ (s : Site). IsSerialAbove serial s.0) sites
