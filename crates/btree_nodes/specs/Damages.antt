-- Which rule a page of a map breaks, and which pages a call asks for.
use Rattle.std.specs.Prelude.{◌≡◌, ◌≢◌, ◌⊎◌, ℕ, zero, suc, ◌+◌, ◌*◌, ◌<◌, List, [], ◌∷◌, ◌++◌, take, drop, length, slice_index, false, ◌&&◌}
use Rattle.std.specs.List.{AllByRecursion}
use Rattle.page_face.specs.FreeList.{PageMap, are_zero, IsUntakeable}
use Rattle.page_face.specs.Causes.{IsUncounted}
use Rattle.page_face.specs.declared.fault.Rule.{Rule}
use Rattle.page_face.specs.declared.fault.Rule.TheVariants.{Kind, Fill, Order, Spare, Level, Link}
use Rattle.page_face.specs.declared.fault.Damage.{Damage}
use Rattle.page_face.specs.Cells.{key_at}
use Rattle.btree_nodes.specs.declared.form.Form.{Form}
use Rattle.btree_nodes.specs.Rows.{IsWithin}
use Rattle.page_face.specs.Nodes.{count_of}
use Rattle.btree_nodes.specs.Nodes.{Entry, rows_in, entries_in, half_of}
use Rattle.btree_nodes.specs.Tree.{with_low, next_key, IsFan}

-- nothing is asked of a child
abbrev pub AnyChild : ℕ → ℕ → ℕ → Type 0
AnyChild child low high = Unit {0}

-- The entries of an inner page are in order: the first key is all zeros, and the others ascend strictly between the bounds.
abbrev pub IsOrdered : Form → ℕ → ℕ → List ℕ → Type 0
IsOrdered form low high page =
    (key_at form.key (form.key + 4) page 0 ≡ 0) × IsFan AnyChild low high (with_low low (entries_in form page))

-- The rule that a page breaks, of those of a page of this map, kind, level, width and least number of cells, and this order.
abbrev pub Breaks : Rule → ℕ → ℕ → ℕ → ℕ → ℕ → Type 0 → List ℕ → Type 0
Breaks Kind number_of_map kind level width least order page = (slice_index page 0 ≢ kind) ⊎ (slice_index page 1 ≢ number_of_map)
Breaks Level number_of_map kind level width least order page = slice_index page 4 ≢ level
Breaks Fill number_of_map kind level width least order page = (count_of page < least) ⊎ (4096 < 16 + width * count_of page)
Breaks Spare number_of_map kind level width least order page =
    (are_zero (take 11 (drop 5 page)) && are_zero (drop (16 + width * count_of page) page)) ≡ false
Breaks Order number_of_map kind level width least order page = order → ⊥
Breaks _ number_of_map kind level width least order page = ⊥

-- the rule that a leaf between these bounds breaks
abbrev pub BreaksLeaf : Rule → Form → ℕ → ℕ → ℕ → List ℕ → Type 0
BreaksLeaf rule form least low high page =
    Breaks rule form.map 1 0 (form.key + form.value) least (IsWithin low high (rows_in form page)) page

-- the rule that an inner page of this level between these bounds breaks
abbrev pub BreaksInner : Rule → Form → ℕ → ℕ → ℕ → ℕ → List ℕ → Type 0
BreaksInner rule form least level low high page =
    Breaks rule form.map 2 level (form.key + 4) least (IsOrdered form low high page) page

-- some child between its bounds is so
abbrev pub SomeChild : (ℕ → ℕ → ℕ → Type 0) → ℕ → List Entry → Type 0
SomeChild P high [] = ⊥
SomeChild P high (e ∷ es) = P e.1 e.0 (next_key high es) ⊎ SomeChild P high es

-- The damage is of this page of a tree, or of one below it: a rule that it breaks in its place there, or that it isn't counted.
abbrev pub IsDamaged : Form → PageMap → ℕ → Damage → ℕ → ℕ → ℕ → ℕ → ℕ → Type 0
IsDamaged form pages count damage least zero page low high =
    (damage.page ≡ page) × (((damage.rule ≡ Link) × IsUncounted count page) ⊎ BreaksLeaf damage.rule form least low high (pages page))
IsDamaged form pages count damage least (suc level) page low high =
    ((damage.page ≡ page) × (((damage.rule ≡ Link) × IsUncounted count page) ⊎ BreaksInner damage.rule form least (suc level) low high (pages page)))
    ⊎ SomeChild (IsDamaged form pages count damage (half_of form level) level) high (with_low low (entries_in form (pages page)))

-- the bytes of each counted page are told
abbrev pub AreReadable : PageMap → ℕ → Type 0
AreReadable pages count = (n : ℕ) → 0 < n → n < count → 0 < length (pages n)

-- the page was asked for since these were
pub record AskedSince (before after : List ℕ) (page : ℕ) : Type 0 where
  pub front : List ℕ
  pub back : List ℕ
  pub is : after ≡ before ++ (front ++ (page ∷ back))

-- what was asked for stays so
abbrev pub KeepsAsked : List ℕ → List ℕ → Type 0
KeepsAsked old new = (before : List ℕ) (n : ℕ) → AskedSince before old n → AskedSince before new n

-- only pages of `mine` were asked for
pub record AsksOnly (mine : ℕ → ℕ) (before after : List ℕ) : Type 0 where
  pub more : List ℕ
  pub is : after ≡ before ++ more
  pub own : AllByRecursion (λ n. 0 < mine n) more

-- The damage is what a take was refused for: where the first free page is told, it can't be taken so.
abbrev pub IsRefusedTake : PageMap → ℕ → ℕ → Damage → Type 0
IsRefusedTake pages count first damage =
    (0 < first) × (0 < length (pages first) → IsUntakeable pages count first damage)
