-- When the words of a slot are right, and when they aren't.
use Rattle.std.proofs.Common.{◌≡◌, inl, inr, ℕ, zero, suc, ◌+◌, ◌<◌, ◌==◌, List, [], ◌∷◌, Option, Some, None, IfSome, take, length, get_or, arith, refl, sym, ap, ◌∙◌, subst, ⊎_elim, true≢false}
use Rattle.std.specs.Prelude.{option_map}
use Rattle.std.specs.List.{AllByRecursion}
use Rattle.std.proofs.Math.Path.{fun_ext}
use Rattle.std.proofs.lemmas.Bool.{false≢true, cases_eq, ne_eqb}
use Rattle.std.proofs.lemmas.Int.{ints}
use Rattle.page_face.specs.FreeList.{PageMap}
use Rattle.page_face.specs.declared.fault.Damage.{Damage}
use Rattle.page_face.specs.declared.fault.Rule.TheVariants.{Row}
use Rattle.spatial_base.specs.Key.{Name, IsName, form_of}
use Rattle.spatial_base.specs.Point.{Position, IsOnMap}
use Rattle.spatial_base.specs.Rect.{IsRect, rect_of}
use Rattle.row_codec.specs.declared.stored.Stored.{Stored}
use Rattle.row_codec.specs.Stored.{IsStored, held_pairs}
use Rattle.rtree_nodes.specs.Slots.{Item}
use Rattle.rtree_nodes.specs.Reach.{reach_of, place_item, item_of, is_place}
use Rattle.rtree_nodes.specs.Pages.{level_in, slots_in}
use Rattle.rtree_nodes.specs.declared.content.Slot.{Slot}
use Rattle.rtree_nodes.specs.declared.content.Slot.TheVariants.{Place, Child}
use Rattle.rtree_nodes.proofs.Reaches.{same-rect}
use Rattle.node_rows.specs.Rows.{Bytes, bytes_in}
use Rattle.node_rows.specs.Impacts.{impact_in}
use Rattle.store_tables.specs.declared.tables.Tables.{Tables}
use Rattle.store_tables.specs.Entries.{Entries, place_of_key}
use Rattle.store_tables.proofs.KeyLemmas.{form-same}
use Rattle.tree_check.specs.Agreement.{Placed, IsEntry, HasWords, IsRight, IsRightSlot, AreRight, AreSound, IsEntryIn, IsEntryAt, IsMissingIn, IsMissingAt, IsWrongSlot, IsWrong, IsFirstWrong, IsNodePage}
use Rattle.tree_check.proofs.Ascents.{Ascend, impacts-same, stored-ascend}

-- entries of the same key are of one place
same-stored : (places : Placed) (key key' : Name) (stored stored' : Stored) → key ≡ key' → place_of_key key places ≡ Some stored → place_of_key key' places ≡ Some stored' → stored ≡ stored'
same-stored places key key' stored stored' e a b = let c : Some stored ≡ Some stored' = sym a ∙ ap (λ (k : Name). place_of_key k places) e ∙ b in cc

-- an entry with this key's bytes is of this key
entry-key : (places : Placed) (point : Position) (key : Name) → IsName key → (h : IsEntry places (place_item point (form_of key))) → key ≡ h.key
entry-key places point key name h = form-same key h.key name h.name (ap (λ (x : Item). x.key) h.is)

rect-is : (p : Position) → IsOnMap p.x p.y → IsRect (rect_of p).west (rect_of p).south (rect_of p).east (rect_of p).north
rect-is p on = (on, on, omega (arith, ints), omega (arith, ints))

-- points whose rectangles reach as far are the same
same-point : (p q : Position) → IsOnMap p.x p.y → IsOnMap q.x q.y → reach_of (rect_of p) ≡ reach_of (rect_of q) → p ≡ q
same-point p q a b e =
    let r : rect_of p ≡ rect_of q = same-rect (rect_of p) (rect_of q) (rect-is p a) (rect-is q b) (λ d l. ap (λ (f : ℕ → ℕ). f d) e) in
    λ i. record { x = (r i).west; y = (r i).south }

-- the key's place is at the point
abbrev pub place-entry : (places : Placed) (point : Position) (key : Name) (stored : Stored) → IsName key → place_of_key key places ≡ Some stored → stored.point ≡ point → IsEntry places (place_item point (form_of key))
place-entry places point key stored name held at = record { key = key; stored = stored; name = name; held = held; is = ap (λ (p : Position). place_item p (form_of key)) (sym at) }

-- the words are those of the place
pub place-right : (places : Placed) (point : Position) (key : Name) (stored : Stored) (words : List (ℕ × ℕ)) → IsName key → place_of_key key places ≡ Some stored → stored.point ≡ point
    → words ≡ held_pairs stored → HasWords places (λ w. impact_in words w) (place_item point (form_of key))
place-right places point key stored words name held at e = record {
  entry = place-entry places point key stored name held at;
  words = λ w. ap (λ (ps : List (ℕ × ℕ)). impact_in ps w) e;
}

-- the words aren't those of the place
pub place-wrong : (places : Placed) (point : Position) (key : Name) (stored : Stored) (words : List (ℕ × ℕ)) → IsName key → place_of_key key places ≡ Some stored → IsStored stored → Ascend 0 words
    → (words ≡ held_pairs stored → ⊥) → HasWords places (λ w. impact_in words w) (place_item point (form_of key)) → ⊥
place-wrong places point key stored words name held is up apart h =
    let same : h.entry.stored ≡ stored = sym (same-stored places key h.entry.key stored h.entry.stored (entry-key places point key name h.entry) held h.entry.held) in
    apart (impacts-same 0 0 words (held_pairs stored) up (stored-ascend stored is) (λ w. h.words w ∙ ap (λ (s : Stored). impact_in (held_pairs s) w) same))

-- no place is at the key
pub place-none : (places : Placed) (point : Position) (key : Name) → IsName key → place_of_key key places ≡ None → IsEntry places (place_item point (form_of key)) → ⊥
place-none places point key name none h =
    let c : None ≡ Some h.stored = sym none ∙ ap (λ (k : Name). place_of_key k places) (entry-key places point key name h) ∙ h.held in absurd (cc)

-- the key's place is at another point
pub place-apart : (places : Placed) (point : Position) (key : Name) (stored : Stored) → IsName key → place_of_key key places ≡ Some stored → IsOnMap point.x point.y → IsOnMap stored.point.x stored.point.y
    → (stored.point ≡ point → ⊥) → IsEntry places (place_item point (form_of key)) → ⊥
place-apart places point key stored name held on on' apart h =
    let same : h.stored ≡ stored = sym (same-stored places key h.key stored h.stored (entry-key places point key name h) held h.held) in
    let reach : reach_of (rect_of point) ≡ reach_of (rect_of stored.point) = ap (λ (x : Item). x.reach) h.is ∙ ap (λ (s : Stored). reach_of (rect_of s.point)) same in
    apart (sym (same-point point stored.point on on' reach))

-- a slot's content as an item of a node of its level
pub right-item : (b : Bytes) (places : Placed) (level : ℕ) (impacts : ℕ → ℕ) (slot : Option Slot) → IfSome slot (λ s. is_place s ≡ (level == 0)) → IsRightSlot b places impacts slot
    → IsRight b places level impacts (option_map item_of slot)
right-item b places level impacts None kind r = r
right-item b places zero impacts (Some (Place point key)) kind r = r
right-item b places (suc level) impacts (Some (Place point key)) kind r = absurd (true≢false (kind ∙ ne_eqb (suc level) 0 (λ e. omega arith)))
right-item b places zero impacts (Some (Child rect page)) kind r = absurd (false≢true kind)
right-item b places (suc level) impacts (Some (Child rect page)) kind r = r

pub item-right : (b : Bytes) (places : Placed) (level : ℕ) (impacts : ℕ → ℕ) (slot : Option Slot) → IfSome slot (λ s. is_place s ≡ (level == 0)) → IsRight b places level impacts (option_map item_of slot)
    → IsRightSlot b places impacts slot
item-right b places level impacts None kind r = r
item-right b places zero impacts (Some (Place point key)) kind r = r
item-right b places (suc level) impacts (Some (Place point key)) kind r = absurd (true≢false (kind ∙ ne_eqb (suc level) 0 (λ e. omega arith)))
item-right b places zero impacts (Some (Child rect page)) kind r = absurd (false≢true kind)
item-right b places (suc level) impacts (Some (Child rect page)) kind r = r

-- a place of a slot's content as an item of a node of its level
pub entry-item : (places : Placed) (level : ℕ) (slot : Option Slot) → IfSome slot (λ s. is_place s ≡ (level == 0)) → IsEntryIn places slot → IsEntryAt places level (option_map item_of slot)
entry-item places level None kind e = tt
entry-item places zero (Some (Place point key)) kind e = e
entry-item places (suc level) (Some (Place point key)) kind e = tt
entry-item places zero (Some (Child rect page)) kind e = absurd (false≢true kind)
entry-item places (suc level) (Some (Child rect page)) kind e = tt

pub missing-item : (places : Placed) (level : ℕ) (slot : Option Slot) (damage : Damage) → IfSome slot (λ s. is_place s ≡ (level == 0)) → IsMissingIn places slot damage → IsMissingAt places level (option_map item_of slot) damage
missing-item places level None damage kind m = m
missing-item places zero (Some (Place point key)) damage kind m = m
missing-item places (suc level) (Some (Place point key)) damage kind m = absurd (true≢false (kind ∙ ne_eqb (suc level) 0 (λ e. omega arith)))
missing-item places level (Some (Child rect page)) damage kind m = absurd m

-- a missing place keeps the slot from being right
missing-wrong : (b : Bytes) (places : Placed) (level : ℕ) (impacts : ℕ → ℕ) (item : Option Item) (damage : Damage) → IsMissingAt places level item damage → IsRight b places level impacts item → ⊥
missing-wrong b places level impacts None damage m r = m
missing-wrong b places zero impacts (Some x) damage m r = m.missing r.entry
missing-wrong b places (suc level) impacts (Some x) damage m r = m

-- a wrong slot keeps the rows of its node from being right
pub wrong-apart : (pages : PageMap) (rows : ℕ) (places : Placed) (page : ℕ) (damage : Damage) → IsWrong pages rows places page damage → AreRight pages rows places page → ⊥
wrong-apart pages rows places page damage w r = ⊎_elim
    (λ bytes. bytes.wrong (r w.at w.within))
    (λ missing. missing-wrong (bytes_in pages rows) places (level_in (pages page)) (λ v. bytes_in pages rows page v w.at) (slots_in (pages page) w.at) damage missing (r w.at w.within))
    w.slot

-- what is asked of the pages, over pages that are the same
pub sound-on : (pages pages' : PageMap) (count count' rows : ℕ) (tables : Tables) (entries : Entries) → pages' ≡ pages → count' ≡ count → AreSound pages count rows tables entries → AreSound pages' count' rows tables entries
sound-on pages pages' count count' rows tables entries same many s =
    subst (λ (p : PageMap). AreSound p count' rows tables entries) (sym same) (subst (λ (k : ℕ). AreSound pages k rows tables entries) (sym many) s)

-- a slot is wrong: its words differ
pub slot-wrong : (pages : PageMap) (rows : ℕ) (places : Placed) (page : ℕ) (bytes : List ℕ) (at : ℕ) (slot : Option Slot) (words : List (ℕ × ℕ)) (damage : Damage)
    → damage ≡ record { page = page; rule = Row }
    → IfSome slot (λ s. is_place s ≡ (level_in bytes == 0)) → option_map item_of slot ≡ slots_in bytes at → ((w : ℕ) → impact_in words w ≡ bytes_in pages rows page w at)
    → IsEntryIn places slot → (IsRightSlot (bytes_in pages rows) places (λ w. impact_in words w) slot → ⊥) → IsWrongSlot pages rows places page bytes at damage
slot-wrong pages rows places page bytes at slot words damage named kind item is entry apart = inl (record {
  named = named;
  entry = subst (λ (o : Option Item). IsEntryAt places (level_in bytes) o) item (entry-item places (level_in bytes) slot kind entry);
  wrong = λ r. apart (item-right (bytes_in pages rows) places (level_in bytes) (λ w. impact_in words w) slot kind
      (subst (λ (f : ℕ → ℕ). IsRight (bytes_in pages rows) places (level_in bytes) f (option_map item_of slot)) (sym (fun_ext is))
      (subst (λ (o : Option Item). IsRight (bytes_in pages rows) places (level_in bytes) (λ w. bytes_in pages rows page w at) o) (sym item) r)));
})

-- a slot is wrong: its place is missing
pub slot-missing : (pages : PageMap) (rows : ℕ) (places : Placed) (page : ℕ) (bytes : List ℕ) (at : ℕ) (slot : Option Slot) (damage : Damage)
    → IfSome slot (λ s. is_place s ≡ (level_in bytes == 0)) → option_map item_of slot ≡ slots_in bytes at → IsMissingIn places slot damage → IsWrongSlot pages rows places page bytes at damage
slot-missing pages rows places page bytes at slot damage kind item missing =
    inr (subst (λ (o : Option Item). IsMissingAt places (level_in bytes) o damage) item (missing-item places (level_in bytes) slot damage kind missing))

-- a slot is right
pub slot-right : (pages : PageMap) (rows : ℕ) (places : Placed) (page : ℕ) (bytes : List ℕ) (at : ℕ) (slot : Option Slot) (words : List (ℕ × ℕ))
    → IfSome slot (λ s. is_place s ≡ (level_in bytes == 0)) → option_map item_of slot ≡ slots_in bytes at → ((w : ℕ) → impact_in words w ≡ bytes_in pages rows page w at)
    → IsRightSlot (bytes_in pages rows) places (λ w. impact_in words w) slot
    → IsRight (bytes_in pages rows) places (level_in bytes) (λ w. bytes_in pages rows page w at) (slots_in bytes at)
slot-right pages rows places page bytes at slot words kind item is r =
    subst (λ (o : Option Item). IsRight (bytes_in pages rows) places (level_in bytes) (λ w. bytes_in pages rows page w at) o) item
    (subst (λ (f : ℕ → ℕ). IsRight (bytes_in pages rows) places (level_in bytes) f (option_map item_of slot)) (fun_ext is)
    (right-item (bytes_in pages rows) places (level_in bytes) (λ w. impact_in words w) slot kind r))

-- the pages of a list up to the first wrong one
pub first-wrong : (pages : PageMap) (rows : ℕ) (places : Placed) (list : List ℕ) (at page : ℕ) (damage : Damage) → at < length list → page ≡ get_or list at 0
    → AllByRecursion (AreRight pages rows places) (take at list) → IsWrong pages rows places page damage → IsFirstWrong pages rows places list damage
first-wrong pages rows places [] at page damage l is right wrong = absurd (omega arith)
first-wrong pages rows places (x ∷ xs) zero page damage l is right wrong =
    record { front = []; page = x; back = xs; is = refl; right = tt; wrong = subst (λ (p : ℕ). IsWrong pages rows places p damage) is wrong }
first-wrong pages rows places (x ∷ xs) (suc at) page damage l is right wrong =
    let r = first-wrong pages rows places xs at page damage (omega arith) is right.1 wrong in
    record { front = x ∷ r.front; page = r.page; back = r.back; is = ap (λ (ys : List ℕ). x ∷ ys) r.is; right = (right.0, r.right); wrong = r.wrong }

-- one page more is right
pub right-more : (P : ℕ → Type 0) (list : List ℕ) (at page : ℕ) → at < length list → page ≡ get_or list at 0 → AllByRecursion P (take at list) → P page → AllByRecursion P (take (suc at) list)
right-more P [] at page l is right here = absurd (omega arith)
right-more P (x ∷ xs) zero page l is right here = (subst P is here, tt)
right-more P (x ∷ xs) (suc at) page l is right here = (right.0, right-more P xs at page (omega arith) is right.1 here)

-- what holds of all of a list holds of each
pub all-at : (P : ℕ → Type 0) (list : List ℕ) (at page : ℕ) → at < length list → page ≡ get_or list at 0 → AllByRecursion P list → P page
all-at P [] at page l is all = absurd (omega arith)
all-at P (x ∷ xs) zero page l is all = subst P (sym is) all.0
all-at P (x ∷ xs) (suc at) page l is all = all-at P xs at page (omega arith) is all.1

-- a node has a wrong slot, and those before it are right
pub node-wrong : (pages : PageMap) (rows : ℕ) (places : Placed) (page : ℕ) (bytes : List ℕ) (at : ℕ) (damage : Damage) → bytes ≡ pages page → at < 32
    → ((i : ℕ) → i < at → IsRight (bytes_in pages rows) places (level_in bytes) (λ w. bytes_in pages rows page w i) (slots_in bytes i)) → IsWrongSlot pages rows places page bytes at damage
    → IsWrong pages rows places page damage
node-wrong pages rows places page bytes at damage is small before w = record {
  at = at;
  within = small;
  before = subst (λ (b : List ℕ). (i : ℕ) → i < at → IsRight (bytes_in pages rows) places (level_in b) (λ v. bytes_in pages rows page v i) (slots_in b i)) is before;
  slot = subst (λ (b : List ℕ). IsWrongSlot pages rows places page b at damage) is w;
}

-- no word, where there is one
pub none-wrong : (b : Bytes) (places : Placed) (slot : Option Slot) (words : List (ℕ × ℕ)) → slot ≡ None → (words ≡ [] → ⊥) → Ascend 0 words → IsRightSlot b places (λ w. impact_in words w) slot → ⊥
none-wrong b places slot words e apart up r =
    apart (impacts-same 0 0 words [] up tt (subst (IsRightSlot b places (λ w. impact_in words w)) e r))

-- one number more
pub below-more : (P : ℕ → Type 0) (at : ℕ) → ((i : ℕ) → i < at → P i) → P at → (i : ℕ) → i < at + 1 → P i
below-more P at below here i l = ⊎_elim (λ (e : i ≡ at). subst P (sym e) here) (λ (n : i ≡ at → ⊥). below i (omega arith)) (cases_eq i at)

-- a slot that is right over pages that are the same
pub right-on : (pages pages' : PageMap) (rows : ℕ) (places : Placed) (page : ℕ) (bytes : List ℕ) (at : ℕ) → pages' ≡ pages
    → IsRight (bytes_in pages' rows) places (level_in bytes) (λ w. bytes_in pages' rows page w at) (slots_in bytes at)
    → IsRight (bytes_in pages rows) places (level_in bytes) (λ w. bytes_in pages rows page w at) (slots_in bytes at)
right-on pages pages' rows places page bytes at same r =
    subst (λ (p : PageMap). IsRight (bytes_in p rows) places (level_in bytes) (λ w. bytes_in p rows page w at) (slots_in bytes at)) same r

pub wrong-on : (pages pages' : PageMap) (rows : ℕ) (places : Placed) (page : ℕ) (bytes : List ℕ) (at : ℕ) (damage : Damage) → pages' ≡ pages
    → IsWrongSlot pages' rows places page bytes at damage → IsWrongSlot pages rows places page bytes at damage
wrong-on pages pages' rows places page bytes at damage same w = subst (λ (p : PageMap). IsWrongSlot p rows places page bytes at damage) same w

-- a node that is right, by its bytes
pub node-right : (pages : PageMap) (rows : ℕ) (places : Placed) (page : ℕ) (bytes : List ℕ) → bytes ≡ pages page
    → ((i : ℕ) → i < 32 → IsRight (bytes_in pages rows) places (level_in bytes) (λ w. bytes_in pages rows page w i) (slots_in bytes i)) → AreRight pages rows places page
node-right pages rows places page bytes is r =
    subst (λ (b : List ℕ). (i : ℕ) → i < 32 → IsRight (bytes_in pages rows) places (level_in b) (λ w. bytes_in pages rows page w i) (slots_in b i)) is r

-- the same of a page and of what is wrong there, over pages that are the same
pub node-right_on : (pages pages' : PageMap) (rows : ℕ) (places : Placed) (page : ℕ) → pages' ≡ pages → AreRight pages' rows places page → AreRight pages rows places page
node-right_on pages pages' rows places page same r = subst (λ (p : PageMap). AreRight p rows places page) same r

pub node-wrong_on : (pages pages' : PageMap) (rows : ℕ) (places : Placed) (page : ℕ) (damage : Damage) → pages' ≡ pages → IsWrong pages' rows places page damage → IsWrong pages rows places page damage
node-wrong_on pages pages' rows places page damage same w = subst (λ (p : PageMap). IsWrong p rows places page damage) same w

pub node-page_on : (pages pages' : PageMap) (count count' page : ℕ) → pages' ≡ pages → count' ≡ count → IsNodePage pages count page → IsNodePage pages' count' page
node-page_on pages pages' count count' page same many n =
    subst (λ (p : PageMap). IsNodePage p count' page) (sym same) (subst (λ (k : ℕ). IsNodePage pages k page) (sym many) n)
