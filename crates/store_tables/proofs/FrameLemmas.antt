-- Maps that stand by while another changes.
use Rattle.std.proofs.Common.{◌≡◌, ℕ, zero, suc, ◌+◌, ◌<◌, ◌≤◌, ◌^◌, List, refl, sym, ap, subst, ◌∙◌, arith}
use Rattle.page_face.specs.FreeList.{PageMap}
use Rattle.btree_nodes.specs.declared.form.Form.{Form}
use Rattle.btree_nodes.specs.Nodes.{least_of_root}
use Rattle.btree_nodes.specs.Rows.{Row}
use Rattle.btree_nodes.specs.Supply.{Moves, View, spare_in, view}
use Rattle.btree_nodes.specs.Tree.{IsMap, IsTree, level_of, map_uses, rows_at, uses}
use Rattle.btree_nodes.proofs.Frames.{tree-frame}
use Rattle.btree_nodes.proofs.Supplies.{moves-as, moves-beside, moves-further}
use Rattle.btree_nodes.proofs.Walks.{uses-self}
use Rattle.spatial_base.specs.Key.{Name}
use Rattle.row_codec.specs.declared.counted.Counted.{Counted}
use Rattle.row_codec.specs.declared.stored.Stored.{Stored}
use Rattle.store_tables.specs.declared.tables.Tables.{Tables}
use Rattle.paged_map.specs.Maps.{HasBecome, IsKept}
use Rattle.store_tables.specs.Entries.{Entries}
use Rattle.store_tables.specs.Holding.{Holds, HoldsMap, HoldsNumbers, HoldsPlaces, HoldsTexts, IsApart, IsChanged, IsSameMap, numbers_form, places_form, texts_form}

-- a map of which each page stayed is the same map
pub map-frame : (form : Form) (old new : PageMap) (root : ℕ) → IsMap form old root → ((n : ℕ) → 0 < map_uses form old root n → new n ≡ old n) → IsSameMap form old new root
map-frame form old new zero tree same = record { tree = tt; rows = refl; uses = λ n. refl; height = refl }
map-frame form old new (suc m) tree same =
    let level : ℕ = level_of (old (suc m)) in
    let here : new (suc m) ≡ old (suc m) = same (suc m) (uses-self form old level (suc m)) in
    let r = tree-frame form (least_of_root level) old new level (suc m) 0 (256 ^ form.key) tree same in
    let level_is : level_of (new (suc m)) ≡ level = ap level_of here in
    record {
      tree = subst (λ l. IsTree form (least_of_root l) new l (suc m) 0 (256 ^ form.key)) (sym level_is) r.tree;
      rows = ap (λ l. rows_at form new l (suc m)) level_is ∙ r.rows;
      uses = λ n. ap (λ l. uses form new l (suc m) n) level_is ∙ r.uses n;
      height = ap (λ (l : ℕ). l + 1) level_is;
    }

-- and holds the same entries
holds-frame : {K V : Type 0} {form : Form} {code : K → ℕ} {value : V → List ℕ} {IsKey : K → Type 0} {IsValue : V → Type 0} {old new : PageMap} {root : ℕ} {entries : List (K × V)}
    → HoldsMap form code value IsKey IsValue old root entries → IsSameMap form old new root → HoldsMap form code value IsKey IsValue new root entries
holds-frame holds same = record { tree = same.tree; rows = same.rows ∙ holds.rows; each = holds.each }

-- a page that another map uses stays while a map changes
stays : {before after : View} {mine ours : ℕ → ℕ} → Moves before after mine ours → (theirs : ℕ → ℕ) → ((n : ℕ) → mine n + theirs n + spare_in before n ≤ 1) → (n : ℕ) → 0 < theirs n → after.pages n ≡ before.pages n
stays moves theirs once n used = (let o = once n in moves.others n (omega arith) (omega arith))

-- one change after another
pub changed-further : {before : View} {old middle new : Tables} {pages pages' : PageMap} {count count' first first' : ℕ} {entries entries' : Entries} → (c : IsChanged before old pages count first middle entries)
    → IsChanged (view pages count first c.free) middle pages' count' first' new entries' → IsChanged before old pages' count' first' new entries'
changed-further c d = record { free = d.free; holds = d.holds; apart = d.apart; moves = moves-further c.moves d.moves }

-- ---- one of the three maps changes

-- the place table
pub places-changed : (before : View) (old : Tables) (pages : PageMap) (count first root : ℕ) (rows : List Row) (entries : Entries) (places : List (Name × Stored)) → Holds before.pages old entries → IsApart before old
    → (c : HasBecome places_form before pages count first old.places root rows) → HoldsPlaces pages root places → IsChanged before old pages count first (record old { places = root }) (record entries { places = places })
places-changed before old pages count first root rows entries places holds apart c now =
    let texts = map-frame texts_form before.pages pages old.texts holds.texts.tree (stays c.moves (map_uses texts_form before.pages old.texts) (λ n. let o = apart.once n in omega arith)) in
    let numbers = map-frame numbers_form before.pages pages old.numbers holds.numbers.tree (stays c.moves (map_uses numbers_form before.pages old.numbers) (λ n. let o = apart.once n in omega arith)) in
    record {
      free = c.free;
      holds = record { places = now; texts = holds-frame holds.texts texts; numbers = holds-frame holds.numbers numbers };
      apart = record {
        supplied = c.kept.supplied;
        once = λ n. (let o = apart.once n in let k = c.moves.kept n in let t = texts.uses n in let m = numbers.uses n in omega arith);
        away = (let z = apart.away in let own = c.kept.away in let t = texts.uses 0 in let m = numbers.uses 0 in omega arith);
        some = c.kept.some;
      };
      moves = moves-as (λ n. omega arith) (λ n. let t = texts.uses n in let m = numbers.uses n in omega arith)
          (moves-beside (λ n. map_uses texts_form before.pages old.texts n + map_uses numbers_form before.pages old.numbers n) c.moves);
    }

-- the words by text
pub texts-changed : (before : View) (old : Tables) (pages : PageMap) (count first root : ℕ) (rows : List Row) (entries : Entries) (texts : List (List ℕ × ℕ)) → Holds before.pages old entries → IsApart before old
    → (c : HasBecome texts_form before pages count first old.texts root rows) → HoldsTexts pages root texts → IsChanged before old pages count first (record old { texts = root }) (record entries { texts = texts })
texts-changed before old pages count first root rows entries texts holds apart c now =
    let places = map-frame places_form before.pages pages old.places holds.places.tree (stays c.moves (map_uses places_form before.pages old.places) (λ n. let o = apart.once n in omega arith)) in
    let numbers = map-frame numbers_form before.pages pages old.numbers holds.numbers.tree (stays c.moves (map_uses numbers_form before.pages old.numbers) (λ n. let o = apart.once n in omega arith)) in
    record {
      free = c.free;
      holds = record { places = holds-frame holds.places places; texts = now; numbers = holds-frame holds.numbers numbers };
      apart = record {
        supplied = c.kept.supplied;
        once = λ n. (let o = apart.once n in let k = c.moves.kept n in let t = places.uses n in let m = numbers.uses n in omega arith);
        away = (let z = apart.away in let own = c.kept.away in let t = places.uses 0 in let m = numbers.uses 0 in omega arith);
        some = c.kept.some;
      };
      moves = moves-as (λ n. omega arith) (λ n. let t = places.uses n in let m = numbers.uses n in omega arith)
          (moves-beside (λ n. map_uses places_form before.pages old.places n + map_uses numbers_form before.pages old.numbers n) c.moves);
    }

-- the words by text stay while those by number change
pub texts-stay : (before : View) (old : Tables) (pages : PageMap) (count first root : ℕ) (rows : List Row) (entries : Entries) → Holds before.pages old entries → IsApart before old
    → HasBecome numbers_form before pages count first old.numbers root rows → IsSameMap texts_form before.pages pages old.texts
texts-stay before old pages count first root rows entries holds apart c =
    map-frame texts_form before.pages pages old.texts holds.texts.tree (stays c.moves (map_uses texts_form before.pages old.texts) (λ n. let o = apart.once n in omega arith))

-- the words by number
pub numbers-changed : (before : View) (old : Tables) (pages : PageMap) (count first root : ℕ) (rows : List Row) (entries : Entries) (numbers : List (ℕ × Counted)) → Holds before.pages old entries → IsApart before old
    → (c : HasBecome numbers_form before pages count first old.numbers root rows) → HoldsNumbers pages root numbers → IsChanged before old pages count first (record old { numbers = root }) (record entries { numbers = numbers })
numbers-changed before old pages count first root rows entries numbers holds apart c now =
    let places = map-frame places_form before.pages pages old.places holds.places.tree (stays c.moves (map_uses places_form before.pages old.places) (λ n. let o = apart.once n in omega arith)) in
    let texts = texts-stay before old pages count first root rows entries holds apart c in
    record {
      free = c.free;
      holds = record { places = holds-frame holds.places places; texts = holds-frame holds.texts texts; numbers = now };
      apart = record {
        supplied = c.kept.supplied;
        once = λ n. (let o = apart.once n in let k = c.moves.kept n in let t = places.uses n in let m = texts.uses n in omega arith);
        away = (let z = apart.away in let own = c.kept.away in let t = places.uses 0 in let m = texts.uses 0 in omega arith);
        some = c.kept.some;
      };
      moves = moves-as (λ n. omega arith) (λ n. let t = places.uses n in let m = texts.uses n in omega arith)
          (moves-beside (λ n. map_uses places_form before.pages old.places n + map_uses texts_form before.pages old.texts n) c.moves);
    }

-- the map of places of tables that are apart is kept
pub kept-places : (v : View) (tables : Tables) (entries : Entries) → Holds v.pages tables entries → IsApart v tables → IsKept places_form v tables.places
kept-places v tables entries holds apart = record {
  map = holds.places.tree;
  supplied = apart.supplied;
  once = λ n. (let o = apart.once n in omega arith);
  away = (let z = apart.away in omega arith);
  some = apart.some;
}

-- the map of texts of tables that are apart is kept
pub kept-texts : (v : View) (tables : Tables) (entries : Entries) → Holds v.pages tables entries → IsApart v tables → IsKept texts_form v tables.texts
kept-texts v tables entries holds apart = record {
  map = holds.texts.tree;
  supplied = apart.supplied;
  once = λ n. (let o = apart.once n in omega arith);
  away = (let z = apart.away in omega arith);
  some = apart.some;
}

-- the map of numbers of tables that are apart is kept
pub kept-numbers : (v : View) (tables : Tables) (entries : Entries) → Holds v.pages tables entries → IsApart v tables → IsKept numbers_form v tables.numbers
kept-numbers v tables entries holds apart = record {
  map = holds.numbers.tree;
  supplied = apart.supplied;
  once = λ n. (let o = apart.once n in omega arith);
  away = (let z = apart.away in omega arith);
  some = apart.some;
}
