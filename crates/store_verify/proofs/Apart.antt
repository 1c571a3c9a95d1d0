-- A store that breaks a rule isn't whole.
use Rattle.std.proofs.Common.{◌≡◌, ◌≢◌, ◌⊎◌, ℕ, zero, suc, ◌+◌, ◌^◌, ◌<◌, ◌≤◌, ◌++◌, inl, inr, ⊎_elim, List, [], ◌∷◌, map, get_or, false, refl, sym, ap, subst, ◌∙◌, arith}
use Rattle.std.specs.List.{All, flat_map}
use Rattle.std.proofs.lemmas.Bool.{true≢false}
use Rattle.std.proofs.lemmas.List.Elements.{All-map, All-contains, All-cons, All-nil, All-head, All-tail}
use Rattle.page_face.specs.Causes.{IsUncounted}
use Rattle.page_face.specs.FreeList.{PageMap, IsFreeList, BreaksFree, are_zero, next_free}
use Rattle.page_face.specs.declared.fault.Damage.{Damage}
use Rattle.page_face.specs.declared.fault.Rule.{Rule}
use Rattle.page_face.specs.declared.fault.Rule.TheVariants.{Head, Link, Kind, Fill, Order, Spare, Level, Value, Shared, Rect, Row, Entry, Words, Counts}
use Rattle.page_store.specs.declared.superblock.Superblock.{Superblock}
use Rattle.page_walks.specs.Chains.{IsReached}
use Rattle.page_walks.proofs.Chains.{chain-apart}
use Rattle.page_walks.proofs.Meetings.{times-push}
use Rattle.page_walks.proofs.Misuses.{one-cases}
use Rattle.spatial_base.specs.Key.{IsName}
use Rattle.term_impacts.specs.Form.{IsWordText}
use Rattle.row_codec.specs.Counted.{IsCounted, counted_value, number_bytes}
use Rattle.row_codec.specs.Stored.{place_value}
use Rattle.node_rows.specs.Rows.{IsFilled, key_of}
use Rattle.btree_nodes.specs.declared.form.Form.{Form}
use Rattle.btree_nodes.specs.Nodes as maps
use Rattle.btree_nodes.specs.Rows as rows
use Rattle.btree_nodes.specs.Supply.{times}
use Rattle.btree_nodes.specs.Tree.{level_of, rows_at}
use Rattle.btree_nodes.proofs.Supplies.{counted-none, one_at-same, uncounted-past}
use Rattle.page_walks.specs.Leaves.{AnyChildIs, IsBadLeaf}
use Rattle.page_walks.specs.Maps.{IsBadLeafIn}
use Rattle.paged_map.proofs.Maps.{map-undamaged}
use Rattle.rtree_nodes.specs.Entries.{is_entry}
use Rattle.rtree_nodes.specs.Pages.{level_in, node_of}
use Rattle.rtree_nodes.specs.Stock as stock
use Rattle.rtree_nodes.specs.Stock.{rows_form}
use Rattle.rtree_nodes.specs.Trees.{root_least}
use Rattle.rtree_nodes.specs.Whole as plain
use Rattle.rtree_nodes.proofs.Heights.{root-some, whole-level}
use Rattle.store_tables.specs.Coded.{IsEntryOf, IsPlaceValue, IsU64, key_code, number_code, row_by, word_code}
use Rattle.store_tables.specs.Entries.{Entries}
use Rattle.store_tables.specs.Holding.{Holds, HoldsMap, numbers_form, places_form, texts_form}
use Rattle.store_tables.specs.Words.{WordsAgree}
use Rattle.store_model.specs.Stands.{tables_in}
use Rattle.store_model.proofs.Maps.{holds-same}
use Rattle.store_verify.specs.Breaks.{BreaksChain, BreaksCounts, BreaksEntry, BreaksHeight, BreaksInPlace, BreaksRows, BreaksRule, IsBroken, AreWrongBytes, SomeNodeOf, BreaksLink, BreaksMap, BreaksRow, BreaksShared, BreaksValue, BreaksWords, damage_at}
use Rattle.store_verify.specs.Laws as laws
use Rattle.store_verify.specs.Tree.{node_uses, plain_nodes}
use Rattle.store_verify.specs.Whole.{AreCounts, IsWhole, outside, place_sum, store_uses}
use Rattle.store_verify.proofs.Impacts.{wrong-apart}
use Rattle.store_verify.proofs.Nodes.{node-level, rect-apart, tree-apart}
use Rattle.store_verify.proofs.Whole.{outside-zero, outside-some}

-- ---- lists of rows

-- what holds of each row of two lists, one behind the other
append-parts : {X : Type 0} (P : X → Type 0) (xs ys : List X) → All P (xs ++ ys) → All P xs × All P ys
append-parts P [] ys all = (All-nil P, all)
append-parts P (x ∷ xs) ys all =
    let rest = append-parts P xs ys (All-tail P x (xs ++ ys) all) in
    (All-cons P x xs (All-head P x (xs ++ ys) all) rest.0, rest.1)

-- no child is so, if none is whose rows are all good
children-apart : (Good : rows.Row → Type 0) (Q : ℕ → Type 0) (below : ℕ → List rows.Row) → ((c : ℕ) → All Good (below c) → Q c → ⊥)
    → (es : List maps.Entry) → All Good (flat_map (λ (e : maps.Entry). below e.1) es) → AnyChildIs Q es → ⊥
children-apart Good Q below each [] all some = some
children-apart Good Q below each (e ∷ es) all some =
    let parts = append-parts Good (below e.1) (flat_map (λ (d : maps.Entry). below d.1) es) all in
    ⊎_elim (λ here. each e.1 parts.0 here) (λ there. children-apart Good Q below each es parts.1 there) some

-- no leaf has a row that isn't good
leaf-apart : (Good : rows.Row → Type 0) (breaks : Rule → List ℕ → Type 0) (form : Form) (pages : PageMap) (damage : Damage) → ((rule : Rule) (page : List ℕ) → All Good (maps.rows_in form page) → breaks rule page → ⊥)
    → (level page : ℕ) → All Good (rows_at form pages level page) → IsBadLeaf breaks form pages damage level page → ⊥
leaf-apart Good breaks form pages damage each zero page all some = each damage.rule (pages page) all some.1
leaf-apart Good breaks form pages damage each (suc level) page all some =
    children-apart Good (IsBadLeaf breaks form pages damage level) (rows_at form pages level) (λ c good there. leaf-apart Good breaks form pages damage each level c good there) (maps.entries_in form (pages page)) all some

module _ {K V : Type 0} (form : Form) (code : K → ℕ) (value : V → List ℕ) (IsKey : K → Type 0) (IsValue : V → Type 0) (pages : PageMap) (damage : Damage) where
  -- a row isn't said to be no entry's
  abbrev Good : rows.Row → Type 0
  Good = laws.Good code value IsKey IsValue

  bad-apart : (rule : Rule) (page : List ℕ) → All Good (maps.rows_in form page) → BreaksRow form code value IsKey IsValue rule page → ⊥
  bad-apart rule page all bad = All-contains Good (maps.rows_in form page) bad.1.row all bad.1.there bad.1.bad

  -- a table that holds entries has no row that is no entry's
  pub row-apart : (root : ℕ) (entries : List (K × V)) → HoldsMap form code value IsKey IsValue pages root entries → IsBadLeafIn (BreaksRow form code value IsKey IsValue) form pages root damage → ⊥
  row-apart zero entries holds some = some
  row-apart (suc n) entries holds some =
      leaf-apart Good (BreaksRow form code value IsKey IsValue) form pages damage bad-apart (level_of (pages (suc n))) (suc n)
      (subst (All Good) (sym holds.rows) (All-map Good (row_by code value) entries (laws.good-all code value IsKey IsValue entries holds.each))) some

-- ---- pages of a whole store

-- a free page is reached by the chain
free-reached : (pages : PageMap) (count first : ℕ) (free : List ℕ) (page : ℕ) → IsFreeList pages count first free → 1 ≤ times free page → (front : List ℕ) × IsReached pages first front page
free-reached pages count first [] page list some = absurd (omega arith)
free-reached pages count first (p ∷ ps) page list some = ⊎_elim
    (λ here. ([], list.0 ∙ sym here.0))
    (λ other.
    let none = other.1 in
    let rest = free-reached pages count (next_free (pages p)) ps page list.4 (omega arith) in
    (p ∷ rest.0, (list.0, list.1, rest.1)))
    (one-cases p page)

module _ (block : Superblock) (pages : PageMap) (whole : IsWhole block pages) where
  -- a page that isn't counted, or page 0, is outside
  uncounted-outside : (n : ℕ) → IsUncounted block.counted n → outside block.counted n ≡ 1
  uncounted-outside n (inl zero-is) = ap (outside block.counted) zero-is ∙ outside-zero block.counted
  uncounted-outside zero (inr past) = outside-zero block.counted
  uncounted-outside (suc n) (inr past) = outside-some block.counted (suc n) (omega arith) ∙ uncounted-past block.counted (suc n) past

  -- and no structure uses it
  counted : (n : ℕ) → 0 < store_uses block.head pages n → IsUncounted block.counted n → ⊥
  counted n used out = let once = whole.once n in let o = uncounted-outside n out in absurd (omega arith)

  used-once : (n : ℕ) → store_uses block.head pages n + times whole.free n ≤ 1
  used-once n = let once = whole.once n in omega arith

  -- the chain of free pages breaks nothing
  chain-fine : (front : List ℕ) (next : ℕ) (damage : Damage) → 0 < next → IsReached pages block.first_free front next
      → (((damage.rule ≡ Link) × IsUncounted block.counted damage.page × (0 < times (front ++ next ∷ []) damage.page)) ⊎ ((damage.rule ≡ Shared) × (2 ≤ store_uses block.head pages damage.page + times (front ++ next ∷ []) damage.page)))
      ⊎ ((damage.page ≡ next) × BreaksFree damage.rule (pages next)) → ⊥
  chain-fine front next damage some reached how =
      chain-apart pages block.counted (store_uses block.head pages) block.first_free whole.free damage (record { front = front; next = next; some = some; reached = reached; how = how }) whole.chain used-once

  link-apart : (page : ℕ) → BreaksLink block pages page → ⊥
  link-apart page breaks = ⊎_elim
      (λ used. counted page used breaks.0)
      (λ named. chain-fine named.front page (damage_at Link page) named.some named.reached
      (inl (inl (refl, breaks.0, (let push = times-push named.front page page in let one = one_at-same page in omega arith)))))
      breaks.1

  shared-apart : (page : ℕ) → BreaksShared block pages page → ⊥
  shared-apart page (inl twice) = let once = used-once page in absurd (omega arith)
  shared-apart page (inr (inl twice)) = chain-fine twice.front twice.next (damage_at Shared page) twice.some twice.reached (inl (inr (refl, twice.twice)))
  shared-apart page (inr (inr lost)) =
      let once = whole.once page in
      let out = outside-some block.counted page lost.some in
      let inside = counted-none block.counted page lost.counted in
      let unused = lost.unused in
      let reached = free-reached pages block.counted block.first_free whole.free page whole.chain (omega arith) in
      lost.taken reached.0 reached.1

  -- no map is damaged
  map-apart : (damage : Damage) → BreaksMap block pages damage → ⊥
  map-apart damage (inl places) =
      map-undamaged places_form pages block.counted block.head.places damage whole.tables.places.tree (λ n used out. counted n (omega arith) out) places
  map-apart damage (inr (inl texts)) =
      map-undamaged texts_form pages block.counted block.head.texts damage whole.tables.texts.tree (λ n used out. counted n (omega arith) out) texts
  map-apart damage (inr (inr (inl numbers))) =
      map-undamaged numbers_form pages block.counted block.head.numbers damage whole.tables.numbers.tree (λ n used out. counted n (omega arith) out) numbers
  map-apart damage (inr (inr (inr words))) =
      map-undamaged rows_form pages block.counted block.head.rows damage whole.map (λ n used out. counted n (omega arith) out) words

  -- each row of a table is an entry's
  value-apart : (damage : Damage) → BreaksValue block pages damage → ⊥
  value-apart damage (inl places) = row-apart places_form key_code place_value IsName IsPlaceValue pages damage block.head.places whole.entries.places whole.tables.places places
  value-apart damage (inr (inl texts)) = row-apart texts_form word_code number_bytes IsWordText IsU64 pages damage block.head.texts whole.entries.texts whole.tables.texts texts
  value-apart damage (inr (inr numbers)) = row-apart numbers_form number_code counted_value IsU64 IsCounted pages damage block.head.numbers whole.entries.numbers whole.tables.numbers numbers

  -- no page that the chain of free pages names breaks its form
  chain-apart' : (damage : Damage) → BreaksChain block pages damage → ⊥
  chain-apart' damage breaks = chain-fine breaks.0.front damage.page damage breaks.0.some breaks.0.reached (inr (refl, breaks.1))

  -- a page of a map, a node or a free page breaks no rule in its place
  place-apart : (damage : Damage) → BreaksInPlace block pages damage → ⊥
  place-apart damage (inl of_map) = map-apart damage of_map
  place-apart damage (inr (inl node)) = tree-apart block pages whole damage node
  place-apart damage (inr (inr free)) = chain-apart' damage free

  -- the tables have one list of entries each
  entries-one : (entries : Entries) → Holds pages (tables_in block.head) entries → entries ≡ whole.entries
  entries-one entries holds = holds-same pages (tables_in block.head) entries whole.entries holds whole.tables

  words-apart : BreaksWords block pages → ⊥
  words-apart breaks = breaks.apart (subst (λ (e : Entries). WordsAgree e block.head.next_word) (sym (entries-one breaks.entries breaks.holds)) whole.words)

  counts-apart : BreaksCounts block pages → ⊥
  counts-apart breaks = breaks.apart (subst (λ (e : Entries). AreCounts block.head e.places) (sym (entries-one breaks.entries breaks.holds)) whole.counts)

  entry-apart : BreaksEntry block pages → ⊥
  entry-apart breaks = breaks.apart (whole.leaves (is_entry breaks.point breaks.bytes)
      ∙ ap (λ (e : Entries). place_sum (is_entry breaks.point breaks.bytes) e.places) (sym (entries-one breaks.entries breaks.holds)))

  rows-apart : (page : ℕ) → BreaksRows block pages page → ⊥
  rows-apart page (inl wrong) = wrong-apart block pages whole page (subst (λ (e : Entries). SomeNodeOf (λ least level n. (n ≡ page) × AreWrongBytes pages block.head.rows e.places level n) pages block.head.tree) (entries-one wrong.entries wrong.holds) wrong.node)
  rows-apart page (inr (inl stray)) = stray.some (whole.rows.named page stray.word stray.at stray.unused)
  rows-apart page (inr (inr none)) =
      let filled : are_zero none.row ≡ false = subst IsFilled none.there (whole.rows.filled (key_of page none.word)) in
      absurd (true≢false (sym none.zero ∙ filled))

  -- how often a page of the tree can be had
  spare : ℕ → ℕ
  spare n = stock.spare_in (stock.view pages block.head.rows block.counted block.first_free whole.free) n

  spare-once : (n : ℕ) → node_uses block.head pages n + spare n ≤ 1
  unfolding spare
  spare-once zero = let once = whole.once 0 in let zero-is = outside-zero block.counted in let inside = counted-none block.counted 0 (let some = whole.head.counted in omega arith) in omega arith
  spare-once (suc n) = let once = whole.once (suc n) in let out = outside-some block.counted (suc n) (omega arith) in omega arith

  spare-away : node_uses block.head pages 0 + spare 0 ≡ 0
  unfolding spare
  spare-away = let once = whole.once 0 in let zero-is = outside-zero block.counted in let inside = counted-none block.counted 0 (let some = whole.head.counted in omega arith) in omega arith

  tree_whole : plain.IsWhole node_of (stock.view pages block.head.rows block.counted block.first_free whole.free) block.head.tree
  unfolding spare
  tree_whole = record {
    tree = whole.tree;
    supplied = record {
      chain = whole.chain;
      map = whole.map;
      once = λ n. (let once = spare-once n in omega arith);
      away = (let none = spare-away in omega arith);
    };
    once = spare-once;
    away = (let none = spare-away in omega arith);
  }

  -- the root isn't above level 9
  height-apart : (page : ℕ) → block.counted ≤ 2 ^ 32 → BreaksHeight block pages page → ⊥
  height-apart page small breaks = go page breaks.0 breaks.1 breaks.2
    where
      go : (n : ℕ) → n ≡ block.head.tree → 0 < n → 9 < level_in (pages n) → ⊥
      go zero is some high = absurd (omega arith)
      go (suc n) is some high =
          let well : plain.IsWell node_of pages (suc n) = subst (plain.IsWell node_of pages) (sym is) whole.tree in
          let low : plain.level_at node_of pages (suc n) ≤ 9 = subst (λ (r : ℕ). plain.level_at node_of pages r ≤ 9) (sym is) (whole-level node_of (stock.view pages block.head.rows block.counted block.first_free whole.free) block.head.tree tree_whole small) in
          let level : ℕ = (node_of (pages (suc n))).level in
          let same : level_in (pages (suc n)) ≡ level = node-level (pages (suc n)) level (root_least level) (plain_nodes pages) (root-some level) well in
          absurd (omega arith)

  -- a store that breaks a rule isn't whole
  rule-apart : (rule : Rule) (page : ℕ) → block.counted ≤ 2 ^ 32 → BreaksRule rule block pages page → ⊥
  rule-apart Head page small breaks = breaks.1 whole.head
  rule-apart Link page small breaks = link-apart page breaks
  rule-apart Kind page small breaks = place-apart (damage_at Kind page) breaks
  rule-apart Fill page small breaks = place-apart (damage_at Fill page) breaks
  rule-apart Order page small breaks = place-apart (damage_at Order page) breaks
  rule-apart Spare page small breaks = place-apart (damage_at Spare page) breaks
  rule-apart Level page small (inl here) = place-apart (damage_at Level page) here
  rule-apart Level page small (inr high) = height-apart page small high
  rule-apart Value page small (inl row) = value-apart (damage_at Value page) row
  rule-apart Value page small (inr node) = tree-apart block pages whole (damage_at Value page) node
  rule-apart Shared page small breaks = shared-apart page breaks
  rule-apart Rect page small breaks = rect-apart block pages whole page breaks
  rule-apart Row page small breaks = rows-apart page breaks
  rule-apart Entry page small breaks = entry-apart breaks.1
  rule-apart Words page small breaks = words-apart breaks.1
  rule-apart Counts page small breaks = counts-apart breaks.1

-- What is broken isn't whole, where the pages counted are a u32.
pub broken-apart : (block : Superblock) (pages : PageMap) (damage : Damage) → block.counted ≤ 2 ^ 32 → IsBroken block pages damage → IsWhole block pages → ⊥
broken-apart block pages damage small broken whole = rule-apart block pages whole damage.rule damage.page small broken
