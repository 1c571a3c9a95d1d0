-- What the walks over a store and the comparisons show together: that it is whole, or which rule it breaks.
use Rattle.std.proofs.Common.{◌≡◌, ℕ, List, [], ◌∷◌, refl, sym, ap, subst, ◌∙◌, arith}
use Rattle.std.specs.Prelude.{◌↔◌, Bool, IsTrue, length, All}
use Rattle.std.specs.List.{AllByRecursion}
use Rattle.std.specs.List.Sorted.{IsStrictlySortedBy}
use Rattle.std.specs.Map.{keys_of}
use Rattle.std.specs.Ordering.{nat_cmp}
use Rattle.std.proofs.lemmas.List.{length-map}
use Rattle.std.proofs.lemmas.List.Sums.{sum_by-cons}
use Rattle.std.proofs.lemmas.List.Elements.{All-cons, All-head, All-map, All-nil, All-tail}
use Rattle.page_face.specs.Causes.{IsUncounted}
use Rattle.page_face.specs.FreeList.{PageMap}
use Rattle.page_face.specs.declared.fault.Damage.{Damage}
use Rattle.page_face.specs.declared.fault.Rule.TheVariants.{Entry, Words, Counts}
use Rattle.page_store.specs.declared.superblock.Superblock.{Superblock}
use Rattle.place_values.specs.State.{IsSerialAbove}
use Rattle.spatial_base.specs.Key.{Name, form_of, key_cmp}
use Rattle.row_codec.specs.declared.counted.Counted.{Counted}
use Rattle.row_codec.specs.declared.stored.Stored.{Stored}
use Rattle.rtree_nodes.specs.Entries.{is_entry}
use Rattle.rtree_nodes.specs.Pages.{node_of}
use Rattle.rtree_nodes.specs.Reach.{place_item}
use Rattle.rtree_nodes.specs.Slots.{Item}
use Rattle.rtree_nodes.specs.Whole.{tree_sum}
use Rattle.store_tables.specs.Coded.{IsPlaceEntry}
use Rattle.store_tables.specs.Entries.{Entries, word_cmp}
use Rattle.store_tables.specs.Holding.{Holds}
use Rattle.store_tables.specs.Words.{WordTablesAgree}
use Rattle.store_model.specs.Stands.{tables_in}
use Rattle.store_model.proofs.Maps.{ascending-holds}
use Rattle.tree_check.specs.Agreement.{AreRight, AreSound, IsFirstWrong, IsNodePage}
use Rattle.tree_check.proofs.Listed.{tree-listed}
use Rattle.store_verify.specs.Breaks.{IsBroken, damage_at}
use Rattle.store_verify.specs.Tree.{node_uses}
use Rattle.store_verify.specs.Whole.{IsWhole, place_sum}
use Rattle.store_verify.proofs.Checked.{rows-whole}
use Rattle.store_verify.proofs.Missing.{row-named}
use Rattle.store_verify.specs.Sites.{AreApart, IsSite, Site, site_item, site_sum}
use Rattle.store_verify.specs.Words.{number_times}
use Rattle.store_verify.proofs.Held.{agree-places, places-agree}
use Rattle.store_verify.specs.Places.{sites_of}
use Rattle.store_verify.specs.Walked.{IsStoreWalked}

-- what is decided of words that are the same
pub words-decide : (b : Bool) (next : ℕ) (texts texts' : List (List ℕ × ℕ)) (numbers numbers' : List (ℕ × Counted)) (held held' : List ℕ) → texts' ≡ texts → numbers' ≡ numbers → held' ≡ held
    → (IsStrictlySortedBy word_cmp (keys_of texts') → IsStrictlySortedBy nat_cmp (keys_of numbers') → IsTrue b ↔ WordTablesAgree (number_times held') texts' numbers' next)
    → IsStrictlySortedBy word_cmp (keys_of texts) → IsStrictlySortedBy nat_cmp (keys_of numbers) → IsTrue b ↔ WordTablesAgree (number_times held) texts numbers next
words-decide b next texts texts' numbers numbers' held held' t n h law =
    subst (λ (ts : List (List ℕ × ℕ)). IsStrictlySortedBy word_cmp (keys_of ts) → IsStrictlySortedBy nat_cmp (keys_of numbers) → IsTrue b ↔ WordTablesAgree (number_times held) ts numbers next) t
    (subst (λ (ns : List (ℕ × Counted)). IsStrictlySortedBy word_cmp (keys_of texts') → IsStrictlySortedBy nat_cmp (keys_of ns) → IsTrue b ↔ WordTablesAgree (number_times held) texts' ns next) n
    (subst (λ (hs : List ℕ). IsStrictlySortedBy word_cmp (keys_of texts') → IsStrictlySortedBy nat_cmp (keys_of numbers') → IsTrue b ↔ WordTablesAgree (number_times hs) texts' numbers' next) h law))

-- the sites of places have their keys, in their order
sites-keys : (places : List (Name × Stored)) → keys_of (sites_of places) ≡ keys_of places
sites-keys [] = refl
sites-keys (e ∷ places) = ap (λ (ks : List Name). e.0 ∷ ks) (sites-keys places)

-- and are sites
sites-are : (places : List (Name × Stored)) → All IsPlaceEntry places → All IsSite (sites_of places)
sites-are [] each = All-nil IsSite
sites-are (e ∷ places) each =
    let own = All-head IsPlaceEntry e places each in
    All-cons IsSite (e.0, e.1.point) (sites_of places) (own.0, own.1.0.point) (sites-are places (All-tail IsPlaceEntry e places each))

-- a sum over sites is the one over their places
sites-sum : (f : Item → ℕ) (places : List (Name × Stored)) → site_sum f (sites_of places) ≡ place_sum f places
sites-sum f [] = refl
sites-sum f (e ∷ places) =
    let here = sum_by-cons (λ (s : Site). f (site_item s)) (e.0, e.1.point) (sites_of places) in
    let there = sum_by-cons (λ (p : Name × Stored). f (place_item p.1.point (form_of p.0))) e places in
    let rest = sites-sum f places in
    omega (arith, here, there, rest)

-- what holds of each site's key holds of each place's
sites-all : (P : Name → Type 0) (places : List (Name × Stored)) → All (λ (s : Site). P s.0) (sites_of places) → All (λ (e : Name × Stored). P e.0) places
sites-all P [] each = All-nil (λ (e : Name × Stored). P e.0)
sites-all P (e ∷ places) each =
    All-cons (λ (e : Name × Stored). P e.0) e places (All-head (λ (s : Site). P s.0) (e.0, e.1.point) (sites_of places) each)
    (sites-all P places (All-tail (λ (s : Site). P s.0) (e.0, e.1.point) (sites_of places) each))

all-sites : (P : Name → Type 0) (places : List (Name × Stored)) → All (λ (e : Name × Stored). P e.0) places → All (λ (s : Site). P s.0) (sites_of places)
all-sites P places each = All-map (λ (s : Site). P s.0) (λ (e : Name × Stored). (e.0, e.1.point)) places each

module _ (block : Superblock) (pages : PageMap) (list : List ℕ) (texts : List (List ℕ × ℕ)) (numbers : List (ℕ × Counted)) (sites : List Site) (held : List ℕ) (walked : IsStoreWalked block pages list texts numbers sites held) where
  -- what the tables hold
  abbrev pub entries : Entries
  entries = record { places = walked.tables.places.entries; texts = texts; numbers = numbers }

  abbrev places : List (Name × Stored)
  places = walked.tables.places.entries

  pub holds : Holds pages (tables_in block.head) entries
  holds = record { places = walked.tables.places.holds; texts = walked.tables.words; numbers = walked.tables.counted }

  each : All IsPlaceEntry places
  each = walked.tables.places.holds.each

  known : (n : ℕ) → IsUncounted block.counted n → node_uses block.head pages n ≡ 0
  known n u = let none = walked.tree.known n u in omega arith

  -- the tables and the rows' map are sound
  pub sound : AreSound pages block.counted block.head.rows (tables_in block.head) entries
  sound = record {
    readable = walked.readable;
    map = walked.tree.map;
    counted = λ n used u. (let none = walked.tree.known n u in absurd (omega arith));
    holds = holds;
    tables_counted = λ n used u. (let none = walked.tables.known n u in absurd (omega arith));
  }

  -- and the listed pages are nodes
  pub node-pages : AllByRecursion (IsNodePage pages block.counted) list
  node-pages = subst (λ (l : List ℕ). AllByRecursion (IsNodePage pages block.counted) l) (sym walked.tree.listed) (tree-listed pages block.counted block.head.tree walked.tree.tree known)

  -- ---- what is compared is in order

  pub are-sites : All IsSite sites
  are-sites = subst (λ (s : List Site). All IsSite s) (sym walked.tables.places.sites_are) (sites-are places each)

  pub sites-ascend : IsStrictlySortedBy key_cmp (keys_of sites)
  sites-ascend =
      subst (λ (ks : List Name). IsStrictlySortedBy key_cmp ks) (sym (ap keys_of walked.tables.places.sites_are ∙ sites-keys places)) (ascending-holds pages (tables_in block.head) entries holds).places

  pub texts-ascend : IsStrictlySortedBy word_cmp (keys_of texts)
  texts-ascend = (ascending-holds pages (tables_in block.head) entries holds).texts

  pub numbers-ascend : IsStrictlySortedBy nat_cmp (keys_of numbers)
  numbers-ascend = (ascending-holds pages (tables_in block.head) entries holds).numbers

  sum-is : (f : Item → ℕ) → site_sum f sites ≡ place_sum f places
  sum-is f = ap (site_sum f) walked.tables.places.sites_are ∙ sites-sum f places

  -- ---- a whole store

  pub whole-from : AllByRecursion (AreRight pages block.head.rows places) list → ((f : Item → ℕ) → tree_sum node_of pages block.head.tree f ≡ site_sum f sites)
      → WordTablesAgree (number_times held) texts numbers block.head.next_word
      → (block.head.live ≡ length sites) × All (λ (s : Site). IsSerialAbove block.head.serial s.0) sites → IsWhole block pages
  whole-from right leaves words counts = record {
    entries = entries;
    free = walked.free.free;
    head = walked.range;
    tables = holds;
    map = walked.tree.map;
    tree = walked.tree.tree;
    rows = rows-whole block.head pages block.counted places walked.tree.tree walked.tree.map each known
        (subst (λ (l : List ℕ). AllByRecursion (AreRight pages block.head.rows places) l) walked.tree.listed right) walked.tree.named;
    chain = walked.free.chain;
    once = walked.free.once;
    leaves = λ f. leaves f ∙ sum-is f;
    words = agree-places places texts numbers block.head.next_word each
        (subst (λ (h : List ℕ). WordTablesAgree (number_times h) texts numbers block.head.next_word) walked.tables.places.numbers_are words);
    counts = record {
      live = counts.0 ∙ ap (λ (s : List Site). length s) walked.tables.places.sites_are ∙ length-map places (λ (e : Name × Stored). (e.0, e.1.point));
      serials = sites-all (IsSerialAbove block.head.serial) places (subst (λ (s : List Site). All (λ (s : Site). IsSerialAbove block.head.serial s.0) s) walked.tables.places.sites_are counts.1);
    };
  }

  -- ---- a broken rule

  -- the rows of a node
  pub row-broken : (damage : Damage) → IsFirstWrong pages block.head.rows places list damage → IsBroken block pages damage
  row-broken damage first = row-named block pages entries damage holds walked.tree.tree (subst (λ (l : List ℕ). IsFirstWrong pages block.head.rows places l damage) walked.tree.listed first)

  -- the entries of the leaves
  pub entry-broken : (found : List Site) → ((f : Item → ℕ) → site_sum f found ≡ tree_sum node_of pages block.head.tree f) → AreApart found sites → IsBroken block pages (damage_at Entry 0)
  entry-broken found are apart = (
    refl,
    record {
      entries = entries;
      holds = holds;
      point = apart.site.1;
      bytes = form_of apart.site.0;
      apart = λ same. apart.apart (are (is_entry apart.site.1 (form_of apart.site.0)) ∙ same ∙ sym (sum-is (is_entry apart.site.1 (form_of apart.site.0))));
    },
  )

  -- the words
  pub words-broken : (WordTablesAgree (number_times held) texts numbers block.head.next_word → ⊥) → IsBroken block pages (damage_at Words 0)
  words-broken apart = (
    refl,
    record {
      entries = entries;
      holds = holds;
      apart = λ agree. apart (subst (λ (h : List ℕ). WordTablesAgree (number_times h) texts numbers block.head.next_word) (sym walked.tables.places.numbers_are)
          (places-agree places texts numbers block.head.next_word each agree));
    },
  )

  -- page 0's numbers
  pub counts-broken : ((block.head.live ≡ length sites) × All (λ (s : Site). IsSerialAbove block.head.serial s.0) sites → ⊥) → IsBroken block pages (damage_at Counts 0)
  counts-broken apart = (
    refl,
    record {
      entries = entries;
      holds = holds;
      apart = λ agree. apart (
        agree.live ∙ sym (length-map places (λ (e : Name × Stored). (e.0, e.1.point))) ∙ sym (ap (λ (s : List Site). length s) walked.tables.places.sites_are),
        subst (λ (s : List Site). All (λ (s : Site). IsSerialAbove block.head.serial s.0) s) (sym walked.tables.places.sites_are) (all-sites (IsSerialAbove block.head.serial) places agree.serials),
      );
    },
  )
