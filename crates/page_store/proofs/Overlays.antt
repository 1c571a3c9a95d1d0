-- What a commit of an overlay leaves.
use Rattle.std.proofs.Common.{cond, ◌≤◌, ◌≡◌, Result, Ok, Err, OnOk, ◌≢◌, ◌⊎◌, inl, inr, ⊎_elim, ℕ, zero, suc, ◌+◌, ◌*◌, ◌<◌, Bool, true, List, [], ◌∷◌, length, get_or, slice_index, nat_eq, nat_lt, ◌==◌, if◌then◌else◌, Option, Some, None, option_map, Box, refl, sym, ◌∙◌, ap, subst, arith}
use Rattle.std.specs.Map.{keys_of, lookup}
use Rattle.std.specs.BTreeMap.{is_at, IsOrdered}
use Rattle.std.specs.List.Sorted.{IsStrictlySortedBy}
use Rattle.std.specs.Ordering.{nat_cmp}
use Rattle.std.specs.declared.alloc.Global.{Global}
use Rattle.std.proofs.lemmas.Map.Keys.{below_from_sorted}
use Rattle.std.proofs.lemmas.Bool.Decides.{nat_tests}
use Rattle.std.proofs.lemmas.Bool.{cases_eq, cond-true, cond-false}
use mathlib.Core.Path.{fun_ext}
use Rattle.disk_model.specs.World.{World, LeavesOnly}
use Rattle.disk_model.proofs.Moments.{then, within}
use Rattle.page_face.specs.Causes.{IsUncounted}
use Rattle.page_face.specs.FreeList.{PageMap, with_page}
use Rattle.page_journal.specs.Record.{IsAscending, applied, batch_of, given, with_batch, IsBeforeOrAfter, IsReady, LeavesPages, StandsFor}
use Rattle.page_journal.proofs.Batches.{page_here, page_elsewhere, length_given, number_given}
use Rattle.page_cache.specs.Rooms.{Ordered, ordered_page}
use Rattle.page_cache.proofs.Tables.{same_key, other_key}
use Rattle.page_store.specs.declared.superblock.Superblock.{Superblock}
use Rattle.page_store.specs.Superblock.{superblock_in, IsInRange, IsStorePage}
use Rattle.page_store.specs.Contents.{page_bytes, Overlay, page_in, IsSized, first_of, shown, counted_pages, contents_in, contents_of, HoldsOneOf}
use Rattle.page_store.specs.Contents.{IsCommitted, IsVersion1Page}
use Rattle.page_store.specs.Held.{IsRecordOfTable}
use Rattle.page_store.proofs.Bytes.{page_bytes-read, page_bytes-same}

-- each page of an ordered map has 4,096 bytes
abbrev pub AreSized : Ordered → Type 0
AreSized ordered = (n : ℕ) (page : List ℕ) → ordered_page ordered n ≡ Some page → length page ≡ 4096

-- the place of a page among the entries
pub record Found (entries : List (ℕ × Box (List ℕ) Global)) (n : ℕ) : Type 0 where
  pub place : ℕ
  pub page : Box (List ℕ) Global
  pub lt : place < length entries
  pub number : (get_or (given entries) place (0, [])).0 ≡ n
  pub bytes : (get_or (given entries) place (0, [])).1 ≡ page.value
  pub at : lookup (is_at (nat_cmp n)) entries ≡ Some page

-- no entry has this page
pub record Missing (entries : List (ℕ × Box (List ℕ) Global)) (n : ℕ) : Type 0 where
  pub apart : (k : ℕ) → k < length entries → (get_or (given entries) k (0, [])).0 ≢ n
  pub at : lookup (is_at (nat_cmp n)) entries ≡ None

apart_more : (e : ℕ × Box (List ℕ) Global) (entries : List (ℕ × Box (List ℕ) Global)) (n : ℕ) → (n ≡ e.0 → ⊥) → ((k : ℕ) → k < length entries → (get_or (given entries) k (0, [])).0 ≢ n)
    → (k : ℕ) → k < length (e ∷ entries) → (get_or (given (e ∷ entries)) k (0, [])).0 ≢ n
apart_more e entries n ne rest zero lt is = ne (sym is)
apart_more e entries n ne rest (suc k) lt is = rest k (omega arith) is

pub found_or_missing : (entries : List (ℕ × Box (List ℕ) Global)) (n : ℕ) → Found entries n ⊎ Missing entries n
found_or_missing [] n = inr record { apart = λ k lt. absurd (omega arith); at = refl }
found_or_missing (e ∷ entries) n = ⊎_elim
    (λ (same : n ≡ e.0). inl record { place = 0; page = e.1; lt = omega arith; number = sym same; bytes = refl; at = cond-true _ _ _ (same_key n e.0 same) })
    (λ (ne : n ≡ e.0 → ⊥). ⊎_elim
    (λ (f : Found entries n). inl record { place = suc f.place; page = f.page; lt = omega (arith, f.lt); number = f.number; bytes = f.bytes; at = cond-false _ _ _ (other_key n e.0 ne) ∙ f.at })
    (λ (m : Missing entries n). inr record { apart = apart_more e entries n ne m.apart; at = cond-false _ _ _ (other_key n e.0 ne) ∙ m.at })
    (found_or_missing entries n))
    (cases_eq n e.0)

length_keys : (entries : List (ℕ × Box (List ℕ) Global)) → length (keys_of entries) ≡ length entries
length_keys [] = refl
length_keys (e ∷ entries) = ap (λ (n : ℕ). suc n) (length_keys entries)

-- a later entry has another page
later_apart : (entries : List (ℕ × Box (List ℕ) Global)) → IsStrictlySortedBy nat_cmp (keys_of entries) → (k m : ℕ) → k < m → m < length entries
    → (get_or (given entries) m (0, [])).0 ≢ (get_or (given entries) k (0, [])).0
later_apart entries sorted k m lt within is =
    let a = number_given entries k in
    let b = number_given entries m in
    let o = below_from_sorted (keys_of entries) k m 0 sorted lt (omega (arith, length_keys entries)) in
    omega arith

-- the numbers of a map's entries ascend
pub ascending_entries : (entries : List (ℕ × Box (List ℕ) Global)) → IsStrictlySortedBy nat_cmp (keys_of entries) → IsAscending (batch_of (given entries))
ascending_entries entries sorted k lt =
    let a = number_given entries k in
    let b = number_given entries (k + 1) in
    let o = below_from_sorted (keys_of entries) k (k + 1) 0 sorted (omega arith) (omega (arith, lt, length_keys entries, length_given entries)) in
    omega arith

-- with a map's entries written a page is the map's, and else the one from before
pub page_bytes-with_entries : (entries : List (ℕ × Box (List ℕ) Global)) (area : ℕ → ℕ) (n : ℕ) → IsStrictlySortedBy nat_cmp (keys_of entries)
    → ((page : Box (List ℕ) Global) → lookup (is_at (nat_cmp n)) entries ≡ Some page → length page.value ≡ 4096)
    → page_bytes (with_batch (batch_of (given entries)) area) n ≡ first_of (option_map (λ (p : Box (List ℕ) Global). p.value) (lookup (is_at (nat_cmp n)) entries)) (page_bytes area n)
page_bytes-with_entries entries area n sorted sized =
    let b = batch_of (given entries) in
    let after = with_batch b area in
    let count = length_given entries in
    ⊎_elim
    (λ (f : Found entries n).
    let long : length f.page.value ≡ 4096 = sized f.page f.at in
    let stands : (i j : ℕ) → i < length f.page.value → 4096 * n + i ≡ j → slice_index f.page.value i ≡ after j = λ i j lt is.
    let small : i < 4096 = omega arith in
    let place : 4096 * b.number f.place + i ≡ j = ap (λ (m : ℕ). 4096 * m + i) f.number ∙ is in
    let here : after (4096 * b.number f.place + i) ≡ b.byte f.place i = page_here b (length (given entries)) f.place i area (omega (arith, f.lt)) (λ m low high. later_apart entries sorted f.place m low (omega arith)) small in
    ap (λ (l : List ℕ). slice_index l i) (sym f.bytes) ∙ sym here ∙ ap after place in
    sym (page_bytes-read after n f.page.value long stands) ∙ sym (ap (λ (o : Option (Box (List ℕ) Global)). first_of (option_map (λ (p : Box (List ℕ) Global). p.value) o) (page_bytes area n)) f.at))
    (λ (m : Missing entries n).
    page_bytes-same _ area n (λ j lt. page_elsewhere b n j area (λ k within is. m.apart k (omega arith) (sym is)) lt)
    ∙ sym (ap (λ (o : Option (Box (List ℕ) Global)). first_of (option_map (λ (p : Box (List ℕ) Global). p.value) o) (page_bytes area n)) m.at))
    (found_or_missing entries n)

-- after a commit a page is the record's, and else the one from before
pub page_bytes-with_batch : (whole : Ordered) (area : ℕ → ℕ) (n : ℕ) → IsOrdered nat_cmp whole → AreSized whole
    → page_bytes (with_batch (batch_of (given whole.entries)) area) n ≡ first_of (ordered_page whole n) (page_bytes area n)
page_bytes-with_batch whole area n ordered sized =
    page_bytes-with_entries whole.entries area n ordered (λ page is. sized n page.value (ap (λ (o : Option (Box (List ℕ) Global)). option_map (λ (p : Box (List ℕ) Global). p.value) o) is))

-- The pages of a record are those of an overlay, with a page 0 in the place of its own.
pub record IsWhole (overlay : Overlay) (head : List ℕ) (whole : Ordered) : Type 0 where
  pub sized : AreSized whole
  pub at_0 : ordered_page whole 0 ≡ Some head
  pub others : (n : ℕ) → n ≢ 0 → ordered_page whole n ≡ page_in overlay n

-- so are those of the table that page 0 was put into
pub whole_of : (overlay written : Overlay) (head bytes : List ℕ) → IsSized written → page_in written 0 ≡ Some head → ((n : ℕ) → n ≢ 0 → page_in written n ≡ page_in overlay n)
    → (r : IsRecordOfTable written bytes) → IsWhole overlay head r.ordered
whole_of overlay written head bytes sized at_0 others r = record {
  sized = λ n page is. sized n page (sym (r.same n) ∙ is);
  at_0 = r.same 0 ∙ at_0;
  others = λ n ne. r.same n ∙ others n ne;
}

-- a commit of an overlay with page 0 leaves the contents that the overlay and page 0's fields hold
pub committed_contents : (overlay : Overlay) (whole : Ordered) (area : ℕ → ℕ) (block : Superblock) (head : List ℕ) → IsOrdered nat_cmp whole → AreSized whole → ordered_page whole 0 ≡ Some head → superblock_in head ≡ block
    → ((n : ℕ) → n ≢ 0 → ordered_page whole n ≡ page_in overlay n) → contents_in (with_batch (batch_of (given whole.entries)) area) ≡ contents_of area overlay block
committed_contents overlay whole area block head ordered sized at_0 law others =
    let after = with_batch (batch_of (given whole.entries)) area in
    let block_is : superblock_in (page_bytes after 0) ≡ block =
    ap superblock_in (page_bytes-with_batch whole area 0 ordered sized ∙ ap (λ (o : Option (List ℕ)). first_of o (page_bytes area 0)) at_0) ∙ law in
    ap (λ (b : Superblock). record { block = b; pages = counted_pages b.counted (page_bytes after) }) block_is
    ∙ ap (λ (p : PageMap). record { block = block; pages = p }) (fun_ext pages)
  where
    pages : (n : ℕ) → counted_pages block.counted (page_bytes (with_batch (batch_of (given whole.entries)) area)) n ≡ counted_pages block.counted (shown true area overlay) n
    pages zero = refl
    pages (suc m) = ap (λ (l : List ℕ). if suc m == 0 then [] else if nat_lt (suc m) block.counted then l else [])
        (page_bytes-with_batch whole area (suc m) ordered sized ∙ ap (λ (o : Option (List ℕ)). first_of o (page_bytes area (suc m))) (others (suc m) (λ e. omega arith)))

-- and the pages stay, once the overlay is cleared
pub committed_pages : (readable : Bool) (cleared overlay : Overlay) (whole : Ordered) (area : ℕ → ℕ) (count : ℕ) → readable ≡ true → cleared.entries ≡ [] → IsOrdered nat_cmp whole → AreSized whole → ((n : ℕ) → n ≢ 0 → ordered_page whole n ≡ page_in overlay n)
    → counted_pages count (shown readable (with_batch (batch_of (given whole.entries)) area) cleared) ≡ counted_pages count (shown readable area overlay)
committed_pages readable cleared overlay whole area count is_told none ordered sized others =
    let after = with_batch (batch_of (given whole.entries)) area in
    let told : counted_pages count (shown true after cleared) ≡ counted_pages count (shown true area overlay) = fun_ext pages in
    subst (λ (b : Bool). counted_pages count (shown b after cleared) ≡ counted_pages count (shown b area overlay)) (sym is_told) told
  where
    pages : (n : ℕ) → counted_pages count (shown true (with_batch (batch_of (given whole.entries)) area) cleared) n ≡ counted_pages count (shown true area overlay) n
    pages zero = refl
    pages (suc m) =
        let empty : page_in cleared (suc m) ≡ None = ap (λ (es : List (ℕ × Box (List ℕ) Global)). option_map (λ (p : Box (List ℕ) Global). p.value) (lookup (nat_eq (suc m)) es)) none in
        ap (λ (l : List ℕ). if suc m == 0 then [] else if nat_lt (suc m) count then l else [])
        (ap (λ (o : Option (List ℕ)). first_of o (page_bytes (with_batch (batch_of (given whole.entries)) area) (suc m))) empty
        ∙ page_bytes-with_batch whole area (suc m) ordered sized ∙ ap (λ (o : Option (List ℕ)). first_of o (page_bytes area (suc m))) (others (suc m) (λ e. omega arith)))

-- an overlay without a page shows what the area holds
pub cleared_contents : (cleared : Overlay) (area : ℕ → ℕ) (block : Superblock) → cleared.entries ≡ [] → superblock_in (page_bytes area 0) ≡ block → contents_of area cleared block ≡ contents_in area
cleared_contents cleared area block none head =
    ap (λ (p : PageMap). record { block = block; pages = p }) (fun_ext pages)
    ∙ sym (ap (λ (b : Superblock). record { block = b; pages = counted_pages b.counted (page_bytes area) }) head)
  where
    pages : (n : ℕ) → counted_pages block.counted (shown true area cleared) n ≡ counted_pages block.counted (page_bytes area) n
    pages n =
        let empty : page_in cleared n ≡ None = ap (λ (es : List (ℕ × Box (List ℕ) Global)). option_map (λ (p : Box (List ℕ) Global). p.value) (lookup (nat_eq n) es)) none in
        ap (λ (o : Option (List ℕ)). if n == 0 then [] else if nat_lt n block.counted then first_of o (page_bytes area n) else []) empty

-- page 0 after a commit is the one in the overlay
pub page_0 : (whole : Ordered) (area : ℕ → ℕ) (head : List ℕ) → IsOrdered nat_cmp whole → AreSized whole → ordered_page whole 0 ≡ Some head → page_bytes (with_batch (batch_of (given whole.entries)) area) 0 ≡ head
page_0 whole area head ordered sized at_0 = page_bytes-with_batch whole area 0 ordered sized ∙ ap (λ (o : Option (List ℕ)). first_of o (page_bytes area 0)) at_0

-- once the overlay's record is written the disk is as a commit leaves it
pub committed_by : (whole : Ordered) (area : ℕ → ℕ) (block : Superblock) (head : List ℕ) (at : ℕ) (new : World) → IsOrdered nat_cmp whole → AreSized whole → ordered_page whole 0 ≡ Some head → superblock_in head ≡ block
    → (IsInRange block → IsStorePage head) → IsVersion1Page block head → IsReady at new → applied new.seen ≡ with_batch (batch_of (given whole.entries)) area → IsCommitted block at new
committed_by whole area block head at new ordered sized at_0 law store old ready written =
    let page : page_bytes (applied new.seen) 0 ≡ head = ap (λ (p : ℕ → ℕ). page_bytes p 0) written ∙ page_0 whole area head ordered sized at_0 in
    record {
      ready = ready;
      head = ap superblock_in page ∙ law;
      page = λ range. subst IsStorePage (sym page) (store range);
      version1 = subst (IsVersion1Page block) (sym page) old;
    }

-- while room is made a crash leaves the contents from before
pub room_leaves : (block last : Superblock) (at : ℕ) (overlay : Overlay) (old new : World) → IsCommitted last at old → LeavesOnly old new (LeavesPages (applied old.seen) old)
    → LeavesOnly old new (HoldsOneOf (contents_in (applied old.seen)) (contents_of (applied old.seen) overlay block) old)
room_leaves block last at overlay old new committed leaves =
    let still = subst (λ (b : Superblock). IsVersion1Page b (page_bytes (applied old.seen) 0)) (sym committed.head) committed.version1 in
    within leaves (λ image said d. (
      inl record { area = applied old.seen; stands = d.0; holds = refl; page = λ range. committed.page (subst IsInRange committed.head range); version1 = still },
      d.1,
    ))

-- and then, while the record is written, those from before or those of the overlay
pub commit_leaves : (overlay : Overlay) (whole : Ordered) (block last : Superblock) (head : List ℕ) (at : ℕ) (old mid new : World) → IsOrdered nat_cmp whole → AreSized whole → ordered_page whole 0 ≡ Some head → superblock_in head ≡ block
    → ((n : ℕ) → n ≢ 0 → ordered_page whole n ≡ page_in overlay n) → (IsInRange block → IsStorePage head) → IsVersion1Page block head
    → IsCommitted last at old → LeavesOnly old mid (LeavesPages (applied old.seen) old) → applied mid.seen ≡ applied old.seen → mid.said ≡ old.said → LeavesOnly mid new (IsBeforeOrAfter (batch_of (given whole.entries)) mid)
    → LeavesOnly old new (HoldsOneOf (contents_in (applied old.seen)) (contents_of (applied old.seen) overlay block) old)
commit_leaves overlay whole block last head at old mid new ordered sized at_0 law others store fits committed room same quiet leaves =
    let still = subst (λ (b : Superblock). IsVersion1Page b (page_bytes (applied old.seen) 0)) (sym committed.head) committed.version1 in
    let batch = batch_of (given whole.entries) in
    (then) (room_leaves block last at overlay old mid committed room) (within leaves (λ image said d. (
      ⊎_elim
          (λ (s : StandsFor image (applied mid.seen)). inl record {
            area = applied old.seen;
            stands = subst (λ (p : ℕ → ℕ). StandsFor image p) same s;
            holds = refl;
            page = λ range. committed.page (subst IsInRange committed.head range);
            version1 = still;
          })
          (λ (s : StandsFor image (with_batch batch (applied mid.seen))). inr record {
            area = with_batch batch (applied old.seen);
            stands = subst (λ (p : ℕ → ℕ). StandsFor image (with_batch batch p)) same s;
            holds = committed_contents overlay whole (applied old.seen) block head ordered sized at_0 law others;
            page = λ range. subst IsStorePage (sym (page_0 whole (applied old.seen) head ordered sized at_0)) (store range);
            version1 = subst (IsVersion1Page block) (sym (page_0 whole (applied old.seen) head ordered sized at_0)) fits;
          })
          d.0,
      d.1 ∙ quiet,
    )))

-- an overlay without a page holds none of another length
pub cleared_sized : (overlay : Overlay) → overlay.entries ≡ [] → IsSized overlay
cleared_sized overlay none n page is =
    let empty : page_in overlay n ≡ None = ap (λ (es : List (ℕ × Box (List ℕ) Global)). option_map (λ (p : Box (List ℕ) Global). p.value) (lookup (nat_eq n) es)) none in
    cc

-- ---- a page that was written

-- a page that is counted
counted_here : (count n : ℕ) (pages : PageMap) → 0 < n → n < count → counted_pages count pages n ≡ pages n
counted_here count n pages some within = grind (arith, nat_tests)

written_here : (page n : ℕ) (bytes : List ℕ) (pages : PageMap) → n ≡ page → with_page page bytes pages n ≡ bytes
written_here page n bytes pages same = grind (arith, nat_tests)

written_beside : (page n : ℕ) (bytes : List ℕ) (pages : PageMap) → (n ≡ page → ⊥) → with_page page bytes pages n ≡ pages n
written_beside page n bytes pages ne = grind (arith, nat_tests)

-- what a call that succeeds says, by another of its clauses
pub on_ok : {T E : Type 0} {A B : Type 0} (result : Result T E) → OnOk result A → (A → B) → OnOk result B
on_ok (Ok x) a f = f a
on_ok (Err e) a f = tt

-- an overlay into which a counted page was put shows the pages with that one written
pub put_shows : (readable : Bool) (area : ℕ → ℕ) (overlay later : Overlay) (count page : ℕ) (bytes : List ℕ) → (IsUncounted count page → ⊥) → page_in later page ≡ Some bytes
    → ((n : ℕ) → n ≢ page → page_in later n ≡ page_in overlay n) → counted_pages count (shown readable area later) ≡ with_page page bytes (counted_pages count (shown readable area overlay))
put_shows readable area overlay later count page bytes counted here others =
    let some : (page ≡ 0) → ⊥ = λ e. counted (inl e) in
    let within : count ≤ page → ⊥ = λ e. counted (inr e) in
    fun_ext (λ n. ⊎_elim
    (λ (same : n ≡ page).
    counted_here count n (shown readable area later) (omega arith) (omega arith)
    ∙ ap (λ (o : Option (List ℕ)). first_of o (cond readable (page_bytes area n) [])) (ap (page_in later) same ∙ here)
    ∙ sym (written_here page n bytes (counted_pages count (shown readable area overlay)) same))
    (λ (ne : n ≡ page → ⊥).
    ap (λ (o : Option (List ℕ)). if n == 0 then [] else if nat_lt n count then first_of o (cond readable (page_bytes area n) []) else []) (others n ne)
    ∙ sym (written_beside page n bytes (counted_pages count (shown readable area overlay)) ne))
    (cases_eq n page))
