use Rattle.std.proofs.Common.{◌≡◌, ◌≤◌, ℕ, List, sym, subst, arith}
use Rattle.std.specs.Prelude.{OnOk}
use Rattle.page_face.specs.Causes.{IsUncounted}
use Rattle.page_face.specs.FreeList.{PageMap}
use Rattle.page_face.proofs.Frames.{reads_then}
use Rattle.page_store.specs.Superblock.{IsInRange}
use Rattle.btree_nodes.specs.Damages.{AreReadable}
use Rattle.page_walks.specs.Met.{held}
use Rattle.page_walks.proofs.Chains.{readable}
use Rattle.store_verify.specs.Breaks.{IsBroken}
use Rattle.store_verify.specs.Whole.{IsWhole, store_uses}
use Rattle.store_verify.specs.Verdicts.{block_of}
use Rattle.store_verify.specs.Walked.{AreTablesWalked, AreUsedOrFree, IsStoreWalked}
use Rattle.store_verify.proofs.Walks.{stayed, stays}
use Rattle.store_verify.proofs.verdict.check.Given as given
use Rattle.store_verify.proofs.verdict.check.Goals.{After-drop-list-2}
use Rattle.store_verify.proofs.verdict.check.Goals as goal

-- all structures were walked as they were at first
walked : (g : given.Over) (c : After-drop-list-2 g) → AreReadable (g.P.Pages.pages c.args.pages.now) (g.P.Pages.count c.args.pages.now)
    → IsInRange (block_of (g.P.Pages.count c.args.pages.now) (g.P.Pages.first c.args.pages.now) c.args.head.now)
    → IsStoreWalked (block_of (g.P.Pages.count c.args.pages.now) (g.P.Pages.first c.args.pages.now) c.args.head.now) (g.P.Pages.pages c.args.pages.now) c.deref.result.now
    c.in-Ok-walk_tables.found.texts.items c.in-Ok-walk_tables.found.numbers.items c.in-Ok-walk_tables.found.places.sites.items c.in-Ok-walk_tables.found.places.numbers.items
walked g c told range =
    let p = g.P.Pages in
    let head = c.args.head.now in
    let old = c.args.pages.now in
    let mid = c.walk_tree.new.pages in
    let last = c.walk_tables.new.pages in
    let f = c.walk_tree.ensures.frame in
    let h = reads_then g.P.Pages g.met.P.Pages.goes_further g.met.P.Pages.reads_further _ _ _ f c.walk_tables.ensures.frame in
    let pages : PageMap = p.pages old in
    let found = c.in-Ok-walk_tables.found in
    let met : ℕ → ℕ = held c.in-Ok.nodes.met in
    let now : ℕ → ℕ = held c.walk_tables.new.met in
    let told' = readable pages (p.pages mid) (p.count old) (p.count mid) f.pages f.count told in
    let told'' = readable pages (p.pages last) (p.count old) (p.count last) h.pages h.count told in
    let tree = c.in-Ok.ensures.walked told in
    let tables = stayed (λ q n m. AreTablesWalked (block_of n m head) q met now found.texts.items found.numbers.items found.places.sites.items found.places.numbers.items)
    pages (p.pages mid) (p.count old) (p.count mid) (p.first old) (p.first mid) f.pages f.count f.first (c.in-Ok-walk_tables.ensures.walked told') in
    let all = stays (λ q n m. (k : ℕ) → now k ≡ store_uses head q k) pages (p.pages last) (p.count old) (p.count last) (p.first old) (p.first last) h.pages h.count h.first
    (λ k. let a = tree.met_are k in let b = tables.met_are k in omega arith) in
    let known = stays (λ q n m. (k : ℕ) → IsUncounted n k → store_uses head q k ≡ 0) pages (p.pages last) (p.count old) (p.count last) (p.first old) (p.first last) h.pages h.count h.first
    (λ k u. let a = tree.known k u in let b = tables.known k u in omega arith) in
    let some : 1 ≤ p.count last = (let r = range.counted in let same = h.count in omega arith) in
    let free = stayed (λ q n m. AreUsedOrFree (block_of n m head) q) pages (p.pages last) (p.count old) (p.count last) (p.first old) (p.first last) h.pages h.count h.first
    (c.in-Ok-walk_free_pages.ensures.walked head told'' all known some) in
    subst (λ (l : List ℕ). IsStoreWalked (block_of (p.count old) (p.first old) head) pages l found.texts.items found.numbers.items found.places.sites.items found.places.numbers.items) (sym c.deref.ensures.value)
    (record { readable = told; range = range; met = met; before = met; now = now; tree = tree; tables = tables; free = free })

pub returns-clause-whole : goal.returns-clause-whole
returns-clause-whole g c = λ told range.
    let p = g.P.Pages in
    let head = c.args.head.now in
    let old = c.args.pages.now in
    let last = c.walk_free_pages.new.pages in
    let f = reads_then g.P.Pages g.met.P.Pages.goes_further g.met.P.Pages.reads_further _ _ _ (reads_then g.P.Pages g.met.P.Pages.goes_further g.met.P.Pages.reads_further _ _ _ c.walk_tree.ensures.frame c.walk_tables.ensures.frame) c.walk_free_pages.ensures.frame in
    let found = c.in-Ok-walk_tables.found in
    stayed (λ q n m. OnOk c.compare.result (IsWhole (block_of n m head) q)) (p.pages old) (p.pages last) (p.count old) (p.count last) (p.first old) (p.first last) f.pages f.count f.first
    (c.compare.ensures.whole
    (stays (λ q n m. IsStoreWalked (block_of n m head) q c.deref.result.now found.texts.items found.numbers.items found.places.sites.items found.places.numbers.items)
    (p.pages old) (p.pages last) (p.count old) (p.count last) (p.first old) (p.first last) f.pages f.count f.first (walked g (goal.at.returns-clause-whole g c).After-drop-list-2 told range)))

pub returns-clause-damaged : goal.returns-clause-damaged
returns-clause-damaged g c = λ told range damage e.
    let p = g.P.Pages in
    let head = c.args.head.now in
    let old = c.args.pages.now in
    let last = c.walk_free_pages.new.pages in
    let f = reads_then g.P.Pages g.met.P.Pages.goes_further g.met.P.Pages.reads_further _ _ _ (reads_then g.P.Pages g.met.P.Pages.goes_further g.met.P.Pages.reads_further _ _ _ c.walk_tree.ensures.frame c.walk_tables.ensures.frame) c.walk_free_pages.ensures.frame in
    let found = c.in-Ok-walk_tables.found in
    stayed (λ q n m. IsBroken (block_of n m head) q damage) (p.pages old) (p.pages last) (p.count old) (p.count last) (p.first old) (p.first last) f.pages f.count f.first
    (c.compare.ensures.damaged
    (stays (λ q n m. IsStoreWalked (block_of n m head) q c.deref.result.now found.texts.items found.numbers.items found.places.sites.items found.places.numbers.items)
    (p.pages old) (p.pages last) (p.count old) (p.count last) (p.first old) (p.first last) f.pages f.count f.first (walked g (goal.at.returns-clause-damaged g c).After-drop-list-2 told range)) damage e)

pub returns-clause-frame : goal.returns-clause-frame
returns-clause-frame g c = reads_then g.P.Pages g.met.P.Pages.goes_further g.met.P.Pages.reads_further _ _ _ (reads_then g.P.Pages g.met.P.Pages.goes_further g.met.P.Pages.reads_further _ _ _ (reads_then g.P.Pages g.met.P.Pages.goes_further g.met.P.Pages.reads_further _ _ _ c.walk_tree.ensures.frame c.walk_tables.ensures.frame) c.walk_free_pages.ensures.frame) c.compare.ensures.frame
