use Rattle.std.proofs.Common.{◌≡◌, ℕ, List, Err, length, sym, ap, subst, ◌∙◌, true≢false}
use Rattle.page_face.specs.FreeList.{PageMap}
use Rattle.page_face.specs.declared.fault.Damage.{Damage}
use Rattle.page_face.specs.declared.fault.Rule.TheVariants.{Entry}
use Rattle.page_store.specs.declared.superblock.Superblock.{Superblock}
use Rattle.btree_nodes.proofs.Walks.{same-fault}
use Rattle.page_walks.proofs.Misuses.{same-damage}
use Rattle.row_codec.specs.declared.counted.Counted.{Counted}
use Rattle.rtree_nodes.specs.Pages.{node_of}
use Rattle.rtree_nodes.specs.Slots.{Item}
use Rattle.rtree_nodes.specs.Whole.{tree_sum}
use Rattle.store_verify.specs.Sites.{AreGiven, Site, site_sum}
use Rattle.store_verify.specs.Breaks.{IsBroken, damage_at}
use Rattle.store_verify.specs.Verdicts.{block_of}
use Rattle.store_verify.specs.Walked.{IsStoreWalked}
use Rattle.store_verify.proofs.Walks.{stayed, stays}
use Rattle.store_verify.proofs.Wholes.{counts-broken, entries, node-pages, numbers-ascend, row-broken, sound, texts-ascend, whole-from, words-broken, words-decide}
use Rattle.store_verify.proofs.comparing.compare.Goals as goal

pub returns-in-Err-clause-damaged : goal.returns-in-Err-clause-damaged
returns-in-Err-clause-damaged g c = λ walked damage e.
    let p = g.P.Pages in
    let old = c.args.pages.now in
    let block : Superblock = block_of (p.count old) (p.first old) c.args.head.now in
    let pages : PageMap = p.pages old in
    let list : List ℕ = c.args.list.now in
    let texts : List (List ℕ × ℕ) = c.args.found.now.texts.items in
    let numbers : List (ℕ × Counted) = c.args.found.now.numbers.items in
    let sites : List Site = c.args.found.now.places.sites.items in
    let held : List ℕ = c.args.found.now.places.numbers.items in
    row-broken block pages list texts numbers sites held walked damage
    (c.in-Err.ensures.damaged (entries block pages list texts numbers sites held walked) (sound block pages list texts numbers sites held walked) (node-pages block pages list texts numbers sites held walked) damage e)

pub returns-in-Ok-false-clause-damaged : goal.returns-in-Ok-false-clause-damaged
returns-in-Ok-false-clause-damaged g c = λ walked damage e.
    let p = g.P.Pages in
    let old = c.args.pages.now in
    let mid = c.check_words.new.pages in
    let f = c.check_words.ensures.frame in
    let head = c.args.head.now in
    let block : Superblock = block_of (p.count old) (p.first old) head in
    let pages : PageMap = p.pages old in
    let list : List ℕ = c.args.list.now in
    let texts : List (List ℕ × ℕ) = c.args.found.now.texts.items in
    let numbers : List (ℕ × Counted) = c.args.found.now.numbers.items in
    let held : List ℕ = c.args.found.now.places.numbers.items in
    let walked' = stays (λ q n m. IsStoreWalked (block_of n m head) q list texts numbers c.deref.result.now held) pages (p.pages mid) (p.count old) (p.count mid) (p.first old) (p.first mid) f.pages f.count f.first
    (subst (λ (s : List Site). IsStoreWalked block pages list texts numbers s held) (sym c.deref.ensures.value) walked) in
    subst (λ (d : Damage). IsBroken block pages d) (same-damage _ _ (sym c.damaged.ensures ∙ same-fault _ _ e))
    (stayed (λ q n m. IsBroken (block_of n m head) q (damage_at Entry 0)) pages (p.pages mid) (p.count old) (p.count mid) (p.first old) (p.first mid) f.pages f.count f.first
    (c.in-Ok-false.ensures.apart head texts numbers held walked' c.in-Ok-false.field-0-test))

pub returns-in-Err-are_leaves-clause-damaged : goal.returns-in-Err-are_leaves-clause-damaged
returns-in-Err-are_leaves-clause-damaged g c = λ walked damage e.
    let p = g.P.Pages in
    let old = c.args.pages.now in
    let mid = c.check_words.new.pages in
    let f = c.check_words.ensures.frame in
    let head = c.args.head.now in
    let block : Superblock = block_of (p.count old) (p.first old) head in
    let pages : PageMap = p.pages old in
    let list : List ℕ = c.args.list.now in
    let texts : List (List ℕ × ℕ) = c.args.found.now.texts.items in
    let numbers : List (ℕ × Counted) = c.args.found.now.numbers.items in
    let held : List ℕ = c.args.found.now.places.numbers.items in
    let walked' = stays (λ q n m. IsStoreWalked (block_of n m head) q list texts numbers c.deref.result.now held) pages (p.pages mid) (p.count old) (p.count mid) (p.first old) (p.first mid) f.pages f.count f.first
    (subst (λ (s : List Site). IsStoreWalked block pages list texts numbers s held) (sym c.deref.ensures.value) walked) in
    absurd (c.in-Err-are_leaves.ensures.no_false_damage head texts numbers held walked' damage (ap Err (same-fault _ _ e)))

pub returns-in-Ok-false-words_agree-clause-damaged : goal.returns-in-Ok-false-words_agree-clause-damaged
returns-in-Ok-false-words_agree-clause-damaged g c = λ walked damage e.
    let p = g.P.Pages in
    let old = c.args.pages.now in
    let block : Superblock = block_of (p.count old) (p.first old) c.args.head.now in
    let pages : PageMap = p.pages old in
    let list : List ℕ = c.args.list.now in
    let texts : List (List ℕ × ℕ) = c.args.found.now.texts.items in
    let numbers : List (ℕ × Counted) = c.args.found.now.numbers.items in
    let sites : List Site = c.args.found.now.places.sites.items in
    let held : List ℕ = c.args.found.now.places.numbers.items in
    let decide = words-decide c.in-Ok-false-words_agree.field-0 c.args.head.now.next_word texts c.deref-2.result.now numbers c.deref-3.result.now held c.deref_mut.result.now
    c.deref-2.ensures.value c.deref-3.ensures.value c.deref_mut.ensures.value c.in-Ok-false-words_agree.ensures
    (texts-ascend block pages list texts numbers sites held walked) (numbers-ascend block pages list texts numbers sites held walked) in
    subst (λ (d : Damage). IsBroken block pages d) (same-damage _ _ (sym c.damaged-in-Ok-false-words_agree.ensures ∙ same-fault _ _ e))
    (words-broken block pages list texts numbers sites held walked (λ agree. true≢false (sym (decide.1 agree) ∙ c.in-Ok-false-words_agree.field-0-test)))

pub returns-then-counts_agree-clause-whole : goal.returns-then-counts_agree-clause-whole
returns-then-counts_agree-clause-whole g c = λ walked.
    let p = g.P.Pages in
    let old = c.args.pages.now in
    let mid = c.check_words.new.pages in
    let f = c.check_words.ensures.frame in
    let head = c.args.head.now in
    let block : Superblock = block_of (p.count old) (p.first old) head in
    let pages : PageMap = p.pages old in
    let list : List ℕ = c.args.list.now in
    let texts : List (List ℕ × ℕ) = c.args.found.now.texts.items in
    let numbers : List (ℕ × Counted) = c.args.found.now.numbers.items in
    let sites : List Site = c.args.found.now.places.sites.items in
    let held : List ℕ = c.args.found.now.places.numbers.items in
    let walked' = stays (λ q n m. IsStoreWalked (block_of n m head) q list texts numbers c.deref.result.now held) pages (p.pages mid) (p.count old) (p.count mid) (p.first old) (p.first mid) f.pages f.count f.first
    (subst (λ (s : List Site). IsStoreWalked block pages list texts numbers s held) (sym c.deref.ensures.value) walked) in
    let decide = words-decide c.in-Ok-true-words_agree.field-0 head.next_word texts c.deref-2.result.now numbers c.deref-3.result.now held c.deref_mut.result.now
    c.deref-2.ensures.value c.deref-3.ensures.value c.deref_mut.ensures.value c.in-Ok-true-words_agree.ensures
    (texts-ascend block pages list texts numbers sites held walked) (numbers-ascend block pages list texts numbers sites held walked) in
    whole-from block pages list texts numbers sites held walked
    (c.in-Ok.ensures.right (entries block pages list texts numbers sites held walked) (sound block pages list texts numbers sites held walked) (node-pages block pages list texts numbers sites held walked))
    (λ (x : Item → ℕ). stayed (λ q n m. tree_sum node_of q head.tree x ≡ site_sum x c.deref.result.now) pages (p.pages mid) (p.count old) (p.count mid) (p.first old) (p.first mid) f.pages f.count f.first
    (c.in-Ok-true.ensures.same head texts numbers held walked' c.in-Ok-true.field-0-test x) ∙ ap (λ (s : List Site). site_sum x s) c.deref.ensures.value)
    (decide.0 c.in-Ok-true-words_agree.field-0-test)
    (subst (λ (s : List Site). (head.live ≡ length s) × AreGiven head.serial s) c.deref-4.ensures.value (c.counts_agree.ensures.0 c.if-counts_agree.true))

pub returns-else-counts_agree-clause-damaged : goal.returns-else-counts_agree-clause-damaged
returns-else-counts_agree-clause-damaged g c = λ walked damage e.
    let p = g.P.Pages in
    let old = c.args.pages.now in
    let head = c.args.head.now in
    let block : Superblock = block_of (p.count old) (p.first old) head in
    let pages : PageMap = p.pages old in
    let list : List ℕ = c.args.list.now in
    let texts : List (List ℕ × ℕ) = c.args.found.now.texts.items in
    let numbers : List (ℕ × Counted) = c.args.found.now.numbers.items in
    let sites : List Site = c.args.found.now.places.sites.items in
    let held : List ℕ = c.args.found.now.places.numbers.items in
    subst (λ (d : Damage). IsBroken block pages d) (same-damage _ _ (sym c.damaged-else-counts_agree.ensures ∙ same-fault _ _ e))
    (counts-broken block pages list texts numbers sites held walked (λ both. true≢false (sym
    (c.counts_agree.ensures.1 (subst (λ (s : List Site). (head.live ≡ length s) × AreGiven head.serial s) (sym c.deref-4.ensures.value) both)) ∙ c.if-counts_agree.false)))
