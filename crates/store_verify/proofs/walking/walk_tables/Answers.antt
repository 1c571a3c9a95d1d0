use Rattle.std.proofs.Common.{◌≡◌, ◌+◌, ℕ, refl, subst, arith}
use Rattle.page_face.specs.FreeList.{PageMap}
use Rattle.page_face.specs.declared.fault.Damage.{Damage}
use Rattle.page_store.specs.declared.superblock.Superblock.{Superblock}
use Rattle.btree_nodes.proofs.Walks.{same-fault}
use Rattle.page_walks.proofs.Misuses.{same-damage}
use Rattle.page_walks.proofs.Chains.{readable}
use Rattle.page_walks.specs.Met.{held}
use Rattle.store_verify.specs.Breaks.{IsBroken}
use Rattle.store_verify.specs.Verdicts.{block_of}
use Rattle.std.specs.Prelude.{Result, Ok, OnOk}
use Rattle.btree_nodes.specs.Tree.{map_uses}
use Rattle.page_walks.specs.Maps.{IsBadMap}
use Rattle.store_tables.specs.Holding.{numbers_form, texts_form}
use Rattle.store_verify.specs.Breaks.{BreaksNumberRow, BreaksTextRow}
use Rattle.page_face.proofs.Frames.{reads_then}
use Rattle.store_verify.proofs.Walks.{numbers-broken, places-broken, stayed, texts-broken}
use Rattle.store_verify.proofs.walking.walk_tables.Goals as goal

-- what holds of a result that is so
if-ok : {T E : Type 0} {X : Type 0} (r : Result T E) (v : T) → r ≡ Ok v → OnOk r X → X
if-ok {T = T} {E = E} {X = X} r v is x = subst (λ (q : Result T E). OnOk q X) is x

pub returns-in-Ok-Err-clause-damaged : goal.returns-in-Ok-Err-clause-damaged
returns-in-Ok-Err-clause-damaged g c = λ told met damage e.
    let p = g.P.Pages in
    let block : Superblock = block_of (p.count c.args.pages.now) (p.first c.args.pages.now) c.args.head.now in
    subst (λ (d : Damage). IsBroken block (p.pages c.args.pages.now) d) (same-damage _ _ (same-fault _ _ e))
    (places-broken block (p.pages c.args.pages.now) c.in-Ok-Err.damage (held c.args.met.now) (λ n. let m = met n in omega arith) (c.in-Ok-Err.ensures.damaged told c.in-Ok-Err.damage c.in-Ok-Err.field-0-is))

pub returns-in-Ok-Err-texts_of-clause-damaged : goal.returns-in-Ok-Err-texts_of-clause-damaged
returns-in-Ok-Err-texts_of-clause-damaged g c = λ told met damage e.
    let p = g.P.Pages in
    let old = c.args.pages.now in
    let mid = c.places_of.new.pages in
    let f = c.places_of.ensures.frame in
    let pages : PageMap = p.pages old in
    let block : Superblock = block_of (p.count old) (p.first old) c.args.head.now in
    let told' = readable pages (p.pages mid) (p.count old) (p.count mid) f.pages f.count told in
    let gains = if-ok c.in-Ok-Ok.field-0 c.in-Ok-Ok.places c.in-Ok-Ok.field-0-is (c.in-Ok-Ok.ensures.gains told) in
    subst (λ (d : Damage). IsBroken block pages d) (same-damage _ _ (same-fault _ _ e))
    (texts-broken block pages c.in-Ok-Err-texts_of.damage (held c.places_of.new.seen) (λ n. let m = met n in let a = gains n in omega arith)
    (stayed (λ q n m. IsBadMap BreaksTextRow texts_form q n (held c.places_of.new.seen) c.args.head.now.texts c.in-Ok-Err-texts_of.damage) pages (p.pages mid) (p.count old) (p.count mid) 0 0 f.pages f.count refl
    (c.in-Ok-Err-texts_of.ensures.damaged told' c.in-Ok-Err-texts_of.damage c.in-Ok-Err-texts_of.field-0-is)))

pub returns-in-Ok-Err-numbers_of-clause-damaged : goal.returns-in-Ok-Err-numbers_of-clause-damaged
returns-in-Ok-Err-numbers_of-clause-damaged g c = λ told met damage e.
    let p = g.P.Pages in
    let old = c.args.pages.now in
    let mid = c.places_of.new.pages in
    let last = c.texts_of.new.pages in
    let f = c.places_of.ensures.frame in
    let h = reads_then g.P.Pages g.met.P.Pages.goes_further g.met.P.Pages.reads_further _ _ _ f c.texts_of.ensures.frame in
    let pages : PageMap = p.pages old in
    let block : Superblock = block_of (p.count old) (p.first old) c.args.head.now in
    let told' = readable pages (p.pages mid) (p.count old) (p.count mid) f.pages f.count told in
    let told'' = readable pages (p.pages last) (p.count old) (p.count last) h.pages h.count told in
    let gains = if-ok c.in-Ok-Ok.field-0 c.in-Ok-Ok.places c.in-Ok-Ok.field-0-is (c.in-Ok-Ok.ensures.gains told) in
    let more = if-ok c.in-Ok-Ok-texts_of.field-0 c.in-Ok-Ok-texts_of.texts c.in-Ok-Ok-texts_of.field-0-is (c.in-Ok-Ok-texts_of.ensures.gains told') in
    let more' = stayed (λ q n m. (k : ℕ) → held c.texts_of.new.seen k ≡ held c.places_of.new.seen k + map_uses texts_form q c.args.head.now.texts k) pages (p.pages mid) (p.count old) (p.count mid) 0 0 f.pages f.count refl more in
    subst (λ (d : Damage). IsBroken block pages d) (same-damage _ _ (same-fault _ _ e))
    (numbers-broken block pages c.in-Ok-Err-numbers_of.damage (held c.texts_of.new.seen) (λ n. let m = met n in let a = gains n in let b = more' n in omega arith)
    (stayed (λ q n m. IsBadMap BreaksNumberRow numbers_form q n (held c.texts_of.new.seen) c.args.head.now.numbers c.in-Ok-Err-numbers_of.damage) pages (p.pages last) (p.count old) (p.count last) 0 0 h.pages h.count refl
    (c.in-Ok-Err-numbers_of.ensures.damaged told'' c.in-Ok-Err-numbers_of.damage c.in-Ok-Err-numbers_of.field-0-is)))
