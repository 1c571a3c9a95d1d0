use Rattle.std.proofs.Common.{ℕ, List, Err, sym, ap, subst, ◌∙◌, arith}
use Rattle.btree_nodes.proofs.Walks.{same-fault}
use Rattle.std.specs.Prelude.{All}
use Rattle.page_face.specs.FreeList.{PageMap}
use Rattle.page_store.specs.declared.superblock.Superblock.{Superblock}
use Rattle.rtree_nodes.specs.Slots.{Item}
use Rattle.store_verify.specs.Sites.{IsSite, Site, site_sum}
use Rattle.store_verify.specs.Verdicts.{block_of}
use Rattle.store_verify.specs.EntrySums.{AreTreePages}
use Rattle.store_verify.proofs.Wholes.{are-sites, entry-broken, sites-ascend}
use Rattle.store_verify.proofs.comparing.are_leaves.Goals as goal

pub returns-in-Ok-clause-same : goal.returns-in-Ok-clause-same
returns-in-Ok-clause-same g c = λ head texts numbers held walked yes f.
    let p = g.P.Pages in
    let old = c.args.pages.now in
    let block : Superblock = block_of (p.count old) (p.first old) head in
    let pages : PageMap = p.pages old in
    let list : List ℕ = c.args.list.now in
    let sites : List Site = c.args.sites.now in
    let ready : AreTreePages pages (p.count old) head.tree list = record { readable = walked.readable; tree = walked.tree.tree; is = walked.tree.listed } in
    let value = c.deref_mut.ensures.value in
    let found = subst (λ (s : List Site). All IsSite s) (sym value) c.in-Ok.ensures.are in
    let agree = c.leaves_agree.ensures.agree found (are-sites block pages list texts numbers sites held walked) (sites-ascend block pages list texts numbers sites held walked) in
    sym (c.in-Ok.ensures.sites head.tree ready f) ∙ ap (λ (s : List Site). site_sum f s) (sym value) ∙ agree.0 yes f

pub returns-in-Ok-clause-apart : goal.returns-in-Ok-clause-apart
returns-in-Ok-clause-apart g c = λ head texts numbers held walked no.
    let p = g.P.Pages in
    let old = c.args.pages.now in
    let block : Superblock = block_of (p.count old) (p.first old) head in
    let pages : PageMap = p.pages old in
    let list : List ℕ = c.args.list.now in
    let sites : List Site = c.args.sites.now in
    let ready : AreTreePages pages (p.count old) head.tree list = record { readable = walked.readable; tree = walked.tree.tree; is = walked.tree.listed } in
    let value = c.deref_mut.ensures.value in
    let found = subst (λ (s : List Site). All IsSite s) (sym value) c.in-Ok.ensures.are in
    entry-broken block pages list texts numbers sites held walked c.deref_mut.result.now (λ (f : Item → ℕ). ap (λ (s : List Site). site_sum f s) value ∙ c.in-Ok.ensures.sites head.tree ready f)
    (c.leaves_agree.ensures.apart found (are-sites block pages list texts numbers sites held walked) (sites-ascend block pages list texts numbers sites held walked) no)

pub returns-in-Err-clause-no_false_damage : goal.returns-in-Err-clause-no_false_damage
returns-in-Err-clause-no_false_damage g c = λ head texts numbers held walked damage e.
    let p = g.P.Pages in
    let old = c.args.pages.now in
    let ready : AreTreePages (p.pages old) (p.count old) head.tree c.args.list.now = record { readable = walked.readable; tree = walked.tree.tree; is = walked.tree.listed } in
    c.in-Err.ensures.no_false_damage head.tree ready (λ n u. let none = walked.tree.known n u in omega arith) damage (ap Err (same-fault _ _ e))
