use Rattle.std.proofs.Common.{◌≡◌, ◌++◌, ◌+◌, ℕ, List, Err, MatchOption, refl, ap, subst, ◌∙◌, arith}
use Rattle.page_face.specs.FreeList.{PageMap}
use Rattle.page_face.specs.declared.fault.Damage.{Damage}
use Rattle.page_store.specs.declared.superblock.Superblock.{Superblock}
use Rattle.btree_nodes.proofs.Walks.{same-fault}
use Rattle.page_walks.proofs.Misuses.{same-damage}
use Rattle.page_walks.proofs.Chains.{readable}
use Rattle.page_walks.specs.Met.{held}
use Rattle.store_verify.specs.Breaks.{IsBroken}
use Rattle.store_verify.specs.Verdicts.{block_of}
use Rattle.std.specs.Prelude.{◌⊎◌, IfNone, Option}
use Rattle.btree_nodes.specs.Tree.{map_rows, map_uses}
use Rattle.page_walks.specs.Maps.{IsBrokenMap, IsWholeMap}
use Rattle.rtree_nodes.specs.Stock.{rows_form}
use Rattle.tree_check.specs.Names.{AreNamed, IsUnnamed}
use Rattle.tree_check.specs.Nodes.{tree_pages}
use Rattle.store_verify.proofs.Walks.{rows-broken, stayed, tree-broken, tree-walked}
use Rattle.store_verify.proofs.walking.walk_tree.Goals as goal

pub returns-in-Err-clause-damaged : goal.returns-in-Err-clause-damaged
returns-in-Err-clause-damaged g c = λ told damage e.
    let p = g.P.Pages in
    tree-broken (block_of (p.count c.args.pages.now) (p.first c.args.pages.now) c.args.head.now) (p.pages c.args.pages.now) damage (held c.no_page-met.result) c.no_page-met.ensures (c.in-Err.ensures.damaged told damage (ap Err (same-fault _ _ e)))

pub returns-in-Ok-None-clause-walked : goal.returns-in-Ok-None-clause-walked
returns-in-Ok-None-clause-walked g c = λ told.
    let p = g.P.Pages in
    let f = c.check_nodes.ensures.frame in
    let old = c.args.pages.now in
    let mid = c.check_nodes.new.pages in
    let pages : PageMap = p.pages old in
    let rows : ℕ = c.args.head.now.rows in
    let met : ℕ → ℕ = held c.check_nodes.new.met in
    let nodes : ℕ → ℕ = held c.in-Ok-copy_of.nodes in
    let told' = readable pages (p.pages mid) (p.count old) (p.count mid) f.pages f.count told in
    tree-walked (block_of (p.count old) (p.first old) c.args.head.now) pages c.check_nodes.new.list.items (held c.no_page-met.result) met (held c.check_rows.new.seen) nodes c.no_page-met.ensures
    (c.in-Ok.ensures.tree told) (c.in-Ok.ensures.counted told) (c.in-Ok.ensures.met told)
    (c.in-Ok.ensures.list told ∙ ap (λ (l : List ℕ). l ++ tree_pages pages c.args.head.now.tree) c.new-list.ensures.items)
    c.in-Ok-copy_of.ensures
    (stayed (λ q n m. IsWholeMap rows_form q n met rows × AreNamed (map_rows rows_form q rows) nodes) pages (p.pages mid) (p.count old) (p.count mid) 0 0 f.pages f.count refl
    (subst (λ (o : Option Damage). MatchOption o (IsWholeMap rows_form (p.pages mid) (p.count mid) met rows × AreNamed (map_rows rows_form (p.pages mid) rows) nodes)
    (λ d. IsBrokenMap rows_form (p.pages mid) (p.count mid) met rows d ⊎ (IsWholeMap rows_form (p.pages mid) (p.count mid) met rows × IsUnnamed (map_rows rows_form (p.pages mid) rows) nodes d)))
    c.in-Ok-None.field-0-is (c.in-Ok-None.ensures.decides told')))
    (stayed (λ q n m. (k : ℕ) → held c.check_rows.new.seen k ≡ met k + map_uses rows_form q rows k) pages (p.pages mid) (p.count old) (p.count mid) 0 0 f.pages f.count refl
    (subst (λ (o : Option Damage). IfNone o ((k : ℕ) → held c.check_rows.new.seen k ≡ met k + map_uses rows_form (p.pages mid) rows k)) c.in-Ok-None.field-0-is (c.in-Ok-None.ensures.gains told')))

pub returns-in-Ok-Some-clause-damaged : goal.returns-in-Ok-Some-clause-damaged
returns-in-Ok-Some-clause-damaged g c = λ told damage e.
    let p = g.P.Pages in
    let f = c.check_nodes.ensures.frame in
    let old = c.args.pages.now in
    let mid = c.check_nodes.new.pages in
    let pages : PageMap = p.pages old in
    let rows : ℕ = c.args.head.now.rows in
    let block : Superblock = block_of (p.count old) (p.first old) c.args.head.now in
    let met : ℕ → ℕ = held c.check_nodes.new.met in
    let nodes : ℕ → ℕ = held c.in-Ok-copy_of.nodes in
    let found : Damage = c.in-Ok-Some.damage in
    let told' = readable pages (p.pages mid) (p.count old) (p.count mid) f.pages f.count told in
    subst (λ (d : Damage). IsBroken block pages d) (same-damage _ _ (same-fault _ _ e))
    (rows-broken block pages found met nodes
    (λ n. let a = c.in-Ok.ensures.met told n in let z = c.no_page-met.ensures n in omega arith)
    (λ n. let s = c.in-Ok-copy_of.ensures n in let a = c.in-Ok.ensures.met told n in let z = c.no_page-met.ensures n in omega arith)
    (stayed (λ q n m. IsBrokenMap rows_form q n met rows found ⊎ (IsWholeMap rows_form q n met rows × IsUnnamed (map_rows rows_form q rows) nodes found)) pages (p.pages mid) (p.count old) (p.count mid) 0 0 f.pages f.count refl
    (subst (λ (o : Option Damage). MatchOption o (IsWholeMap rows_form (p.pages mid) (p.count mid) met rows × AreNamed (map_rows rows_form (p.pages mid) rows) nodes)
    (λ d. IsBrokenMap rows_form (p.pages mid) (p.count mid) met rows d ⊎ (IsWholeMap rows_form (p.pages mid) (p.count mid) met rows × IsUnnamed (map_rows rows_form (p.pages mid) rows) nodes d)))
    c.in-Ok-Some.field-0-is (c.in-Ok-Some.ensures.decides told'))))
