use Rattle.std.proofs.Common.{◌≡◌, ℕ, sym, subst, ◌∙◌, arith}
use Rattle.page_face.specs.declared.fault.Damage.{Damage}
use Rattle.page_store.specs.declared.superblock.Superblock.{Superblock}
use Rattle.btree_nodes.proofs.Walks.{same-fault}
use Rattle.page_walks.proofs.Misuses.{same-damage}
use Rattle.page_walks.specs.Met.{held}
use Rattle.store_verify.specs.Breaks.{IsBroken}
use Rattle.store_verify.specs.Verdicts.{block_of}
use Rattle.std.proofs.Math.Path.{fun_ext}
use Rattle.page_walks.specs.Chains.{IsBrokenChain}
use Rattle.page_walks.specs.Met.{IsFirstUnmet}
use Rattle.page_walks.proofs.Chains.{free-known}
use Rattle.store_verify.proofs.Named.{chain-named, lost-named, once-met}
use Rattle.store_verify.proofs.walking.walk_free_pages.Goals as goal

pub returns-in-Err-clause-damaged : goal.returns-in-Err-clause-damaged
returns-in-Err-clause-damaged g c = λ head told met damage e.
    let p = g.P.Pages in
    let old = c.args.pages.now in
    chain-named (block_of (p.count old) (p.first old) head) (p.pages old) damage
    (subst (λ (b : ℕ → ℕ). IsBrokenChain (p.pages old) (p.count old) b (p.first old) damage) (fun_ext met) (c.in-Err.ensures.damaged told damage e))

pub returns-in-Some-clause-damaged : goal.returns-in-Some-clause-damaged
returns-in-Some-clause-damaged g c = λ head told met damage e.
    let p = g.P.Pages in
    let old = c.args.pages.now in
    let block : Superblock = block_of (p.count old) (p.first old) head in
    let chain = c.in-Ok.ensures.chain told in
    subst (λ (d : Damage). IsBroken block (p.pages old) d) (same-damage _ _ (sym c.damaged.ensures ∙ same-fault _ _ e))
    (lost-named block (p.pages old) chain.free (held c.walk_free.new.met) c.in-Some.page chain.chain (λ n. let is = chain.met n in let m = met n in omega arith)
    (subst (λ (n : ℕ). IsFirstUnmet n (held c.walk_free.new.met) c.in-Some.page) (c.counted.ensures ∙ c.walk_free.ensures.frame.count) c.in-Some.ensures))

pub returns-in-None-clause-walked : goal.returns-in-None-clause-walked
returns-in-None-clause-walked g c = λ head told met known some.
    let p = g.P.Pages in
    let old = c.args.pages.now in
    let block : Superblock = block_of (p.count old) (p.first old) head in
    let chain = c.in-Ok.ensures.chain told in
    record {
      free = chain.free;
      chain = chain.chain;
      once = once-met block (p.pages old) chain.free (held c.walk_free.new.met) some (λ n. let is = chain.met n in let m = met n in omega arith)
          (λ n u. let is = chain.met n in let m = met n in let none = known n u in let free = free-known (p.pages old) (p.count old) (p.first old) chain.free chain.chain n u in omega arith)
          (λ n positive small. c.in-None.ensures n positive (let same : c.counted.result ≡ p.count old = c.counted.ensures ∙ c.walk_free.ensures.frame.count in omega arith));
    }
