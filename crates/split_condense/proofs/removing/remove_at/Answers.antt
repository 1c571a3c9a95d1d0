use Rattle.std.proofs.Common.{arith, ◌≡◌, ℕ, refl, subst, inl, inr}
use Rattle.btree_nodes.proofs.Harms.{asks-nothing}
use Rattle.rtree_nodes.specs.Stock.{view}
use Rattle.rtree_nodes.specs.Ways.{IsWay}
use Rattle.irtree_shape.specs.Damages.{IsTreeHarm}
use Rattle.split_condense.proofs.Standings.{whole-low}
use Rattle.split_condense.proofs.removing.remove_at.Goals as goal

-- a whole tree has at most ten levels
pub returns-in-None-clause-no_false_damage : goal.returns-in-None-clause-no_false_damage
returns-in-None-clause-no_false_damage g c = λ free x whole some leads long told damage e.
    let high = whole-low (view (g.P.Pages.pages c.args.pages.now) c.args.tree.now.rows (g.P.Pages.count c.args.pages.now) (g.P.Pages.first c.args.pages.now) free) c.args.tree.now.root whole
    (let a = c.counted-counted.ensures in let b = c.counted-counted.type_inv in omega arith) in
    elim c.in-None.ensures [ inl none ↦ omega arith | inr many ↦ omega arith ]

pub returns-clause-no_false_damage : goal.returns-clause-no_false_damage
returns-clause-no_false_damage g c = λ free x whole some leads long told damage e.
    c.remove_from.ensures.no_false_damage free x whole some leads (let a = c.in-Some.ensures in omega arith) told damage e

-- a path of these many slots has a level
pub returns-in-None-clause-damaged : goal.returns-in-None-clause-damaged
returns-in-None-clause-damaged g c = λ level told long low way damage e.
    let p = g.P.Pages in
    let none : ⊥ = elim c.in-None.ensures [ inl none ↦ omega arith | inr many ↦ omega arith ] in
    absurd {A = IsTreeHarm (p.pages c.args.pages.now) (p.count c.args.pages.now) (p.first c.args.pages.now) _ (p.asked c.args.pages.now) (p.asked c.args.pages.now) damage} none

pub returns-in-None-clause-more : goal.returns-in-None-clause-more
returns-in-None-clause-more g c = λ told. asks-nothing (λ _. 1) _ _ refl

pub returns-clause-damaged : goal.returns-clause-damaged
returns-clause-damaged g c = λ level told long low way damage e.
    let is : level ≡ c.in-Some.level = let a = c.in-Some.ensures in omega arith in
    c.remove_from.ensures.damaged told (subst (λ (l : ℕ). IsWay (g.P.Pages.pages c.args.pages.now) c.args.path.now l c.args.tree.now.root) is way) damage e
