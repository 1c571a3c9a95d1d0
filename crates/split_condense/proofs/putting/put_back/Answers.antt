use Rattle.std.proofs.Common.{◌≡◌, ℕ, List, [], ◌∷◌, ◌++◌, Err, ap, refl, sym, subst, rules}
use Rattle.page_face.proofs.Frames.{changes_then}
use Rattle.btree_nodes.proofs.Harms.{asks-further, asks-nothing}
use Rattle.btree_nodes.proofs.Walks.{same-fault}
use Rattle.rtree_nodes.specs.Slots.{Item}
use Rattle.rtree_nodes.specs.Stock.{view, View}
use Rattle.rtree_nodes.specs.Loose.{Loose}
use Rattle.rtree_nodes.specs.Pages.{node_of}
use Rattle.rtree_nodes.specs.Reach.{item_of}
use Rattle.node_rows.specs.Impacts.{impact_in}
use Rattle.node_rows.proofs.Faults.{changes-none}
use Rattle.irtree_shape.specs.Words.{worded}
use Rattle.irtree_shape.specs.Loose.{IsStanding}
use Rattle.irtree_shape.proofs.Harms.{tree-later}
use Rattle.irtree_shape.proofs.Replants.{standing_popped}
use Rattle.split_condense.specs.declared.orphan.Orphan.{Orphan}
use Rattle.split_condense.specs.Orphans.{loose_of, loose_in}
use Rattle.split_condense.proofs.Pushes.{push-loose}
use Rattle.split_condense.proofs.Standings.{standing-told}
use Rattle.split_condense.proofs.putting.put_back.Goals as goal

-- the last orphan is put back first
popped : (before now : View) (level root : ℕ) (xs rest : List Orphan) (o : Orphan) (words : List (ℕ × ℕ)) (mine : ℕ → ℕ) (sums : (Item → ℕ) → ℕ) → xs ≡ rest ++ o ∷ [] → words ≡ o.words.items
    → IsStanding node_of before now level root (loose_in xs) mine sums → IsStanding node_of before now level root ((o.level, worded (impact_in words) (item_of o.slot)) ∷ loose_in rest) mine sums
popped before now level root xs rest o words mine sums is same h =
    subst (λ (ws : List (ℕ × ℕ)). IsStanding node_of before now level root ((o.level, worded (impact_in ws) (item_of o.slot)) ∷ loose_in rest) mine sums) (sym same) (
    let p = subst (λ (os : List Orphan). IsStanding node_of before now level root (loose_in os) mine sums) is h in
    standing_popped node_of before now level root (loose_in rest) (loose_of o) mine sums (subst (λ (os : Loose). IsStanding node_of before now level root os mine sums) (push-loose rest o) p))

pub loop-orphan-init : goal.loop-orphan-init
loop-orphan-init g c = record {
  frame = changes-none g.P.Pages c.args.pages.now (g.met.P.Pages.stays c.args.pages.now);
  faults = search rules;
  told = λ t. t;
  more = λ t. asks-nothing (λ _. 1) (g.P.Pages.asked c.args.pages.now) (g.P.Pages.asked c.args.pages.now) refl;
  standing = λ before free level mine sums start st. record { free = free; level = level; standing = st };
}

pub loop-orphan-preserved : goal.loop-orphan-preserved
loop-orphan-preserved g c = record {
  frame = changes_then g.P.Pages g.met.P.Pages.goes_further _ _ _ c.loop-orphan.invariant.frame c.in-Ok.ensures.frame;
  faults = search rules;
  told = λ t. c.in-Ok.ensures.told (c.loop-orphan.invariant.told t);
  more = λ t. asks-further (λ _. 1) _ _ _ (c.loop-orphan.invariant.more t) (c.in-Ok.ensures.more (c.loop-orphan.invariant.told t));
  standing = λ before free level mine sums start st.
      let h = c.loop-orphan.invariant.standing before free level mine sums start st in
      let now : View = view (g.P.Pages.pages c.loop-orphan.pages) c.loop-orphan.tree.rows (g.P.Pages.count c.loop-orphan.pages) (g.P.Pages.first c.loop-orphan.pages) h.free in
      c.in-Ok.ensures.standing before h.free h.level (loose_in c.pop.new.self.items) mine sums start
      (popped before now h.level c.loop-orphan.tree.root c.loop-orphan.orphans.items c.pop.new.self.items c.in-Some.orphan c.deref.result.now mine sums c.in-Some.ensures.items c.deref.ensures.value h.standing) c.in-Some.orphan.fits;
}

pub returns-in-Err-clause-no_false_damage : goal.returns-in-Err-clause-no_false_damage
returns-in-Err-clause-no_false_damage g c = λ before free level mine sums start st told damage e.
    let h = c.loop-orphan.invariant.standing before free level mine sums start st in
    let now : View = view (g.P.Pages.pages c.loop-orphan.pages) c.loop-orphan.tree.rows (g.P.Pages.count c.loop-orphan.pages) (g.P.Pages.first c.loop-orphan.pages) h.free in
    c.in-Err.ensures.no_false_damage_standing before h.free h.level (loose_in c.pop.new.self.items) mine sums start
    (popped before now h.level c.loop-orphan.tree.root c.loop-orphan.orphans.items c.pop.new.self.items c.in-Some.orphan c.deref.result.now mine sums c.in-Some.ensures.items c.deref.ensures.value h.standing) c.in-Some.orphan.fits
    (standing-told before now h.level c.loop-orphan.tree.root (loose_in c.loop-orphan.orphans.items) mine sums h.standing told) damage
    (ap Err (same-fault {T = Unit {0}} _ _ e))

pub returns-clause-standing : goal.returns-clause-standing
returns-clause-standing g c = λ before free level mine sums start st.
    let h = c.loop-orphan.invariant.standing before free level mine sums start st in
    let now : View = view (g.P.Pages.pages c.loop-orphan.pages) c.loop-orphan.tree.rows (g.P.Pages.count c.loop-orphan.pages) (g.P.Pages.first c.loop-orphan.pages) h.free in
    let none : c.loop-orphan.orphans.items ≡ [] = search rules in
    record { free = h.free; level = h.level; standing = subst (λ (xs : List Orphan). IsStanding node_of before now h.level c.loop-orphan.tree.root (loose_in xs) mine sums) none h.standing }

pub returns-in-Err-clause-damaged : goal.returns-in-Err-clause-damaged
returns-in-Err-clause-damaged g c = λ told damage e.
    let p = g.P.Pages in
    tree-later c.insert_at.new.tree.rows (λ _. 1) (p.pages c.insert_at.new.pages) (p.count c.insert_at.new.pages) (p.first c.insert_at.new.pages) (p.asked c.args.pages.now) (p.asked c.loop-orphan.pages) (p.asked c.insert_at.new.pages) damage
    (c.loop-orphan.invariant.more told) (c.in-Err.ensures.damaged (c.loop-orphan.invariant.told told) damage (ap Err (same-fault {T = Unit {0}} _ _ e)))

pub returns-in-Err-clause-more : goal.returns-in-Err-clause-more
returns-in-Err-clause-more g c = λ told. asks-further (λ _. 1) _ _ _ (c.loop-orphan.invariant.more told) (c.insert_at.ensures.more (c.loop-orphan.invariant.told told))
