-- Several searches of a tree, one after another.
use Rattle.std.proofs.Common.{◌≡◌, ℕ, List, ◌++◌, ◌∙◌, append_assoc, ap, subst, sym, Result, Ok, Err, arith, inl, inr, ⊎_elim}
use Rattle.std.specs.Prelude.{IsErrOf, OnOk}
use Rattle.page_face.specs.FreeList.{PageMap}
use Rattle.page_face.specs.Causes.{Rose, HidesNoFault}
use Rattle.page_face.specs.declared.fault.Damage.{Damage}
use Rattle.page_face.specs.declared.fault.PageFault.{PageFault}
use Rattle.page_face.specs.declared.fault.PageFault.TheVariants.{Damaged}
use Rattle.page_face.specs.declared.pages.Pages.{Ghosts}
use Rattle.page_face.proofs.Frames.{reads_then}
use Rattle.btree_nodes.specs.Damages.{AreReadable}
use Rattle.btree_nodes.proofs.Walks.{same-fault}
use Rattle.node_rows.specs.declared.roots.Tree.{Tree}
use Rattle.best_first.specs.Harms.{IsHarm}
use Rattle.best_first.specs.Laws.{harm-sooner as ranked-sooner}
use Rattle.boolean_queries.specs.Harms.{IsQueryHarm}
use Rattle.boolean_queries.proofs.Histories.{harm-sooner}
use Rattle.node_filter.proofs.Rows.{fails-ok}
use Rattle.collective_query.specs.Searches.{IsSearchHarm, GoesOn, Searches}

-- the damage of a later search is one of the searches together
harm-later : (pages : PageMap) (count : ℕ) (tree : Tree) (old mid new : List ℕ) (damage : Damage) → GoesOn old mid → IsSearchHarm pages count tree mid new damage → IsSearchHarm pages count tree old new damage
harm-later pages count tree old mid new damage on harm = ⊎_elim
    (λ (walk : IsQueryHarm pages count tree.rows tree.root mid new damage). inl (harm-sooner pages count tree.rows tree.root old on.more mid new damage on.is walk))
    (λ (ranked : IsHarm pages count tree.rows mid new damage). inr (ranked-sooner pages count tree.rows old on.more new damage (subst (λ (l : List ℕ). IsHarm pages count tree.rows l new damage) on.is ranked)))
    harm

goes-then : (old mid new : List ℕ) → GoesOn old mid → GoesOn mid new → GoesOn old new
goes-then old mid new a b = record { more = a.more ++ b.more; is = b.is ∙ ap (λ l. l ++ b.more) a.is ∙ append_assoc old a.more b.more }

-- the same searches, and another answer
pub searches-ok : {P X Y : Type 0} (g : Ghosts P) (tree : Tree) (a b : P) (x : X) (y : Y) → Searches g tree a b (Ok x) → Searches g tree a b (Ok y)
searches-ok g tree a b x y s = record {
  no_false_damage = λ fits damage e. absurd (cc);
  damaged = λ told damage e. absurd (cc);
  log = s.log;
  fails = fails-ok g a b y s.fails.hides_none;
  frame = s.frame;
}

-- so it is with a result that is known
pub searches-give : {P X Y : Type 0} (g : Ghosts P) (tree : Tree) (a b : P) (r : Result X PageFault) (x : X) (y : Y) → r ≡ Ok x → Searches g tree a b r → Searches g tree a b (Ok y)
searches-give g tree a b r x y is s = searches-ok g tree a b x y (subst (Searches g tree a b) is s)

-- the same searches, and the same refusal
pub searches-refused : {P X Y : Type 0} (g : Ghosts P) (tree : Tree) (a b : P) (r : Result X PageFault) (fault : PageFault) → r ≡ Err fault → Searches g tree a b r → Searches {X = Y} g tree a b (Err fault)
searches-refused {P} {X} {Y} g tree a b r fault is s =
    let same : (other : PageFault) → IsErrOf {T = Y} {E = PageFault} (Err fault) other → r ≡ Err other = λ other e. is ∙ ap Err (same-fault {T = Y} fault other e) in
    let refused = subst (Searches g tree a b) is s in
    let f = s.fails in
    record {
      no_false_damage = λ fits damage e. s.no_false_damage fits damage (same (Damaged damage) e);
      damaged = λ told damage e. s.damaged told damage (same (Damaged damage) e);
      log = λ told. tt;
      fails = record { disk = λ e. f.disk (same _ e); hides_none = refused.fails.hides_none; room_left = λ e. f.room_left (same _ e); stopped = λ e. f.stopped (same _ e) };
      frame = s.frame;
    }

-- one search after another
pub searches-then : {P X Y : Type 0} (g : Ghosts P) (further : (a b c : P) → g.follows_from a b → g.follows_from b c → g.follows_from a c) (more : (a b c : P) → g.only_reads a b → g.only_reads b c → g.only_reads a c)
    (tree : Tree) (a b c : P) (x : X) (r : Result Y PageFault) → Searches g tree a b (Ok x) → Searches g tree b c r → Searches g tree a c r
searches-then {Y = Y} g further more tree a b c x r s k =
    let f = s.frame in
    let still : AreReadable (g.pages a) (g.count a) → AreReadable (g.pages b) (g.count b) = λ told. rw (f.pages, f.count) told in
    let l = k.fails in
    record {
      no_false_damage = λ fits. k.no_false_damage (rw (f.pages, f.count, f.first) fits);
      damaged = λ told damage e. harm-later (g.pages a) (g.count a) tree (g.asked a) (g.asked b) (g.asked c) damage (s.log told)
          (subst (λ (n : ℕ). IsSearchHarm (g.pages a) n tree (g.asked b) (g.asked c) damage) f.count (subst (λ (q : PageMap). IsSearchHarm q (g.count b) tree (g.asked b) (g.asked c) damage) f.pages (k.damaged (still told) damage e)));
      log = λ told. logs r (s.log told) (k.log (still told));
      fails = record {
        disk = λ e n. (let d : Rose (g.faults b) (g.faults c) = l.disk e in let m = f.faults in grind (arith, d));
        hides_none = subst (λ (n : ℕ). HidesNoFault r n (g.faults c)) s.fails.hides_none l.hides_none;
        room_left = l.room_left;
        stopped = λ e. rw (sym f.goes_on) (l.stopped e);
      };
      frame = reads_then g further more a b c f k.frame;
    }
  where
    logs : (r : Result Y PageFault) → GoesOn (g.asked a) (g.asked b) → OnOk r (GoesOn (g.asked b) (g.asked c)) → OnOk r (GoesOn (g.asked a) (g.asked c))
    logs (Ok y) on h = goes-then (g.asked a) (g.asked b) (g.asked c) on h
    logs (Err e) on h = tt
