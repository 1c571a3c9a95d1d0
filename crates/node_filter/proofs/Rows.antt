-- Several looks at rows, one after another.
use Rattle.std.proofs.Common.{◌≡◌, ℕ, ◌∙◌, ap, subst, sym, refl, Result, Ok, Err, arith}
use Rattle.std.specs.Prelude.{IsErrOf}
use Rattle.page_face.specs.FreeList.{PageMap}
use Rattle.page_face.specs.Calls.{FailsReading}
use Rattle.page_face.specs.Causes.{Rose, HidesNoFault}
use Rattle.page_face.specs.declared.fault.PageFault.{PageFault}
use Rattle.page_face.specs.declared.fault.PageFault.TheVariants.{Damaged}
use Rattle.page_face.specs.declared.pages.Pages.{Ghosts}
use Rattle.page_face.proofs.Frames.{reads_then}
use Rattle.btree_nodes.specs.Damages.{AreReadable, AsksOnly}
use Rattle.btree_nodes.specs.Tree.{map_uses}
use Rattle.btree_nodes.proofs.Harms.{asked-before, asks-further, asks-nothing}
use Rattle.btree_nodes.proofs.Walks.{same-fault}
use Rattle.paged_map.specs.Maps.{IsMapDamaged}
use Rattle.rtree_nodes.specs.Stock.{rows_form}
use Rattle.node_rows.proofs.Faults.{reads-none}
use Rattle.node_filter.specs.Rows.{LooksAtRows}

-- a call that isn't refused
pub fails-ok : {P X : Type 0} (g : Ghosts P) (a b : P) (x : X) → g.faults b ≡ g.faults a → FailsReading g a b (Ok x)
fails-ok g a b x same = record { disk = λ e. absurd (cc); hides_none = same; room_left = λ e. absurd (cc); stopped = λ e. absurd (cc) }

-- no look
pub rows-none : {P X : Type 0} (g : Ghosts P) (root : ℕ) (a : P) (x : X) → g.only_reads a a → g.follows_from a a → LooksAtRows g root a a (Ok x)
rows-none g root a x r f = record {
  no_false_damage = λ map counted told damage e. absurd (cc);
  damaged = λ told damage e. absurd (cc);
  own = λ told. asks-nothing (map_uses rows_form (g.pages a) root) (g.asked a) (g.asked a) refl;
  fails = fails-ok g a a x refl;
  frame = reads-none g a r f;
}

-- the same looks, and another answer
pub rows-ok : {P X Y : Type 0} (g : Ghosts P) (root : ℕ) (a b : P) (r : Result X PageFault) (y : Y) → g.faults b ≡ g.faults a → LooksAtRows g root a b r → LooksAtRows g root a b (Ok y)
rows-ok g root a b r y same h = record {
  no_false_damage = λ map counted told damage e. absurd (cc);
  damaged = λ told damage e. absurd (cc);
  own = h.own;
  fails = fails-ok g a b y same;
  frame = h.frame;
}

-- the same looks, and the same refusal
pub rows-refused : {P X Y : Type 0} (g : Ghosts P) (root : ℕ) (a b : P) (r : Result X PageFault) (fault : PageFault) → r ≡ Err fault → LooksAtRows g root a b r → LooksAtRows {X = Y} g root a b (Err fault)
rows-refused {P} {X} {Y} g root a b r fault is h =
    let same : (other : PageFault) → IsErrOf {T = Y} {E = PageFault} (Err fault) other → r ≡ Err other = λ other e. is ∙ ap Err (same-fault {T = Y} fault other e) in
    let f = h.fails in
    let refused = subst (LooksAtRows g root a b) is h in
    record {
      no_false_damage = λ map counted told damage e. h.no_false_damage map counted told damage (same (Damaged damage) e);
      damaged = λ told damage e. h.damaged told damage (same (Damaged damage) e);
      own = h.own;
      fails = record { disk = λ e. f.disk (same _ e); hides_none = refused.fails.hides_none; room_left = λ e. f.room_left (same _ e); stopped = λ e. f.stopped (same _ e) };
      frame = h.frame;
    }

-- one look after another
pub rows-then : {P X Y : Type 0} (g : Ghosts P) (further : (a b c : P) → g.follows_from a b → g.follows_from b c → g.follows_from a c) (more : (a b c : P) → g.only_reads a b → g.only_reads b c → g.only_reads a c)
    (root : ℕ) (a b c : P) (r : Result X PageFault) (s : Result Y PageFault) → g.faults b ≡ g.faults a → LooksAtRows g root a b r → LooksAtRows g root b c s → LooksAtRows g root a c s
rows-then g further more root a b c r s same h k =
    let f = h.frame in
    let still : AreReadable (g.pages a) (g.count a) → AreReadable (g.pages b) (g.count b) = λ told. rw (f.pages, f.count) told in
    let mine : PageMap → ℕ → ℕ = λ p. map_uses rows_form p root in
    let l = k.fails in
    record {
      no_false_damage = λ map counted told damage. k.no_false_damage (rw f.pages map) (rw (f.pages, f.count) counted) (still told) damage;
      damaged = λ told damage e. (let d = k.damaged (still told) damage e in (
        subst (λ (n : ℕ). IsMapDamaged rows_form (g.pages a) n root damage) f.count (subst (λ (q : PageMap). IsMapDamaged rows_form q (g.count b) root damage) f.pages d.0),
        asked-before (mine (g.pages a)) (g.asked a) (g.asked b) (g.asked c) damage.page (h.own told) d.1,
      ));
      own = λ told. asks-further (mine (g.pages a)) (g.asked a) (g.asked b) (g.asked c) (h.own told)
          (subst (λ (q : PageMap). AsksOnly (mine q) (g.asked b) (g.asked c)) f.pages (k.own (still told)));
      fails = record {
        disk = λ e n. (let d : Rose (g.faults b) (g.faults c) = l.disk e in let m = f.faults in grind (arith, d));
        hides_none = subst (λ (n : ℕ). HidesNoFault s n (g.faults c)) same l.hides_none;
        room_left = l.room_left;
        stopped = λ e. rw (sym f.goes_on) (l.stopped e);
      };
      frame = reads_then g further more a b c f k.frame;
    }
