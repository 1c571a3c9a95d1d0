use Rattle.std.proofs.Common.{◌≡◌, ℕ, ◌-◌, ◌^◌, ◌<◌, ◌≤◌, List, Option, take, length}
use Rattle.page_face.specs.Calls.{Reads}
use Rattle.page_face.specs.Number.{number}
use Rattle.btree_nodes.specs.Rows.{Row, first_from}
use Rattle.btree_nodes.specs.Tree.{IsMap, map_rows, map_uses}
use Rattle.btree_nodes.specs.Damages.{AreReadable, AsksOnly}
use Rattle.paged_map.specs.Lookups.{IsFirstPast}
use Rattle.paged_map.proofs.finding.first_below.Given as goal

-- each key is past the one before
abbrev pub decreases-leaves : goal.decreases-leaves
decreases-leaves g l = 256 ^ l.form.key - number (take l.form.key l.from)

abbrev pub invariant-leaves : goal.invariant-leaves
invariant-leaves g l =
    let p = g.P.Pages in
    record {
      same : IsMap l.form (p.pages l.fn.pages) l.root
          → first_from (number l.key) (map_rows l.form (p.pages l.fn.pages) l.root) ≡ first_from (number (take l.form.key l.from)) (map_rows l.form (p.pages l.fn.pages) l.root);
      first : AreReadable (p.pages l.fn.pages) (p.count l.fn.pages) → (found : Option Row) (keys : List ℕ) → IsFirstPast l.form (p.pages l.fn.pages) (p.count l.fn.pages) l.root keys (number (take l.form.key l.from)) found
          → (all : List ℕ) × IsFirstPast l.form (p.pages l.fn.pages) (p.count l.fn.pages) l.root all (number l.key) found;
      own : AreReadable (p.pages l.fn.pages) (p.count l.fn.pages) → AsksOnly (map_uses l.form (p.pages l.fn.pages) l.root) (p.asked l.fn.pages) (p.asked l.pages);
      on : number l.key ≤ number (take l.form.key l.from);
      below : number (take l.form.key l.from) < 256 ^ l.form.key;
      key : length l.key ≡ l.form.key;
      found : length l.found ≡ l.form.key;
      value : length l.value ≡ l.form.value;
      frame : Reads p l.fn.pages l.pages;
      faults : p.faults l.pages ≡ p.faults l.fn.pages;
    }
