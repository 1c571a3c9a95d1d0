use Rattle.std.proofs.Common.{◌≡◌, ◌^◌, ◌≤◌, ℕ, List, [], Ok, length}
use Rattle.best_first.specs.Fits.{FitsTree, nodes_at}
use Rattle.collective_query.specs.Opened.{FindsPicks}
use Rattle.collective_query.specs.Searches.{Searches}
use Rattle.collective_query.specs.TreePicks.{tree_lists}
use Rattle.group_sum.specs.Named.{AreNamedOnce}
use Rattle.group_sum.specs.Tables.{AreLeast, picks_kept}
use Rattle.group_sum.proofs.query.fill.Given as goal

-- each set below the next one has its least choice
abbrev pub invariant-loop-set : goal.invariant-loop-set
invariant-loop-set g l =
    let p = g.P.Pages in
    record {
      count : l.table.count ≡ length l.words;
      kept : length l.table.kept.items ≡ l._set;
      end : l._set-end ≡ 2 ^ length l.words;
      low : l._set ≤ l._set-end;
      least : FitsTree (p.pages l.fn.pages) (p.count l.fn.pages) (p.first l.fn.pages) l.tree → AreNamedOnce (nodes_at (p.pages l.fn.pages) l.tree) l.tree.root
          → AreLeast (tree_lists l.ids l.at (nodes_at (p.pages l.fn.pages) l.tree) l.tree.root l.words) l.table.kept.items;
      opened : FitsTree (p.pages l.fn.pages) (p.count l.fn.pages) (p.first l.fn.pages) l.tree → (before : List ℕ)
          → FindsPicks (p.pages l.fn.pages) l.tree l.ids l.at l.words before (p.asked l.fn.pages) []
          → FindsPicks (p.pages l.fn.pages) l.tree l.ids l.at l.words before (p.asked l.pages) (picks_kept l.table.kept.items);
      search : Searches {X = ℕ} p l.tree l.fn.pages l.pages (Ok 0);
    }
