use Rattle.std.proofs.Common.{◌≡◌, All, map, take}
use Rattle.page_face.specs.Calls.{Reads}
use Rattle.btree_nodes.specs.Damages.{AreReadable, AsksOnly}
use Rattle.btree_nodes.specs.Tree.{map_uses}
use Rattle.place_values.specs.Query.{IsWeight}
use Rattle.store_tables.specs.Entries.{Entries}
use Rattle.store_tables.specs.Holding.{Holds, numbers_form}
use Rattle.query_execution.specs.Asked.{AreKnown}
use Rattle.query_execution.specs.Holders.{weighed_by_tables}
use Rattle.query_execution.proofs.weighing.weights_of.Given as goal

-- the words so far have their weights
abbrev pub invariant-loop-word : goal.invariant-loop-word
invariant-loop-word g l =
    let p = g.P.Pages in
    record {
      words : map (λ term. term.0) l.weights.items ≡ take l.word-index l.words;
      weights : All IsWeight l.weights.items;
      weighed : (entries : Entries) → Holds (p.pages l.fn.pages) l.tables entries → AreKnown l.ids entries.texts l.words → l.weights.items ≡ weighed_by_tables entries l.live (take l.word-index l.words);
      own : AreReadable (p.pages l.fn.pages) (p.count l.fn.pages) → AsksOnly (map_uses numbers_form (p.pages l.fn.pages) l.tables.numbers) (p.asked l.fn.pages) (p.asked l.pages);
      frame : Reads p l.fn.pages l.pages;
      faults : p.faults l.pages ≡ p.faults l.fn.pages;
    }
