use Rattle.std.proofs.Common.{◌≡◌, take}
use Rattle.std.specs.List.{AllByRecursion, flat_map}
use Rattle.page_face.specs.Calls.{Reads}
use Rattle.btree_nodes.specs.Damages.{AreReadable, AsksOnly}
use Rattle.btree_nodes.specs.Tree.{map_uses}
use Rattle.term_impacts.specs.Form.{IsWordText}
use Rattle.store_tables.specs.Entries.{Entries}
use Rattle.store_tables.specs.Holding.{Holds, texts_form}
use Rattle.query_execution.specs.Asked.{id_in}
use Rattle.query_execution.proofs.known.numbers_of.Given as goal

-- the words so far were looked up
abbrev pub invariant-loop-word : goal.invariant-loop-word
invariant-loop-word g l =
    let p = g.P.Pages in
    record {
      found : (entries : Entries) → Holds (p.pages l.fn.pages) l.tables entries → l.list.items ≡ flat_map (id_in entries.texts) (take l.word-index l.words);
      texts : AllByRecursion IsWordText (take l.word-index l.words);
      own : AreReadable (p.pages l.fn.pages) (p.count l.fn.pages) → AsksOnly (map_uses texts_form (p.pages l.fn.pages) l.tables.texts) (p.asked l.fn.pages) (p.asked l.pages);
      frame : Reads p l.fn.pages l.pages;
      faults : p.faults l.pages ≡ p.faults l.fn.pages;
    }
