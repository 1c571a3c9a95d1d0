use Rattle.std.proofs.Common.{ℕ, is_some, refl, rules, sym, subst}
use Rattle.page_face.specs.Number.{number}
use Rattle.btree_nodes.specs.Rows.{lookup}
use Rattle.btree_nodes.specs.Supply.{View, view}
use Rattle.btree_nodes.specs.Tree.{map_rows}
use Rattle.store_tables.specs.Holding.{numbers_form}
use Rattle.store_tables.specs.Rows.{IsNumberSpot}
use Rattle.paged_map.proofs.Spots.{on_ok}
use Rattle.store_tables.proofs.FrameLemmas.{kept-numbers}
use Rattle.store_tables.proofs.ChangeLemmas.{number-put}
use Rattle.store_tables.proofs.LookupLemmas.{number-of_number}
use Rattle.store_tables.proofs.tables.Tables.replace_number.Goals as goal

pub replace_row-requires-clause-spot : goal.replace_row-requires-clause-spot
replace_row-requires-clause-spot g c =
    subst (λ (n : ℕ). IsNumberSpot (g.P.Pages.pages c.args.pages.now) (g.P.Pages.count c.args.pages.now) c.args.self.now.numbers (g.P.Pages.looked c.args.pages.now) n c.args.spot.now)
    (sym (number-of_number c.number_bytes-key.result c.args.number (search rules) c.number_bytes-key.ensures)) c.requires.spot

pub returns-clause-put : goal.returns-clause-put
returns-clause-put g c entries free holds apart =
    let before : View = view (g.P.Pages.pages c.args.pages.now) (g.P.Pages.count c.args.pages.now) (g.P.Pages.first c.args.pages.now) free in
    on_ok c.replace_row.result (c.replace_row.ensures.put free (kept-numbers before c.args.self.now entries holds apart))
    (λ put. (number-put before c.args.self.now entries holds apart c.args.number c.args.counted.now _ _ (search rules) c.encode.ensures.value (number-of_number c.number_bytes-key.result c.args.number (search rules) c.number_bytes-key.ensures) c.encode.ensures.bytes
    (g.P.Pages.pages c.replace_row.new.pages) (g.P.Pages.count c.replace_row.new.pages) (g.P.Pages.first c.replace_row.new.pages) c.args.self.now.numbers
    (is_some (lookup (number c.number_bytes-key.result) (map_rows numbers_form (g.P.Pages.pages c.args.pages.now) c.args.self.now.numbers))) refl put).1)
