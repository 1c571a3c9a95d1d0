use Rattle.std.proofs.Common.{ℕ, Some, None, is_some, if◌then◌else◌, subst}
use Rattle.std.specs.Prelude.{IfOk}
use Rattle.page_face.specs.Number.{number}
use Rattle.btree_nodes.specs.Damages.{AsksOnly}
use Rattle.btree_nodes.specs.Tree.{map_uses}
use Rattle.paged_map.specs.Lookups.{IsFirstFound}
use Rattle.store_tables.proofs.maps.first_row.Goals as goal

pub returns-clause-read : goal.returns-clause-read
returns-clause-read g c told = c.first_from.ensures.read told

pub returns-clause-own : goal.returns-clause-own
returns-clause-own g c told =
    subst (λ (r : ℕ). AsksOnly (map_uses g.L.Layout.form (g.P.Pages.pages c.args.pages.now) r) (g.P.Pages.asked c.args.pages.now) (g.P.Pages.asked c.first_from.new.pages)) c.at.ensures (c.first_from.ensures.own told)

pub returns-clause-kept : goal.returns-clause-kept
returns-clause-kept g c told =
    subst (λ (r : ℕ). IfOk c.first_from.result (λ leaf. IsFirstFound g.L.Layout.form (g.P.Pages.pages c.args.pages.now) (g.P.Pages.count c.args.pages.now) r (number c.args.key.now) (if is_some leaf then Some (number c.first_from.new.found, c.first_from.new.value) else None))) c.at.ensures (c.first_from.ensures.kept told)
