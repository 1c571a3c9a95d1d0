use Rattle.std.proofs.Common.{ℕ, Some, None, is_some, if◌then◌else◌, subst}
use Rattle.std.specs.Prelude.{IfOk}
use Rattle.page_face.specs.Number.{number}
use Rattle.btree_nodes.specs.Damages.{AsksOnly}
use Rattle.btree_nodes.specs.Tree.{map_uses}
use Rattle.paged_map.specs.Lookups.{IsLookedUp}
use Rattle.store_tables.proofs.maps.get_row.Goals as goal

pub returns-clause-read : goal.returns-clause-read
returns-clause-read g c told = c.get.ensures.read told

pub returns-clause-own : goal.returns-clause-own
returns-clause-own g c told =
    subst (λ (r : ℕ). AsksOnly (map_uses g.L.Layout.form (g.P.Pages.pages c.args.pages.now) r) (g.P.Pages.asked c.args.pages.now) (g.P.Pages.asked c.get.new.pages)) c.at.ensures (c.get.ensures.own told)

pub returns-clause-kept : goal.returns-clause-kept
returns-clause-kept g c told =
    subst (λ (r : ℕ). IfOk c.get.result (λ leaf. IsLookedUp g.L.Layout.form (g.P.Pages.pages c.args.pages.now) (g.P.Pages.count c.args.pages.now) r (number c.args.key.now) (if is_some leaf then Some c.get.new.value else None))) c.at.ensures (c.get.ensures.kept told)
