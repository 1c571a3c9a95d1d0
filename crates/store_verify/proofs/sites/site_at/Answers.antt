use Rattle.std.proofs.Common.{◌∙◌}
use Rattle.rtree_nodes.specs.Pages.{level_in}
use Rattle.store_verify.proofs.NodeEntries.{slot-place}
use Rattle.store_verify.proofs.sites.site_at.Goals as goal

pub returns-in-Ok-clause-site : goal.returns-in-Ok-clause-site
returns-in-Ok-clause-site c = λ form leaf.
    c.site_in.ensures.site (slot-place c.in-Ok.slot (level_in c.args.bytes.now) leaf c.in-Ok.ensures.kind) ∙ c.in-Ok.ensures.item form
