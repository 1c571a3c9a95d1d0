use Rattle.std.proofs.Common.{◌∙◌}
use Rattle.btree_nodes.proofs.Tolds.{image_told, told_written}
use Rattle.btree_delete.proofs.Pairs.{is_halved}
use Rattle.btree_delete.proofs.pair.halve.Goals as goal

pub returns-clause-halved : goal.returns-clause-halved
returns-clause-halved g c = λ free supplied once.
    let w = c.in_ok-store_one.ensures in
    let b = c.in_ok-store_one-2.ensures in
    is_halved (g.P.Pages.pages c.args.pages.now) (g.P.Pages.pages c.store_one.new.pages) (g.P.Pages.pages c.store_one-2.new.pages) (g.P.Pages.count c.args.pages.now) (g.P.Pages.first c.args.pages.now) c.args.left c.args.right free _ supplied once w.written
    _ (g.P.Pages.count c.store_one-2.new.pages) (g.P.Pages.first c.store_one-2.new.pages) (b.frame.count ∙ w.frame.count) (b.first ∙ w.first) b.written

pub returns-clause-told : goal.returns-clause-told
returns-clause-told g c = λ told.
    let w = c.in_ok-store_one.ensures in
    let b = c.in_ok-store_one-2.ensures in
    told_written (g.P.Pages.pages c.store_one.new.pages) (g.P.Pages.pages c.store_one-2.new.pages) _ c.args.right (g.P.Pages.count c.store_one.new.pages) (g.P.Pages.count c.store_one-2.new.pages) b.written b.frame.count (image_told _ _ _ _ _)
    (told_written (g.P.Pages.pages c.args.pages.now) (g.P.Pages.pages c.store_one.new.pages) _ c.args.left (g.P.Pages.count c.args.pages.now) (g.P.Pages.count c.store_one.new.pages) w.written w.frame.count (image_told _ _ _ _ _) told)
