use Rattle.std.proofs.Common.{◌∙◌}
use Rattle.btree_nodes.proofs.Tolds.{image_told, told_given, told_written}
use Rattle.btree_nodes.proofs.Gives.{page-some}
use Rattle.btree_delete.proofs.Pairs.{is_merged}
use Rattle.btree_delete.proofs.pair.merge.Goals as goal

pub returns-clause-merged : goal.returns-clause-merged
returns-clause-merged g c = λ free supplied once.
    let w = c.in_ok-store_one.ensures in
    let b = c.in_ok-give_back.ensures in
    let p = page-some (g.P.Pages.count c.args.pages.now) c.args.right c.requires.right in
    is_merged (g.P.Pages.pages c.args.pages.now) (g.P.Pages.pages c.store_one.new.pages) (g.P.Pages.pages c.give_back.new.self) (g.P.Pages.count c.args.pages.now) (g.P.Pages.first c.args.pages.now) c.args.left c.args.right free _ supplied once w.written
    (g.P.Pages.count c.give_back.new.self) (g.P.Pages.first c.give_back.new.self) (b.count ∙ w.frame.count) b.freed.2 p.0 p.1 b.freed.0 (b.freed.1 ∙ w.first) b.others

pub returns-clause-told : goal.returns-clause-told
returns-clause-told g c = λ told.
    let w = c.in_ok-store_one.ensures in
    let b = c.in_ok-give_back.ensures in
    told_given (g.P.Pages.pages c.store_one.new.pages) (g.P.Pages.pages c.give_back.new.self) c.args.right (g.P.Pages.count c.store_one.new.pages) (g.P.Pages.count c.give_back.new.self) b.freed.0 b.others b.count
    (told_written (g.P.Pages.pages c.args.pages.now) (g.P.Pages.pages c.store_one.new.pages) _ c.args.left (g.P.Pages.count c.args.pages.now) (g.P.Pages.count c.store_one.new.pages) w.written w.frame.count (image_told _ _ _ _ _) told)
