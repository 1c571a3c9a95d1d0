use Rattle.rtree_nodes.proofs.Made.{blank-form, blank-node, blank-page-mask}
use Rattle.rtree_nodes.proofs.writing.new_node.Goals as goal

pub returns-clause-form : goal.returns-clause-form
returns-clause-form c = blank-form c.blank.result c.args.level c.blank.ensures

pub returns-clause-node : goal.returns-clause-node
returns-clause-node c = blank-node c.blank.result c.args.level c.blank.ensures

pub returns-clause-mask : goal.returns-clause-mask
returns-clause-mask c = blank-page-mask c.blank.result c.args.level c.blank.ensures
