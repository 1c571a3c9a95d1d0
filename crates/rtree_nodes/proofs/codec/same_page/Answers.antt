use Rattle.rtree_nodes.proofs.Images.{page-same}
use Rattle.rtree_nodes.proofs.codec.same_page.Goals as goal

pub returns : goal.returns
returns c = λ first second node. page-same c.args.first.now c.args.second.now first second c.fits-first c.fits-second node
