-- What the bytes of a page say of its node.
use Rattle.std.proofs.Common.{◌≡◌, ℕ, ◌<◌, List, true, arith, ap, ◌∙◌}
use Rattle.page_face.specs.declared.fault.Rule.{Rule}
use Rattle.page_face.specs.declared.fault.Rule.TheVariants.{Head, Link, Kind, Fill, Order, Spare, Level, Value, Shared, Rect, Row, Entry, Words, Counts}
use Rattle.rtree_nodes.specs.Slots.{NodeView, one, got, filled}
use Rattle.rtree_nodes.specs.Breaks.{BreaksFirst, BreaksHeader}
use Rattle.rtree_nodes.specs.Nodes.{view_of}
use Rattle.rtree_nodes.specs.Pages.{level_in, mask_of, is_form, stored_in, node_of}
use Rattle.rtree_nodes.specs.declared.held.Node.{Node}
use Rattle.rtree_nodes.proofs.Formed.{form-node, stored-unused}
use Rattle.rtree_nodes.proofs.Bounding.{mask-free}
use Rattle.rtree_nodes.proofs.Heights.{amount-nothing}
use Rattle.tree_check.specs.Damages.{BreaksPlaced}

-- a page whose mask is 0 has no item
pub none-stored : (page : List ℕ) → mask_of page ≡ 0 → filled (stored_in page) ≡ 0
none-stored page e = amount-nothing one (stored_in page) (λ i l. ap (got one) (stored-unused page i (mask-free page e i l)))

few-stored : (least : ℕ) (page : List ℕ) → 0 < least → mask_of page ≡ 0 → filled (stored_in page) < least
few-stored least page some e = let z = none-stored page e in omega arith

-- what keeps a page from being a node's keeps it from being this one's
pub first-placed : (rule : Rule) (least level : ℕ) (page : List ℕ) → 0 < least → BreaksFirst rule page → BreaksPlaced rule least level page
first-placed Head least level page some b = b
first-placed Link least level page some b = b
first-placed Kind least level page some b = b
first-placed Fill least level page some b = few-stored least page some b.1
first-placed Order least level page some b = b
first-placed Spare least level page some b = b.2
first-placed Level least level page some b = absurd b
first-placed Value least level page some b = b.3
first-placed Shared least level page some b = b
first-placed Rect least level page some b = b
first-placed Row least level page some b = b
first-placed Entry least level page some b = b
first-placed Words least level page some b = b
first-placed Counts least level page some b = b

pub header-placed : (rule : Rule) (least level : ℕ) (page : List ℕ) → 0 < least → BreaksHeader rule page → BreaksPlaced rule least level page
header-placed Head least level page some b = b
header-placed Link least level page some b = b
header-placed Kind least level page some b = b
header-placed Fill least level page some b = few-stored least page some b.1
header-placed Order least level page some b = b
header-placed Spare least level page some b = absurd b
header-placed Level least level page some b = absurd b
header-placed Value least level page some b = absurd b
header-placed Shared least level page some b = b
header-placed Rect least level page some b = b
header-placed Row least level page some b = b
header-placed Entry least level page some b = b
header-placed Words least level page some b = b
header-placed Counts least level page some b = b

-- a decoded node has the page's level
pub level-same : (node : Node) (page : List ℕ) → is_form page ≡ true → view_of node ≡ node_of page → node.level ≡ level_in page
unfolding view_of
level-same node page form e = ap (λ (v : NodeView). v.level) e ∙ ap (λ (v : NodeView). v.level) (form-node page form)
