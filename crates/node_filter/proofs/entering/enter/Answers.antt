use Rattle.std.proofs.Common.{◌≡◌, ℕ, List, Result, arith, refl, sym, subst}
use Rattle.page_face.specs.Causes.{asked_after}
use Rattle.page_face.specs.declared.fault.PageFault.{PageFault}
use Rattle.btree_nodes.specs.Damages.{AsksOnly}
use Rattle.btree_nodes.specs.Supply.{one_at}
use Rattle.btree_nodes.proofs.Harms.{asks-nothing}
use Rattle.btree_nodes.proofs.Supplies.{one_at-same}
use Rattle.btree_nodes.proofs.Walks.{asks-read}
use Rattle.node_filter.proofs.entering.enter.Goals as goal

-- a look asks for its page at most
look-asks : {T : Type 0} (page : ℕ) (result : Result T PageFault) (old new : List ℕ) → new ≡ asked_after result page old → AsksOnly (one_at page) old new
look-asks page result old new e =
    let s = one_at-same page in
    subst (AsksOnly (one_at page) old) (sym e) (asks-read (one_at page) old old page result (asks-nothing (one_at page) old old refl) (omega arith))

pub returns-in-Ok-header-clause-asks : goal.returns-in-Ok-header-clause-asks
returns-in-Ok-header-clause-asks g c = look-asks c.args.page c.look.result _ _ c.look.ensures.asked

pub returns-in-Err-header-clause-asks : goal.returns-in-Err-header-clause-asks
returns-in-Err-header-clause-asks g c = look-asks c.args.page c.look.result _ _ c.look.ensures.asked

pub returns-in-Err-clause-asks : goal.returns-in-Err-clause-asks
returns-in-Err-clause-asks g c = look-asks c.args.page c.look.result _ _ c.look.ensures.asked
