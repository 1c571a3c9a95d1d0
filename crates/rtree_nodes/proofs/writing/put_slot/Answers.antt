use Rattle.std.proofs.Common.{rules}
use Rattle.rtree_nodes.proofs.Puts.{WritesSlot, put-form, put-slots, put-same-level, put-bit, put-others, put-fits}
use Rattle.rtree_nodes.proofs.writing.put_slot.Goals as goal

writes : (c : goal.After-set_mask) → WritesSlot c.args.page.now c.write_cell.new.page c.set_mask.new.page c.args.slot.now c.args.at c.mask_of.result
writes c = record {
  within = c.requires;
  long = search rules;
  long_mid = search rules;
  valid = c.write_cell.ensures.valid;
  cell = c.write_cell.ensures.bytes;
  mask_is = c.mask_of.ensures;
  used = c.set_mask.ensures.bytes;
  fits = c.set_mask.ensures.fits;
}

pub returns-clause-form : goal.returns-clause-form
returns-clause-form c = put-form c.args.page.now c.write_cell.new.page c.set_mask.new.page c.args.slot.now c.args.at c.mask_of.result (writes c)

pub returns-clause-slots : goal.returns-clause-slots
returns-clause-slots c = put-slots c.args.page.now c.write_cell.new.page c.set_mask.new.page c.args.slot.now c.args.at c.mask_of.result (writes c)

pub returns-clause-level : goal.returns-clause-level
returns-clause-level c = put-same-level c.args.page.now c.write_cell.new.page c.set_mask.new.page c.args.slot.now c.args.at c.mask_of.result (writes c)

pub returns-clause-used : goal.returns-clause-used
returns-clause-used c = put-bit c.args.page.now c.write_cell.new.page c.set_mask.new.page c.args.slot.now c.args.at c.mask_of.result (writes c)

pub returns-clause-others : goal.returns-clause-others
returns-clause-others c = put-others c.args.page.now c.write_cell.new.page c.set_mask.new.page c.args.slot.now c.args.at c.mask_of.result (writes c)

pub returns-clause-fits : goal.returns-clause-fits
returns-clause-fits c = put-fits c.args.page.now c.write_cell.new.page c.set_mask.new.page c.args.slot.now c.args.at c.mask_of.result (writes c)
