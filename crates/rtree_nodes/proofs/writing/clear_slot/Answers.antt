use Rattle.std.proofs.Common.{rules}
use Rattle.rtree_nodes.proofs.Puts.{ClearsSlot, clear-form, clear-slots, clear-level, clear-bit, clear-others, clear-fits}
use Rattle.rtree_nodes.proofs.writing.clear_slot.Goals as goal

clears : (c : goal.After-set_mask) → ClearsSlot c.args.page.now c.clear_cell.new.page c.set_mask.new.page c.args.at c.mask_of.result
clears c = record {
  within = c.requires;
  long = search rules;
  long_mid = search rules;
  cell = c.clear_cell.ensures;
  mask_is = c.mask_of.ensures;
  used = c.set_mask.ensures.bytes;
  fits = c.set_mask.ensures.fits;
}

pub returns-clause-form : goal.returns-clause-form
returns-clause-form c = clear-form c.args.page.now c.clear_cell.new.page c.set_mask.new.page c.args.at c.mask_of.result (clears c)

pub returns-clause-slots : goal.returns-clause-slots
returns-clause-slots c = clear-slots c.args.page.now c.clear_cell.new.page c.set_mask.new.page c.args.at c.mask_of.result (clears c)

pub returns-clause-level : goal.returns-clause-level
returns-clause-level c = clear-level c.args.page.now c.clear_cell.new.page c.set_mask.new.page c.args.at c.mask_of.result (clears c)

pub returns-clause-used : goal.returns-clause-used
returns-clause-used c = clear-bit c.args.page.now c.clear_cell.new.page c.set_mask.new.page c.args.at c.mask_of.result (clears c)

pub returns-clause-others : goal.returns-clause-others
returns-clause-others c = clear-others c.args.page.now c.clear_cell.new.page c.set_mask.new.page c.args.at c.mask_of.result (clears c)

pub returns-clause-fits : goal.returns-clause-fits
returns-clause-fits c = clear-fits c.args.page.now c.clear_cell.new.page c.set_mask.new.page c.args.at c.mask_of.result (clears c)
