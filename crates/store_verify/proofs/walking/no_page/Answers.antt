use Rattle.store_verify.proofs.Walks.{held-none}
use Rattle.store_verify.proofs.walking.no_page.Goals as goal

pub returns : goal.returns
returns c = held-none c.new.result c.new.ensures.empty
