use Rattle.std.proofs.Common.{ℕ, ◌<◌, get_or}
use Rattle.place_values.specs.State.{IsSerialAbove}
use Rattle.store_verify.specs.Sites.{Site}
use Rattle.store_verify.proofs.counts.counts_agree.Given as goal

abbrev pub invariant-loop-site : goal.invariant-loop-site
invariant-loop-site l = (k : ℕ) (d : Site) → k < l.site-index → IsSerialAbove l.serial (get_or l.sites k d).0
