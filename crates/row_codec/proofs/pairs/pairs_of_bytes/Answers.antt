use Rattle.std.proofs.Common.{◌<◌, length, rules}
use Rattle.row_codec.proofs.PairLemmas.{pairs_more, pairs_fit_more}
use Rattle.row_codec.proofs.pairs.pairs_of_bytes.Goals as goal

pub loop-i-preserved : goal.loop-i-preserved
loop-i-preserved c =
    let inside : c.loop-i.i < length c.loop-i.pairs = search rules in
    record {
      size = search rules;
      bytes = pairs_more c.loop-i.pairs c.args.bytes.now c.loop-i.i c.pair_at.result inside c.loop-i.invariant.bytes c.pair_at.ensures.bytes;
      fits = pairs_fit_more c.loop-i.pairs c.loop-i.i c.pair_at.result inside c.loop-i.invariant.fits c.pair_at.ensures.fits;
    }
