use Rattle.std.proofs.Common.{Some, None}
use Rattle.std.specs.Str.Parse.{ExplainsUnsignedError, HasUnsignedDigitsIfOk, ParsesUnsigned}
use Rattle.clap.specs.Words.{found_of}
use Rattle.clap.proofs.WalkLemmas.{one_text-rows}
use Rattle.command_words.proofs.Numbers.{number_read}
use Rattle.command_words.proofs.values.number_of.Goals as goal

pub returns-in-Some : goal.returns-in-Some
returns-in-Some c = number_read _ (λ bs r. ParsesUnsigned 64 10 bs r × ExplainsUnsignedError 10 bs r × HasUnsignedDigitsIfOk bs r) c.args.absent _ _ (Some c.in-Some.number) (one_text-rows (found_of c.args.matches.now) c.args.name.now)
    c.in-Some.ensures.none c.in-Some.ensures.value (λ u x g. g.0) c.requires.fits

pub returns-in-None : goal.returns-in-None
returns-in-None c = number_read _ (λ bs r. ParsesUnsigned 64 10 bs r × ExplainsUnsignedError 10 bs r × HasUnsignedDigitsIfOk bs r) c.args.absent _ _ None (one_text-rows (found_of c.args.matches.now) c.args.name.now)
    c.in-None.ensures.none c.in-None.ensures.value (λ u x g. g.0) c.requires.fits
