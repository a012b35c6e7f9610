use Rattle.states.proofs.ShiftedWords.{joined_made}
use Rattle.states.proofs.words.joined.Goals as goal

pub returns : goal.returns
returns c = joined_made c.args.high c.args.low c.args.r c.requires c.ranges.low.fits
