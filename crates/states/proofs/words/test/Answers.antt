use mathlib.Core.Path.{refl}
use Rattle.states.specs.Records.{at, bit}
use Rattle.states.proofs.words.test.Goals as goal

pub returns : goal.returns
unfolding at bit
returns c = refl
