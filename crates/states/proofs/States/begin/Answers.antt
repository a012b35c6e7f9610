use mathlib.Core.Path.{refl}
use Rattle.states.specs.Records.{word_of, words_of, record_with}
use Rattle.states.proofs.States.begin.Goals as goal

pub returns : goal.returns
unfolding word_of words_of record_with
returns c = refl
