use Rattle.states.proofs.AtZero.{zero_words}
use Rattle.states.proofs.words.at_zero.Goals as goal

pub returns : goal.returns
returns c = zero_words _ _ c.same.ensures
