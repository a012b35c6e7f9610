use Rattle.states.specs.inner.Words.{below_word}
use Rattle.states.proofs.FiveWords.{Changed}
use Rattle.states.proofs.words.below.Given as goal

abbrev pub invariant-loop-j : goal.invariant-loop-j
invariant-loop-j l = Changed (below_word l.t) l.fn.w l.x-items l.j
