use Rattle.states.specs.inner.Words.{with_word}
use Rattle.states.proofs.FiveWords.{Changed}
use Rattle.states.proofs.words.with_state.Given as goal

abbrev pub invariant-loop-j : goal.invariant-loop-j
invariant-loop-j l = Changed (with_word l.p l.on) l.fn.w l.x-items l.j
