use Rattle.states.proofs.FiveWords.{UpTo}
use Rattle.states.proofs.words.up_one.Given as goal

abbrev pub invariant-loop-x : goal.invariant-loop-x
invariant-loop-x l = UpTo l.fn.w l.x-items l.x-index l.carry
