use Rattle.states.proofs.ValidWords.{AllValid}
use Rattle.states.proofs.validity.valid.Given as goal

abbrev pub invariant-loop-i : goal.invariant-loop-i
invariant-loop-i l = AllValid l.setting-items l.fn.words l.i
