use Rattle.states.proofs.RuleSteps.{Seeing}
use Rattle.states.proofs.seen.see.Given as goal

abbrev pub invariant-loop-i : goal.invariant-loop-i
invariant-loop-i l = Seeing l.setting-items l.idle l.tick l.readings l.initial.words l.words l.i
