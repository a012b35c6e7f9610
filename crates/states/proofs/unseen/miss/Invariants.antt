use Rattle.states.proofs.RuleSteps.{Missing}
use Rattle.states.proofs.unseen.miss.Given as goal

abbrev pub invariant-loop-i : goal.invariant-loop-i
invariant-loop-i l = Missing l.setting-items l.first l.last l.initial.words l.words l.i
