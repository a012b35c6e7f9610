use Rattle.bounds.proofs.Missing.{Missing}
use Rattle.bounds.proofs.miss.Given as goal

abbrev pub invariant-loop-i : goal.invariant-loop-i
invariant-loop-i l = Missing l.lanes l.first l.last l.initial.least l.initial.greatest l.initial.possible l.least l.greatest l.possible l.i
