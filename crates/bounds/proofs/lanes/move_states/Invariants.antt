use Rattle.bounds.proofs.Moving.{Moving}
use Rattle.bounds.proofs.lanes.move_states.Given as goal

abbrev pub invariant-loop-i : goal.invariant-loop-i
invariant-loop-i l = Moving l.marks l.lanes l.even l.initial.least l.least l.initial.greatest l.greatest l.any l.i
