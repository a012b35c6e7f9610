use Rattle.bounds.proofs.Halves.{Turning}
use Rattle.bounds.specs.Firsts.{noted_at}
use lib.ListN.{get_or}
use Rattle.bounds.proofs.firsts.note_states.Given as goal

abbrev pub invariant-loop-i : goal.invariant-loop-i
invariant-loop-i l = Turning (λ j. noted_at (get_or l.lanes j 0) l.tick (get_or l.states j 0) (get_or l.initial.firsts j 0)) l.initial.firsts l.firsts l.i
