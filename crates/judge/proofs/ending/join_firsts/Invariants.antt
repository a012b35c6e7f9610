use Rattle.lists.proofs.Laying.{Laying}
use Rattle.judge.proofs.Joining.{both}
use Rattle.judge.proofs.ending.join_firsts.Given as goal

abbrev pub invariant-loop-i : goal.invariant-loop-i
invariant-loop-i l = Laying (record { possible = 0; held = 0 }) 16 (both l.firsts) l.all.of l.i
