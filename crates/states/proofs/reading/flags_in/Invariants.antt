use Rattle.lists.proofs.Laying.{Laying}
use Rattle.states.proofs.RuleFlagLaws.{unknown, flags_in}
use Rattle.states.proofs.reading.flags_in.Given as goal

abbrev pub invariant-loop-i : goal.invariant-loop-i
invariant-loop-i l = Laying unknown 16 (flags_in l.setting-items l.words) l.flags.of l.i
