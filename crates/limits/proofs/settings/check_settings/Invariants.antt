use Rattle.limits.proofs.RuleSets.{Passed, numbered}
use Rattle.limits.proofs.settings.check_settings.Given as goal

abbrev pub invariant-loop-i : goal.invariant-loop-i
invariant-loop-i l = Passed l.cells 16 (numbered l.settings.of) l.i
