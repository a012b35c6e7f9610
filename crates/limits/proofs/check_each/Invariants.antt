use Rattle.limits.specs.Limits.{setting_at}
use Rattle.limits.proofs.RuleSets.{Checking}
use Rattle.limits.proofs.check_each.Given as goal

abbrev pub invariant-loop-i : goal.invariant-loop-i
invariant-loop-i l = Checking l.cells 16 (setting_at l.bytes) l.of l.i
