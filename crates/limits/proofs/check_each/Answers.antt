use mathlib.Core.Path.{refl}
use Rattle.limits.proofs.RuleSets.{start, next, stop, end}
use Rattle.limits.proofs.check_each.Goals as goal

pub loop-i-init : goal.loop-i-init
loop-i-init c = start refl

pub returns-in_default : goal.returns-in_default
returns-in_default c = rw (stop c.loop-i.invariant c.loop-i-test.true c.check_rule.ensures c.in_default.is)

pub loop-i-preserved : goal.loop-i-preserved
loop-i-preserved c = next c.loop-i.invariant c.loop-i-test.true c.check_rule.ensures c.in-Some.is

pub returns : goal.returns
returns c = end c.loop-i.invariant c.loop-i-test.false
