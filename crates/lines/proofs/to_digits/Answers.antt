use native.Mathlib.Omega.{arith}
use Rattle.lines.proofs.Verdicts.{turning_start, turning_next, turning_end}
use Rattle.lines.proofs.to_digits.Goals as goal

pub loop-verdict-init : goal.loop-verdict-init
loop-verdict-init c = turning_start _

pub loop-verdict-preserved : goal.loop-verdict-preserved
loop-verdict-preserved c = turning_next c.loop-verdict.invariant (omega arith)

pub returns : goal.returns
returns c = turning_end c.loop-verdict.invariant (omega arith)
