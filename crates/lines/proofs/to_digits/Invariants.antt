use Rattle.lines.proofs.Verdicts.{Turning}
use Rattle.lines.proofs.to_digits.Given as goal

abbrev pub invariant-loop-verdict : goal.invariant-loop-verdict
invariant-loop-verdict l = Turning l.initial.verdicts l.verdicts l.verdict-index
