use Rattle.judge.proofs.Judging.{Judged}
use Rattle.judge.proofs.replies.judge_records.Given as goal

abbrev pub invariant-loop-j : goal.invariant-loop-j
invariant-loop-j l = Judged l.judging.frame l.judging.holes.now l.judging.samples.now l.replies l.tracks l.verdicts l.x l.j
