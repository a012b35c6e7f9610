use mathlib.Core.Path.{sym, ◌∙◌}
use lib.ListN.{length}
use Rattle.judge.proofs.Buffers.{fit}
use Rattle.judge.proofs.AcceptedParts.{same_count}
use Rattle.judge.proofs.judge.Goals as goal

pub judge_accepted-requires : goal.judge_accepted-requires
judge_accepted-requires c = let a = c.args in
    let whole = sym c.in_ok-accepted.ensures in
    let f = fit a.s.now (length a.report.now) (length a.verdicts.now) c.in_ok-check_buffers.ensures in
    (whole, f.long, f.counted ∙ same_count a.s.now f.walked whole)
