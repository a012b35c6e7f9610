use Rattle.std.proofs.lemmas.Result.{err_from_is_err_and}
use Rattle.judge.proofs.Buffers.{no_report, no_sections, no_verdicts, buffers_fit}
use Rattle.judge.proofs.check_buffers.Goals as goal

pub returns-then-report-ne187 : goal.returns-then-report-ne187
returns-then-report-ne187 c = no_report _ _ c.if-report-ne187.true

pub returns-in_err-reply_count : goal.returns-in_err-reply_count
returns-in_err-reply_count c = let p = err_from_is_err_and c.from_residual.result c.from_residual.ensures.1 in
    rw (p.1, p.2) (no_sections _ _ c.if-report-ne187.false c.in_err-reply_count.ensures)

pub returns-then-branch : goal.returns-then-branch
returns-then-branch c = no_verdicts _ _ c.if-report-ne187.false c.in_ok-reply_count.ensures c.if-branch.true

pub returns : goal.returns
returns c = buffers_fit _ _ c.if-report-ne187.false c.in_ok-reply_count.ensures c.if-branch.false
