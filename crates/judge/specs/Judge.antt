-- Paper 01, 'Refusal numbers': the judge's order, 12; 1 to 4; the sections with 5 and 6; 11; 13; 7; 8; 9; 10, and what the call leaves in its buffers.
use Rattle.std.specs.Prelude.{ℕ, cond, List, eqb, length}
use Rattle.refusals.specs.Refusals.{Answer, answer, refused, and_then, or_kept}
use Rattle.trace.specs.Sections.{walk_answer}
use Rattle.trace.specs.Acceptance.{Parsed, accept_answer}
use Rattle.ticks.specs.Traces.{trace_of}
use Rattle.demands.specs.Report.{trace_report}
use Rattle.demands.specs.Verdicts.{trace_verdicts}

-- The buffers: 12 unless the report has 187 bytes; the walk over the sections; 13 unless there is a verdict for each reply.
unfoldable pub buffers_answer : List ℕ → ℕ → ℕ → Answer (Unit {0})
buffers_answer s report verdicts =
    cond (eqb report 187)
    (and_then (walk_answer s) (λ l. cond (eqb verdicts l.reply_count) (answer tt) (refused 13 0)))
    (refused 12 0)

-- The acceptance of a trace with a report buffer and a verdict buffer.
abbrev pub acceptance : List ℕ → List ℕ → List ℕ → Answer Parsed
acceptance s report verdicts = and_then (buffers_answer s (length report) (length verdicts)) (λ fit. accept_answer s)

-- Whether a trace is judged.
abbrev pub judge_answer : List ℕ → List ℕ → List ℕ → Answer (Unit {0})
judge_answer s report verdicts = and_then (acceptance s report verdicts) (λ w. answer tt)

-- The report buffer after the call.
abbrev pub report_after : List ℕ → List ℕ → List ℕ → List ℕ
report_after s report verdicts = or_kept (acceptance s report verdicts) (λ w. trace_report (trace_of s w)) report

-- The verdict buffer after the call.
abbrev pub verdicts_after : List ℕ → List ℕ → List ℕ → List ℕ
verdicts_after s report verdicts = or_kept (acceptance s report verdicts) (λ w. trace_verdicts (trace_of s w)) verdicts
