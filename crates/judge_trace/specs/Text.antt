-- Paper 01, 'Refusal numbers': the text that the program writes for the bytes of its input.
use Rattle.std.specs.Prelude.{ℕ, cond, List, leb, length}
use Rattle.refusals.specs.Refusals.{Answer, answer, refused}
use Rattle.trace.specs.Acceptance.{Parsed, accept_answer}
use Rattle.ticks.specs.Traces.{trace_of}
use Rattle.demands.specs.Report.{trace_report}
use Rattle.demands.specs.Verdicts.{trace_verdicts}
use Rattle.lines.specs.Lines.{refusal_line, accepted_lines}

-- Refusal 14 for an input of more than 65,536 bytes; else the acceptance of the trace.
abbrev pub input_answer : List ℕ → Answer Parsed
input_answer s = cond (leb (length s) 65536) (accept_answer s) (refused 14 0)

-- The lines of an answer.
abbrev pub lines_of : List ℕ → Answer Parsed → List ℕ
lines_of s (answer w) = accepted_lines (trace_report (trace_of s w)) (trace_verdicts (trace_of s w))
lines_of s (refused number place) = refusal_line number place

-- The text for an input.
unfoldable pub program_text : List ℕ → List ℕ
program_text s = lines_of s (input_answer s)
