-- The case is computed.
use mathlib.Core.Path.{refl}
use Rattle.bytes_le.specs.Numbers.{spaced}
use Rattle.bytes_le.specs.Writing.{bytes_of, put_at}
use Rattle.limits.specs.Limits.{rule_set_answer, limits_answer, limits}
use Rattle.trace.specs.Sections.{head_answer, rules_answer, section_answer, walk_answer}
use Rattle.trace.specs.Coverage.{holes_answer, cover_answer, replies_answer}
use Rattle.trace.specs.Acceptance.{accept_answer}
use Rattle.trace.specs.Writing.{each_bytes, sample_bytes, trace_bytes}
use Rattle.recording.specs.Recorder.{offered, bytes_from, drained}
use Rattle.histories.specs.Calls.{after_all, stored_in}
use Rattle.histories.specs.promises.Case.{CaseHolds}

pub case_holds : CaseHolds
unfolding spaced bytes_of put_at each_bytes sample_bytes offered bytes_from drained after_all stored_in trace_bytes accept_answer walk_answer head_answer rules_answer section_answer holes_answer cover_answer replies_answer rule_set_answer limits_answer limits
case_holds = record { recorder = refl; holes = refl; stored = refl; drained = refl; accepted = refl }
