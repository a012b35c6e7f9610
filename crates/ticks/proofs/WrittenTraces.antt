-- What is written as a trace is read back and accepted.
use Prim.Native.Nat.{ℕ}
use mathlib.Core.Path.{◌≡◌, sym, ap, subst, ◌∙◌}
use mathlib.Core.List.{List}
use lib.ListN.{take, drop, take-append-drop}
use lib.Seq.{length-take-le}
use Rattle.refusals.specs.Refusals.{answer}
use Rattle.bytes_le.specs.Numbers.{u16_at}
use Rattle.limits.specs.Limits.{settings_of, rule_set_answer}
use Rattle.trace.specs.Sections.{rules_part}
use Rattle.trace.specs.Acceptance.{Parsed, records_answer}
use Rattle.trace.specs.Writing.{trace_bytes, Start}
use Rattle.trace.proofs.Layouts.{PartsAre, parts_are}
use Rattle.trace.proofs.Outcomes as outcomes
use Rattle.trace.proofs.WrittenSections.{SameStart, same_start, layout_written, starts, written_reads}
use Rattle.fillings.specs.Fillings.{Config, SoundConfig}
use Rattle.ticks.specs.Traces.{trace_of, Accepted}
use Rattle.ticks.specs.promises.Promises.{written_trace, WrittenTrace}
use Rattle.ticks.proofs.AcceptedBytes.{Checks, head_idle, rules_sound}

-- What the three checks of the records answer of accepted records.
records_accepted : (s : List ℕ) (w : Parsed) → Accepted (trace_of s w) → records_answer s w.layout ≡ answer w.ticks
records_accepted s w ok = rw (ok.holes, ok.covered, ok.replies)

-- First bytes that pass have sound rules.
pub start_sound : {n : ℕ} {start : List ℕ} → Start n start → SoundConfig (record { cells = n; idle = u16_at start 2; settings = settings_of (rules_part start) })
start_sound {n} {start} ok = rules_sound n (u16_at start 2) (rules_part start) ok.rules (head_idle start ok.head)

pub written_trace_lem : WrittenTrace
written_trace_lem n start A B C ticks ok fitsA fitsB fitsC good =
    let s : List ℕ = trace_bytes start n A B C in
    let w : Parsed = record { layout = layout_written n start A B; settings = settings_of (rules_part start); ticks = ticks } in
    let reads = written_reads ok fitsA fitsB fitsC in
    let rules = (starts ok fitsA fitsB fitsC).rules in
    let same : trace_of s w ≡ written_trace n start A B C ticks = rw (reads.holes, reads.replies, reads.samples) in
    let records = records_accepted s w (subst Accepted (sym same) good) in (
      w,
      outcomes.accepted s reads.walk (ap (rule_set_answer n) rules ∙ ok.rules) records
          ∙ ap (λ r. answer (record { layout = w.layout; settings = settings_of r; ticks = ticks })) rules,
      same,
    )

-- The first 166 bytes of an accepted trace pass their checks, and say what it has as head and rules.
module _ (s : List ℕ) (w : Parsed) (passed : Checks s w) where
  parts : PartsAre s w.layout
  parts = parts_are s w.layout passed.walked

  same : SameStart (take 166 s) s
  same =
      subst (SameStart (take 166 s)) (take-append-drop 166 s) (same_start (take 166 s) (drop 166 s) (length-take-le 166 s parts.long))

  pub start_passed : Start w.layout.cells (take 166 s)
  start_passed =
      record {
        long = length-take-le 166 s parts.long;
        cells = sym (parts.cells ∙ same.cells);
        head = sym same.head ∙ parts.begun.head;
        count = sym same.count ∙ parts.begun.rules;
        rules = ap (rule_set_answer w.layout.cells) (sym same.rules) ∙ passed.rules;
      }

  pub start_config : ◌≡◌ {A = Config} record { cells = w.layout.cells; idle = u16_at (take 166 s) 2; settings = settings_of (rules_part (take 166 s)) } (trace_of s w).config
  start_config = rw (← same.idle, ← same.rules, parts.idle, passed.settings)
