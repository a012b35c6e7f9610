-- What is promised of the ticks of an accepted trace.
use Rattle.std.specs.Prelude.{ℕ, suc, ◌+◌, ◌-◌, ◌≤◌, ◌<◌, ◌≡◌, false, not, ◌||◌, List, [], ◌∷◌, ℤ, T}
use Rattle.refusals.specs.Refusals.{answer}
use Rattle.bytes_le.specs.Numbers.{u16_at}
use Rattle.limits.specs.Limits.{settings_of}
use Rattle.trace.specs.Records.{Hole, Stamped, sample_width, holes_in, replies_in, samples_in}
use Rattle.trace.specs.Sections.{rules_part}
use Rattle.trace.specs.Acceptance.{Parsed, accept_answer}
use Rattle.trace.specs.Writing.{trace_bytes, Start, WholeRecords}
use Rattle.fillings.specs.Charge.{inward, outward, charge_in, charge_out, unseen_ticks}
use Rattle.ticks.specs.Traces.{Trace, trace_of, shown, has_sample, in_hole, Accepted}
use Rattle.ticks.specs.Cut.{cut_at}

-- A number summed over samples.
unfoldable pub over_samples : (ℤ → ℕ) → List Stamped → ℕ
over_samples f [] = 0
over_samples f (x ∷ xs) = f x.sample.current + over_samples f xs

-- The ticks of holes, counted.
unfoldable pub over_holes : List Hole → ℕ
over_holes [] = 0
over_holes (h ∷ hs) = suc h.last - h.first + over_holes hs

-- What coverage ensures of the ticks, and that the totals of the ticks are sums over the records.
pub record CoveredOnce (tr : Trace) : Type 0 where
  -- a covered tick has a sample or is in a hole, and not both
  pub once : (t : ℕ) → t < tr.ticks → has_sample tr.samples t ≡ not (in_hole tr.holes t)
  -- no record has a later tick
  pub none : (t : ℕ) → tr.ticks ≤ t → (has_sample tr.samples t ≡ false) × (in_hole tr.holes t ≡ false)
  pub charged_in : charge_in (shown tr) tr.ticks ≡ over_samples inward tr.samples
  pub charged_out : charge_out (shown tr) tr.ticks ≡ over_samples outward tr.samples
  pub unseen : unseen_ticks (shown tr) tr.ticks ≡ over_holes tr.holes

-- A missing second before the last record is refused unless declared: a trace with a record at a later tick u and neither sample nor hole at t is not accepted.
abbrev pub MissingSecond : Type 0
MissingSecond =
    (s : List ℕ) (w : Parsed) (t u : ℕ) → t < u
    → T (has_sample (trace_of s w).samples u || in_hole (trace_of s w).holes u)
    → has_sample (trace_of s w).samples t ≡ false → in_hole (trace_of s w).holes t ≡ false
    → ¬ (accept_answer s ≡ answer w)

-- The trace cut at a covered tick is accepted and shows the same up to that tick; cut at its last tick it is the trace.
pub record CutHolds (tr : Trace) : Type 0 where
  pub accepted : (t : ℕ) → t < tr.ticks → Accepted (cut_at tr t)
  pub same : (t u : ℕ) → u ≤ t → shown (cut_at tr t) u ≡ shown tr u
  pub whole : (t : ℕ) → suc t ≡ tr.ticks → cut_at tr t ≡ tr

-- The trace of n cells of first 166 bytes (head and rules), the bytes of its holes, replies and samples, and the ticks that it covers.
abbrev pub written_trace : ℕ → List ℕ → List ℕ → List ℕ → List ℕ → ℕ → Trace
written_trace n start holes replies samples ticks =
    record {
      config = record { cells = n; idle = u16_at start 2; settings = settings_of (rules_part start) };
      holes = holes_in holes;
      replies = replies_in replies;
      samples = samples_in n samples;
      ticks = ticks;
    }

-- Sections written one after the other after first 166 bytes that pass their checks, if their records are those of an accepted trace, are accepted and have just these records.
abbrev pub WrittenTrace : Type 0
WrittenTrace =
    (n : ℕ) (start holes replies samples : List ℕ) (ticks : ℕ)
    → Start n start → WholeRecords 8 holes → WholeRecords 10 replies → WholeRecords (sample_width n) samples
    → Accepted (written_trace n start holes replies samples ticks)
    → (w : Parsed)
    × (accept_answer (trace_bytes start n holes replies samples) ≡ answer w)
    × (trace_of (trace_bytes start n holes replies samples) w ≡ written_trace n start holes replies samples ticks)
