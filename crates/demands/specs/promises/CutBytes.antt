-- The trace cut at a tick, as bytes: it can be handed to the judge.
use Rattle.std.specs.Prelude.{ℕ, ◌*◌, ◌<◌, ◌≡◌, List, length, take}
use Rattle.refusals.specs.Refusals.{answer}
use Rattle.bytes_le.specs.Writing.{Bytes}
use Rattle.trace.specs.Records.{sample_width}
use Rattle.trace.specs.Sections.{replies_part, samples_part}
use Rattle.trace.specs.Acceptance.{Parsed, accept_answer}
use Rattle.trace.specs.Writing.{hole_bytes, trace_bytes}
use Rattle.ticks.specs.Traces.{trace_of}
use Rattle.ticks.specs.Cut.{cut_at}

-- The bytes of an accepted trace cut at a tick: head and rules as they are, the holes that the cut leaves, and the first replies and samples.
unfoldable pub cut_bytes : List ℕ → Parsed → ℕ → List ℕ
cut_bytes s w t =
    trace_bytes (take 166 s) w.layout.cells (hole_bytes (cut_at (trace_of s w) t).holes)
    (take (10 * length (cut_at (trace_of s w) t).replies) (replies_part s w.layout))
    (take (sample_width w.layout.cells * length (cut_at (trace_of s w) t).samples) (samples_part s w.layout))

-- They are bytes, they are accepted, and their trace is the cut trace.
abbrev pub CutBytes : Type 0
CutBytes =
    (s : List ℕ) → Bytes s → (w : Parsed) → accept_answer s ≡ answer w → (t : ℕ) → t < w.ticks
    → (w' : Parsed)
    × (accept_answer (cut_bytes s w t) ≡ answer w')
    × (trace_of (cut_bytes s w t) w' ≡ cut_at (trace_of s w) t)
    × Bytes (cut_bytes s w t)
