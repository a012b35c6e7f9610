-- The bytes of a cut trace are accepted, and they are the bytes of that trace.
use Prim.Native.Nat.{ℕ, suc, ◌*◌, ◌/◌}
use mathlib.Core.Path.{◌≡◌, sym, subst, ◌∙◌}
use mathlib.Core.List.{List}
use native.Mathlib.Omega.{arith}
use lib.ListN.{length, take}
use Rattle.refusals.specs.Refusals.{answer}
use Rattle.bytes_le.specs.Writing.{Bytes}
use Rattle.bytes_le.proofs.Spaced.{length_spaced}
use Rattle.bytes_le.proofs.AreBytes.{Are, taken}
use Rattle.trace.specs.Records.{hole_at, reply_at, stamped_at, sample_width}
use Rattle.trace.specs.Sections.{holes_part, replies_part, samples_part}
use Rattle.trace.specs.Acceptance.{Parsed, accept_answer}
use Rattle.trace.specs.Writing.{hole_bytes}
use Rattle.trace.proofs.TickBounds.{bounded}
use Rattle.trace.proofs.EachBytes.{Held, each_held}
use Rattle.trace.proofs.RecordBytes.{hole_written, holes_are, reply_within, sample_within, first_held_lem}
use Rattle.trace.proofs.WholeParts.{holes_whole, replies_whole, samples_whole}
use Rattle.trace.proofs.WrittenSections.{trace_are, part_are}
use Rattle.ticks.specs.Traces.{Trace, trace_of, Accepted}
use Rattle.ticks.specs.Cut.{cut_at}
use Rattle.ticks.specs.promises.Promises.{written_trace}
use Rattle.ticks.proofs.Places.{place_start}
use Rattle.ticks.proofs.AcceptedBytes.{Checks, checks, accepted}
use Rattle.ticks.proofs.Cuts.{cut_holds}
use Rattle.ticks.proofs.WrittenTraces.{written_trace_lem, start_passed, start_config}
use Rattle.demands.specs.promises.CutBytes.{cut_bytes, CutBytes}
use Rattle.demands.proofs.CutRecords.{fewer_holes, first_replies, first_samples}

-- The cut trace, and the bytes of its replies and of its samples.
abbrev cut : List ℕ → Parsed → ℕ → Trace
cut s w t = cut_at (trace_of s w) t

abbrev replies : List ℕ → Parsed → ℕ → List ℕ
replies s w t = take (10 * length (cut s w t).replies) (replies_part s w.layout)

abbrev samples : List ℕ → Parsed → ℕ → List ℕ
samples s w t = take (sample_width w.layout.cells * length (cut s w t).samples) (samples_part s w.layout)

module _ (s : List ℕ) (bytes : Bytes s) (w : Parsed) (passed : Checks s w) (ok : Accepted (trace_of s w)) (t : ℕ) (good : Accepted (cut s w t)) where
  abbrev n : ℕ
  n = w.layout.cells

  all : Are s
  all = record { bytes = bytes }

  holes_held : Held hole_at 8 (cut s w t).holes (hole_bytes (cut s w t).holes)
  holes_held =
      each_held hole_written (omega arith) (cut s w t).holes (bounded (cut s w t).holes 0 0 good.holes)
      (omega (arith, fewer_holes t (trace_of s w).holes, length_spaced (hole_at (holes_part s w.layout)) 8 (length (holes_part s w.layout) / 8) 0, (holes_whole all w.layout passed.walked).few))

  replies_held : Held reply_at 10 (cut s w t).replies (replies s w t)
  replies_held =
      first_held_lem reply_at 10 reply_within (omega arith) (replies_part s w.layout) (cut s w t).replies (replies_whole all w.layout passed.walked)
      (first_replies t w.ticks (trace_of s w).replies 0 0 ok.replies)

  samples_held : Held (stamped_at n) (sample_width n) (cut s w t).samples (samples s w t)
  samples_held =
      first_held_lem (stamped_at n) (sample_width n) (sample_within n) (omega arith) (samples_part s w.layout) (cut s w t).samples (samples_whole all w.layout passed.walked)
      (first_samples t (trace_of s w).holes (trace_of s w).samples 0 (place_start (trace_of s w) ok))

  same : written_trace n (take 166 s) (hole_bytes (cut s w t).holes) (replies s w t) (samples s w t) (suc t) ≡ cut s w t
  same = rw (start_config s w passed, holes_held.records, replies_held.records, samples_held.records)

  cut_read : (w' : Parsed) × (accept_answer (cut_bytes s w t) ≡ answer w') × (trace_of (cut_bytes s w t) w' ≡ cut s w t)
  unfolding cut_bytes
  cut_read =
      let (w', a, b) = written_trace_lem n (take 166 s) _ _ _ (suc t) (start_passed s w passed) holes_held.whole replies_held.whole samples_held.whole (subst Accepted (sym same) good) in
      (w', a, b ∙ same)

  still_bytes : Are (cut_bytes s w t)
  unfolding cut_bytes
  still_bytes =
      trace_are n (taken 166 all) (holes_are (cut s w t).holes)
      (taken (10 * length (cut s w t).replies) (part_are w.layout.replies w.layout.replies_end all))
      (taken (sample_width n * length (cut s w t).samples) (part_are w.layout.samples (length s) all))

pub cut_bytes_lem : CutBytes
cut_bytes_lem s bytes w e t covered =
    let ok = accepted s w e in
    let good = (cut_holds (trace_of s w) ok).accepted t covered in
    let passed = checks s w e in
    let (w', a, b) = cut_read s bytes w passed ok t good in
    (w', a, b, (still_bytes s bytes w passed ok t good).bytes)
