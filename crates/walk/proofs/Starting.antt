-- The walk begins before the first tick of an accepted trace.
use Prim.Native.Nat.{ℕ, ◌+◌, ◌-◌, ◌*◌, ◌/◌}
use mathlib.Core.Path.{◌≡◌, refl, sym, ap, ◌∙◌}
use mathlib.Core.List.{List}
use native.Mathlib.Omega.{arith}
use native.Mathlib.Nat.{zero-add, div-eq_of_eq-mul_left}
use lib.ListN.{length}
use Rattle.refusals.specs.Refusals.{answer}
use Rattle.bytes_le.specs.Numbers.{u16_at}
use Rattle.trace.specs.Records.{sample_width}
use Rattle.trace.specs.Sections.{holes_part, samples_part}
use Rattle.trace.specs.Acceptance.{Parsed, accept_answer}
use Rattle.trace.specs.declared.Layout.{Layout}
use Rattle.trace.proofs.Layouts.{PartsAre, parts_are, length_part, holes_start}
use Rattle.trace.proofs.TickBounds.{ticks_small}
use Rattle.ticks.specs.Traces.{trace_of}
use Rattle.ticks.proofs.AcceptedBytes.{accepted, checks}
use Rattle.ticks.proofs.Places.{place_start}
use Rattle.walk.specs.Walk.{start_of}
use Rattle.walk.specs.inner.Places.{Stands}

module _ (s : List ℕ) (w : Parsed) (h : accept_answer s ≡ answer w) where
  abbrev l : Layout
  l = w.layout

  parts : PartsAre s l
  parts = parts_are s l (checks s w h).walked

  all_holes : length (holes_part s l) ≡ 0 + length (holes_part s l) / 8 * 8
  all_holes =
      let g = parts in
      omega (arith, length_part s l.holes l.holes_end (holes_start g) g.holes_end, g.holes)

  all_samples : length (samples_part s l) ≡ 0 + length (samples_part s l) / sample_width l.cells * sample_width l.cells
  all_samples =
      let g = parts in
      let long : length (samples_part s l) ≡ length s - l.samples = length_part s l.samples (length s) g.samples (omega arith) in
      let e : length (samples_part s l) ≡ u16_at s l.replies_end * sample_width l.cells = omega (arith, g.whole) in
      let k : length (samples_part s l) / sample_width l.cells ≡ u16_at s l.replies_end = div-eq_of_eq-mul_left (omega arith) e in
      e ∙ ap (λ (i : ℕ). i * sample_width l.cells) (sym k) ∙ sym (zero-add _)

  pub stands_start : Stands l.cells (holes_part s l) (samples_part s l) w.ticks start_of
  stands_start =
      let ok = accepted s w h in
      record {
        holes_left = length (holes_part s l) / 8;
        samples_left = length (samples_part s l) / sample_width l.cells;
        in_holes = all_holes;
        in_samples = all_samples;
        small = ticks_small _ _ _ ok.holes ok.covered;
        place = place_start (trace_of s w) ok;
        later = λ t i. refl;
      }
