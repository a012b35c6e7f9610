-- A section has at most 65,535 records.
use Prim.Native.Nat.{ℕ, ◌/◌, ◌<◌}
use mathlib.Core.Path.{◌≡◌}
use mathlib.Core.List.{List}
use native.Mathlib.Omega.{arith}
use lib.ListN.{length, get_or, take}
use lib.Seq.{take_all}
use Rattle.refusals.specs.Refusals.{answer}
use Rattle.bytes_le.proofs.Spaced.{length_spaced}
use Rattle.bytes_le.proofs.AreBytes.{Are}
use Rattle.trace.specs.Records.{hole_at, stamped_at, holes_in, samples_in, sample_width}
use Rattle.trace.specs.Sections.{walk_answer, holes_part, samples_part}
use Rattle.trace.specs.declared.Layout.{Layout}
use Rattle.trace.proofs.WholeParts.{holes_whole, samples_whole}

module _ (s : List ℕ) (l : Layout) (h : walk_answer s ≡ answer l) (bytes : (i : ℕ) → get_or s i 0 < 256) where
  all : Are s
  all = record { bytes = λ i k. bytes i }

  pub all_samples : take 65535 (samples_in l.cells (samples_part s l)) ≡ samples_in l.cells (samples_part s l)
  all_samples =
      let w : ℕ = sample_width l.cells in
      take_all 65535 _ (omega (arith, length_spaced (stamped_at l.cells (samples_part s l)) w (length (samples_part s l) / w) 0, (samples_whole all l h).few))

  pub all_holes : take 65535 (holes_in (holes_part s l)) ≡ holes_in (holes_part s l)
  all_holes =
      take_all 65535 _ (omega (arith, length_spaced (hole_at (holes_part s l)) 8 (length (holes_part s l) / 8) 0, (holes_whole all l h).few))
