-- The readings of a sample, from what was found in its voltages and in its temperatures, and which samples are read.
use Prim.Native.Nat.{ℕ, ◌+◌, ◌≤◌, ◌<◌}
use mathlib.Core.Path.{◌≡◌, ◌∙◌}
use mathlib.Core.List.{List}
use lib.IntN.{ℤ, pos, negsuc}
use lib.ListN.{length}
use Rattle.std.specs.Ordering.{int_cmp}
use borrow.Author.Tests.{le-leb, lt-leb}
use Rattle.refusals.specs.Refusals.{answer, refused}
use Rattle.rules.specs.declared.Readings.{Readings}
use Rattle.rules.specs.Samples.{Sample, readings_of}
use Rattle.trace.specs.Records.{sample_width, stamped_at}
use Rattle.samples.specs.declared.Voltages.{Voltages}
use Rattle.samples.specs.declared.cells.Extremes.{Extremes}
use Rattle.samples.specs.Answers.{voltages_of, read_at_answer}
use Rattle.samples.specs.inner.Cells.{extremes}
use Rattle.samples.proofs.Found.{temperatures}

pub readings_are : (x : Sample) {current board : ℤ} {v : Voltages} {t : Extremes ℤ} {r : Readings}
    → r ≡ record { current = current; board = board; highest_cell = v.highest; lowest_cell = v.lowest; sum_of_cells = v.sum; highest_temp = t.highest; lowest_temp = t.lowest }
    → current ≡ x.current → board ≡ x.board → v ≡ voltages_of x.volts → t ≡ extremes int_cmp (negsuc 32767) (pos 32767) x.temps → r ≡ readings_of x
unfolding readings_of
readings_are x e c b v t = rw (e, c, b, v, t ∙ temperatures x.temps)

-- A sample that runs past the end of its part, and one that lies within it.
module _ (n : ℕ) (part : List ℕ) (at : ℕ) where
  pub cut : length part < at + sample_width n → read_at_answer n part at ≡ refused 5 0
  unfolding read_at_answer
  cut h = rw (lt-leb (at + sample_width n) (length part) h)

  pub whole : at + sample_width n ≤ length part → read_at_answer n part at ≡ answer (readings_of (stamped_at n part at).sample)
  unfolding read_at_answer
  whole h = rw (le-leb (at + sample_width n) (length part) h)
