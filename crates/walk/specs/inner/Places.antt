-- Where the walk stands among the records of an accepted trace.
use Rattle.std.specs.Prelude.{ℕ, suc, ◌+◌, ◌*◌, ◌≤◌, ◌<◌, ◌≡◌, List, length}
use Rattle.trace.specs.Records.{holes_from, samples_from, samples_in, sample_width, stamped_at}
use Rattle.fillings.specs.Fillings.{Shown, seen, unseen}
use Rattle.ticks.specs.Traces.{shown_in}
use Rattle.ticks.specs.inner.Places.{Place}
use Rattle.walk.specs.declared.Cursor.{Cursor}

-- What the samples of n cells in their part of a trace show.
abbrev pub shows : ℕ → List ℕ → ℕ → Shown
shows n samples = shown_in (samples_in n samples)

-- A cursor among the records of the parts of an accepted trace of m ticks.
pub record Stands (n : ℕ) (holes samples : List ℕ) (m : ℕ) (c : Cursor) : Type 0 where
  pub holes_left : ℕ
  pub samples_left : ℕ
  pub in_holes : length holes ≡ c.hole + holes_left * 8
  pub in_samples : length samples ≡ c.sample + samples_left * sample_width n
  pub small : m ≤ 0xFFFFFFFF
  pub place : Place m (holes_from holes holes_left c.hole) (samples_from n samples samples_left c.sample) c.tick
  pub later : (t : ℕ) → c.tick ≤ t → shows n samples t ≡ shown_in (samples_from n samples samples_left c.sample) t

-- From c to d only unseen ticks were passed, and not the tick `to`.
pub record Missed (n : ℕ) (holes samples : List ℕ) (m : ℕ) (c d : Cursor) (to : ℕ) : Type 0 where
  pub stands : Stands n holes samples m d
  pub on : c.tick < d.tick
  pub low : d.tick ≤ to
  pub hidden : (t : ℕ) → c.tick ≤ t → t < d.tick → shows n samples t ≡ unseen

-- From c to d the sample of one tick was passed.
pub record Passed (n : ℕ) (holes samples : List ℕ) (m : ℕ) (c d : Cursor) (to : ℕ) : Type 0 where
  pub stands : Stands n holes samples m d
  pub on : d.tick ≡ suc c.tick
  pub low : d.tick ≤ to
  pub there : c.sample + sample_width n ≤ length samples
  pub shown : shows n samples c.tick ≡ seen (stamped_at n samples c.sample).sample
