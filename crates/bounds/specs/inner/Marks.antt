-- The tests of all rules against one sample, and a half of the states, the least or the greatest, moved by what it meets.
use Rattle.std.specs.Prelude.{ℕ, ◌+◌, ◌≡◌, Bool, false, cond, ◌||◌, List, ℤ, pos, ltb, get_or}
use Rattle.std.specs.Int.Signed.{lt_z}
use Rattle.lists.specs.Lists.{tabulate}
use Rattle.rules.specs.declared.Readings.{Readings}
use Rattle.rules.specs.Table.{row_at}
use Rattle.rules.specs.Evaluation.{step}
use Rattle.bounds.specs.Plan.{least32, greatest32}
use Rattle.bounds.specs.Steps.{reading}
use Rattle.bounds.specs.Firsts.{rises}
use Rattle.bounds.specs.declared.marks.Marks.{Marks}

-- What each rule reads of a sample.
unfoldable pub values_of : Readings → List ℤ
values_of r = tabulate 16 (λ i. reading (row_at i) r)

-- A number of 32 bits: none is below the least, or above the greatest.
abbrev pub Within : ℤ → Type 0
Within z = (lt_z z least32 ≡ false) × (lt_z greatest32 z ≡ false)

-- The numbers that are above their thresholds, which stand from a place on.
unfoldable pub trips_of : List ℤ → ℕ → List ℤ → List Bool
trips_of values base tests = tabulate 16 (λ i. lt_z (get_or tests (base + i) (pos 0)) (get_or values i (pos 0)))

-- The numbers that are below their recoveries.
unfoldable pub clears_of : List ℤ → List ℤ → List Bool
clears_of values tests = tabulate 16 (λ i. lt_z (get_or values i (pos 0)) (get_or tests (48 + i) (pos 0)))

-- A state of rule i after a tick with these marks.
abbrev pub moved_by : Marks → List ℕ → Bool → ℕ → ℕ → ℕ
moved_by marks lanes even i s =
    cond (ltb 0 (get_or lanes (16 + i) 0) || even) (step (get_or lanes i 0) (get_or marks.trips i false) (get_or marks.clears i false) s) s

-- A half of the states after a tick with these marks.
unfoldable pub half_moved : Marks → List ℕ → Bool → List ℕ → List ℕ
half_moved marks lanes even ss = tabulate 16 (λ i. moved_by marks lanes even i (get_or ss i 0))

-- One of the states of rule i in two halves comes to the top.
abbrev pub either_rises : List ℕ → List ℕ → List ℕ → List ℕ → List ℕ → ℕ → Bool
either_rises lanes ls ls' gs gs' i =
    rises (get_or lanes i 0) (get_or ls i 0) (get_or ls' i 0) || rises (get_or lanes i 0) (get_or gs i 0) (get_or gs' i 0)
