-- The numbers of the rules, laid out so that one loop tests them all.
use Rattle.std.specs.Prelude.{ℕ, ◌/◌, ◌%◌, Bool, true, cond, List, ℤ, pos, negsuc, ltb, eqb}
use Rattle.lists.specs.Lists.{tabulate}
use Rattle.rules.specs.declared.Quantity.{Quantity}
use Rattle.rules.specs.declared.Quantity.TheVariants.{HighestCell, LowestCell, SumOfCells, Current, HighestTempCharging, HighestTempDischarging, Board, LowestTempDischarging, CellDifference}
use Rattle.rules.specs.declared.Readings.{Readings}
use Rattle.rules.specs.declared.Row.{Row}
use Rattle.rules.specs.Quantities.{charging, discharging}
use Rattle.rules.specs.declared.Side.{Side}
use Rattle.rules.specs.declared.Side.TheVariants.{High, Low}
use Rattle.rules.specs.declared.Setting.{Setting}
use Rattle.rules.specs.Table.{row_at}
use Rattle.rules.specs.Evaluation.{top}
use Rattle.limits.specs.Limits.{setting_of}
use Rattle.bounds.specs.Lanes.{paired}

-- A number as a rule on a side reads it: mirrored on the low side, so that on both sides a greater one is further on towards the threshold.
abbrev pub along : Side → ℤ → ℤ
along High z = z
along Low (pos k) = negsuc k
along Low (negsuc k) = pos k

-- The least and the greatest number of 32 bits.
abbrev pub least32 : ℤ
least32 = negsuc 2147483647

abbrev pub greatest32 : ℤ
greatest32 = pos 2147483647

-- Which way the current flows: 0 neither, 1 in, 2 out.
abbrev pub flow_of : ℕ → Readings → ℕ
flow_of idle r = cond (charging idle r) 1 (cond (discharging idle r) 2 0)

-- Whether a quantity counts towards the threshold while the current flows so.
unfoldable pub counts : ℕ → Quantity → Bool
counts flow HighestCell = true
counts flow LowestCell = true
counts flow SumOfCells = true
counts flow Current = true
counts flow HighestTempCharging = eqb flow 1
counts flow HighestTempDischarging = eqb flow 2
counts flow Board = true
counts flow LowestTempDischarging = eqb flow 2
counts flow CellDifference = true

-- A test of a rule: groups 0 to 2 are thresholds by the flow, with the greatest number where the quantity does not count; group 3 is the recovery, with the least number where the rule latches.
unfoldable pub test_at : ℕ → Row → Setting → ℤ
test_at group row s =
    cond (ltb group 3)
    (cond (counts group row.quantity) (along row.side s.threshold) greatest32)
    (cond row.recovers (along row.side s.recovery) least32)

-- The four groups, sixteen rules each.
unfoldable pub tests_of : List Setting → List ℤ
tests_of ss = tabulate 64 (λ j. test_at (j / 16) (row_at (j % 16)) (setting_of ss (j % 16)))

-- The top states of the rules, then 1 for each rule that is evaluated at every tick and 0 for each that is evaluated at even ticks only.
unfoldable pub lanes_of : List Setting → List ℕ
lanes_of ss = paired (λ i. top (setting_of ss i).time) (λ i. cond (row_at i).even 0 1)
