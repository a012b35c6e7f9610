use mathlib.Core.Path.{ap, ◌∙◌}
use lib.IntN.{pos}
use mir.Syntax.{w16, w64}
use mir.Facts.{to_z_pos}
use borrow.Author.Rules.{rules}
use Rattle.rules.specs.Quantities.{value}
use Rattle.rules.proofs.Signed.{cast_fits, cast_is}
use Rattle.rules.proofs.evaluation.value_of.Goals as goal

pub overflow_cast-result-in-Current : goal.overflow_cast-result-in-Current
overflow_cast-result-in-Current c = search (rules, cast_fits)

pub overflow_cast-result-in-HighestTempCharging : goal.overflow_cast-result-in-HighestTempCharging
overflow_cast-result-in-HighestTempCharging c = search (rules, cast_fits)

pub overflow_cast-result-in-HighestTempDischarging : goal.overflow_cast-result-in-HighestTempDischarging
overflow_cast-result-in-HighestTempDischarging c = search (rules, cast_fits)

pub overflow_cast-result-in-Board : goal.overflow_cast-result-in-Board
overflow_cast-result-in-Board c = search (rules, cast_fits)

pub overflow_cast-result-in-LowestTempDischarging : goal.overflow_cast-result-in-LowestTempDischarging
overflow_cast-result-in-LowestTempDischarging c = search (rules, cast_fits)

pub returns-in-HighestCell : goal.returns-in-HighestCell
unfolding value
returns-in-HighestCell c = rw c.in-HighestCell.is (to_z_pos w64 (search rules))

pub returns-in-LowestCell : goal.returns-in-LowestCell
unfolding value
returns-in-LowestCell c = rw c.in-LowestCell.is (to_z_pos w64 (search rules))

pub returns-in-SumOfCells : goal.returns-in-SumOfCells
unfolding value
returns-in-SumOfCells c = rw c.in-SumOfCells.is (to_z_pos w64 (search rules))

pub returns-in-Current : goal.returns-in-Current
unfolding value
returns-in-Current c = rw c.in-Current.is (cast_is {w = w16} w64 tt (search rules))

pub returns-in-HighestTempCharging : goal.returns-in-HighestTempCharging
unfolding value
returns-in-HighestTempCharging c = rw c.in-HighestTempCharging.is (cast_is {w = w16} w64 tt (search rules))

pub returns-in-HighestTempDischarging : goal.returns-in-HighestTempDischarging
unfolding value
returns-in-HighestTempDischarging c = rw c.in-HighestTempDischarging.is (cast_is {w = w16} w64 tt (search rules))

pub returns-in-Board : goal.returns-in-Board
unfolding value
returns-in-Board c = rw c.in-Board.is (cast_is {w = w16} w64 tt (search rules))

pub returns-in-LowestTempDischarging : goal.returns-in-LowestTempDischarging
unfolding value
returns-in-LowestTempDischarging c = rw c.in-LowestTempDischarging.is (cast_is {w = w16} w64 tt (search rules))

pub returns-in-CellDifference : goal.returns-in-CellDifference
unfolding value
returns-in-CellDifference c = rw c.in-CellDifference.is (to_z_pos w64 (search rules) ∙ ap pos c.difference.ensures)
