-- Paper 01, 'The sixteen rules': the quantities, and when the pack charges or discharges.
use Rattle.std.specs.Prelude.{ℕ, ◌-◌, ◌*◌, Bool, true, ℤ, pos, negsuc, neg_ℤ}
use Rattle.std.specs.Int.Signed.{lt_z}
use Rattle.rules.specs.declared.Readings.{Readings}
use Rattle.rules.specs.declared.Quantity.{Quantity}
use Rattle.rules.specs.declared.Quantity.TheVariants.{HighestCell, LowestCell, SumOfCells, Current, HighestTempCharging, HighestTempDischarging, Board, LowestTempDischarging, CellDifference}

-- The quantity Q.
unfoldable pub value : Quantity → Readings → ℤ
value HighestCell r = pos r.highest_cell
value LowestCell r = pos r.lowest_cell
value SumOfCells r = pos r.sum_of_cells
value Current r = r.current
value HighestTempCharging r = r.highest_temp
value HighestTempDischarging r = r.highest_temp
value Board r = r.board
value LowestTempDischarging r = r.lowest_temp
value CellDifference r = pos (r.highest_cell - r.lowest_cell)

-- Charging: current above idle.
abbrev pub charging : ℕ → Readings → Bool
charging idle r = lt_z (pos idle) r.current

-- Discharging: current below minus idle.
abbrev pub discharging : ℕ → Readings → Bool
discharging idle r = lt_z r.current (neg_ℤ (pos idle))

-- Whether the threshold test counts: a quantity 'charging' or 'discharging' asks that the pack does so.
unfoldable pub qualified : ℕ → Quantity → Readings → Bool
qualified idle HighestCell r = true
qualified idle LowestCell r = true
qualified idle SumOfCells r = true
qualified idle Current r = true
qualified idle HighestTempCharging r = charging idle r
qualified idle HighestTempDischarging r = discharging idle r
qualified idle Board r = true
qualified idle LowestTempDischarging r = discharging idle r
qualified idle CellDifference r = true

-- The least number of a quantity's range.
unfoldable pub least : Quantity → ℤ
least HighestCell = pos 0
least LowestCell = pos 0
least SumOfCells = pos 0
least Current = negsuc 32767
least HighestTempCharging = negsuc 32767
least HighestTempDischarging = negsuc 32767
least Board = negsuc 32767
least LowestTempDischarging = negsuc 32767
least CellDifference = pos 0

-- The greatest number of a quantity's range in a pack of n cells.
unfoldable pub most : Quantity → ℕ → ℤ
most HighestCell n = pos 65535
most LowestCell n = pos 65535
most SumOfCells n = pos (65535 * n)
most Current n = pos 32767
most HighestTempCharging n = pos 32767
most HighestTempDischarging n = pos 32767
most Board n = pos 32767
most LowestTempDischarging n = pos 32767
most CellDifference n = pos 65535
