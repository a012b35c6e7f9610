-- Paper 01, 'The sixteen rules': the rows of the table.
use Rattle.std.specs.Prelude.{ℕ, Bool, true, false, List, [], ◌∷◌, get_or}
use Rattle.rules.specs.declared.Quantity.{Quantity}
use Rattle.rules.specs.declared.Quantity.TheVariants.{HighestCell, LowestCell, SumOfCells, Current, HighestTempCharging, HighestTempDischarging, Board, LowestTempDischarging, CellDifference}
use Rattle.rules.specs.declared.Side.{Side}
use Rattle.rules.specs.declared.Side.TheVariants.{High, Low}
use Rattle.rules.specs.declared.Row.{Row}

-- A row: quantity, side, whether it recovers (else it latches and commands the fuse), whether it is evaluated at even ticks only, whether it opens C and D, and its status bits.
abbrev row : Quantity → Side → Bool → Bool → Bool → Bool → ℕ → Row
row q s r e c d b = record { quantity = q; side = s; recovers = r; even = e; charge = c; discharge = d; bits = b }

-- The sixteen rows, 0 to 15.
abbrev pub rows : List Row
rows =
    row HighestCell High true false true false 0x4000
    ∷ row LowestCell Low true false false true 0x0800
    ∷ row SumOfCells High true false true false 0x4000
    ∷ row SumOfCells Low true false false true 0x0800
    ∷ row Current High true false true false 0x4000
    ∷ row Current Low true false false true 0x0800
    ∷ row HighestTempCharging High true true true false 0x5000
    ∷ row HighestTempDischarging High true true false true 0x1800
    ∷ row Board High true true true true 0x5800
    ∷ row LowestTempDischarging Low true true false true 0x0800
    ∷ row HighestCell High false false true true 0x4800
    ∷ row Current High false false true true 0x4800
    ∷ row Current Low false false true true 0x4800
    ∷ row HighestTempCharging High false true true true 0x5800
    ∷ row HighestTempDischarging High false true true true 0x5800
    ∷ row CellDifference High false false true true 0x4800
    ∷ []

-- The row of a number; past the table one that drives nothing.
abbrev pub row_at : ℕ → Row
row_at i = get_or rows i (row Board High true false false false 0)
