-- The quantities in groups, by the tags that a `match` of the code names together.
use Prim.Native.Nat.{ℕ}
use mathlib.Core.Path.{◌≡◌, refl}
use mathlib.Core.Bool.{true}
use mathlib.Core.List.{List, [], ◌∷◌}
use lib.IntN.{pos, negsuc}
use types.Run.{OneOf, miss}
use denote.Enum.Declared.{tag_of}
use Rattle.rules.specs.declared.Readings.{Readings}
use Rattle.rules.specs.declared.Quantity.{Quantity}
use Rattle.rules.specs.declared.Quantity.TheVariants.{HighestCell, LowestCell, SumOfCells, Current, HighestTempCharging, HighestTempDischarging, Board, LowestTempDischarging, CellDifference}
use Rattle.rules.specs.Quantities.{discharging, qualified, least, most}
use Rattle.rules.specs.contracts.Quantity.{the_type}

-- The tag of a quantity is one of these.
abbrev pub Among : List ℕ → Quantity → Type 0
Among ks q = OneOf ks (tag_of the_type q)

-- Those that count towards the threshold at any current.
abbrev pub always : List ℕ
always = 0 ∷ 1 ∷ 2 ∷ 3 ∷ 6 ∷ 8 ∷ []

-- Those that count while the pack discharges.
abbrev pub discharged : List ℕ
discharged = 5 ∷ 7 ∷ []

-- Those whose range starts at 0.
abbrev pub natural : List ℕ
natural = 0 ∷ 1 ∷ 2 ∷ 8 ∷ []

-- Those of one cell voltage, and of the difference of two.
abbrev pub volts : List ℕ
volts = 0 ∷ 1 ∷ 8 ∷ []

-- Those whose range is that of an i16.
abbrev pub signed : List ℕ
signed = 3 ∷ 4 ∷ 5 ∷ 6 ∷ 7 ∷ []

pub qualified_always : (idle : ℕ) (q : Quantity) (r : Readings) → Among always q → true ≡ qualified idle q r
unfolding qualified
qualified_always idle HighestCell r t = refl
qualified_always idle LowestCell r t = refl
qualified_always idle SumOfCells r t = refl
qualified_always idle Current r t = refl
qualified_always idle HighestTempCharging r t = absurd (miss always 4 tt t)
qualified_always idle HighestTempDischarging r t = absurd (miss always 5 tt t)
qualified_always idle Board r t = refl
qualified_always idle LowestTempDischarging r t = absurd (miss always 7 tt t)
qualified_always idle CellDifference r t = refl

pub qualified_discharged : (idle : ℕ) (q : Quantity) (r : Readings) → Among discharged q → discharging idle r ≡ qualified idle q r
unfolding qualified
qualified_discharged idle HighestCell r t = absurd (miss discharged 0 tt t)
qualified_discharged idle LowestCell r t = absurd (miss discharged 1 tt t)
qualified_discharged idle SumOfCells r t = absurd (miss discharged 2 tt t)
qualified_discharged idle Current r t = absurd (miss discharged 3 tt t)
qualified_discharged idle HighestTempCharging r t = absurd (miss discharged 4 tt t)
qualified_discharged idle HighestTempDischarging r t = refl
qualified_discharged idle Board r t = absurd (miss discharged 6 tt t)
qualified_discharged idle LowestTempDischarging r t = refl
qualified_discharged idle CellDifference r t = absurd (miss discharged 8 tt t)

pub least_natural : (q : Quantity) → Among natural q → pos 0 ≡ least q
unfolding least
least_natural HighestCell t = refl
least_natural LowestCell t = refl
least_natural SumOfCells t = refl
least_natural Current t = absurd (miss natural 3 tt t)
least_natural HighestTempCharging t = absurd (miss natural 4 tt t)
least_natural HighestTempDischarging t = absurd (miss natural 5 tt t)
least_natural Board t = absurd (miss natural 6 tt t)
least_natural LowestTempDischarging t = absurd (miss natural 7 tt t)
least_natural CellDifference t = refl

pub least_signed : (q : Quantity) → Among signed q → negsuc 32767 ≡ least q
unfolding least
least_signed HighestCell t = absurd (miss signed 0 tt t)
least_signed LowestCell t = absurd (miss signed 1 tt t)
least_signed SumOfCells t = absurd (miss signed 2 tt t)
least_signed Current t = refl
least_signed HighestTempCharging t = refl
least_signed HighestTempDischarging t = refl
least_signed Board t = refl
least_signed LowestTempDischarging t = refl
least_signed CellDifference t = absurd (miss signed 8 tt t)

pub most_volts : (q : Quantity) (n : ℕ) → Among volts q → pos 65535 ≡ most q n
unfolding most
most_volts HighestCell n t = refl
most_volts LowestCell n t = refl
most_volts SumOfCells n t = absurd (miss volts 2 tt t)
most_volts Current n t = absurd (miss volts 3 tt t)
most_volts HighestTempCharging n t = absurd (miss volts 4 tt t)
most_volts HighestTempDischarging n t = absurd (miss volts 5 tt t)
most_volts Board n t = absurd (miss volts 6 tt t)
most_volts LowestTempDischarging n t = absurd (miss volts 7 tt t)
most_volts CellDifference n t = refl

pub most_signed : (q : Quantity) (n : ℕ) → Among signed q → pos 32767 ≡ most q n
unfolding most
most_signed HighestCell n t = absurd (miss signed 0 tt t)
most_signed LowestCell n t = absurd (miss signed 1 tt t)
most_signed SumOfCells n t = absurd (miss signed 2 tt t)
most_signed Current n t = refl
most_signed HighestTempCharging n t = refl
most_signed HighestTempDischarging n t = refl
most_signed Board n t = refl
most_signed LowestTempDischarging n t = refl
most_signed CellDifference n t = absurd (miss signed 8 tt t)
