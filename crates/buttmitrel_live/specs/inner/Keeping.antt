-- What the inner functions of the live feed answer of lists that a caller keeps.
use Rattle.std.specs.Prelude.{ℕ, ◌≡◌, Bool, true, false, ◌&&◌, List, leb, eqb, length, get_or, Option, Some, None}
use Rattle.report.specs.declared.Totals.{Totals}
use Rattle.live.specs.declared.Live.{Live}
use Rattle.live.specs.State.{good}
use Rattle.buttmitrel_live.specs.Live.{is_kept}

-- Four totals, unseen ticks and ticks within a u32.
abbrev pub are_totals : List ℕ → Bool
are_totals totals = eqb (length totals) 4 && leb (get_or totals 2 0) 0xFFFFFFFF && leb (get_or totals 3 0) 0xFFFFFFFF

-- Totals in a list.
abbrev pub totals_of : List ℕ → Totals
totals_of totals = record { charge_in = get_or totals 0 0; charge_out = get_or totals 1 0; unseen = get_or totals 2 0; ticks = get_or totals 3 0 }

-- A state with the words and the totals of lists, where they can be a state's.
abbrev pub Filled : Option Live → Live → List ℕ → List ℕ → Type 0
Filled (Some s) begun words totals =
    (length words ≡ 80) × (are_totals totals ≡ true) × (s ≡ record { cells = begun.cells; idle = begun.idle; settings = begun.settings; states = record { words = words }; totals = totals_of totals })
Filled None begun words totals = (eqb (length words) 80 && are_totals totals) ≡ false

-- A state that is loaded from lists, or that is no good one.
abbrev pub Loaded : Option Live → List ℕ → List ℕ → List ℕ → Live → Type 0
Loaded (Some r) rules words totals s = (is_kept rules totals ≡ true) × (length words ≡ 80) × (length totals ≡ 4) × (r ≡ s)
Loaded None rules words totals s = (is_kept rules totals && good s) ≡ false
