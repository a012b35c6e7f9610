-- A half of the first ticks.
use Rattle.std.specs.Prelude.{ℕ, List, get_or}
use Rattle.lists.specs.Lists.{tabulate}
use Rattle.bounds.specs.Firsts.{noted_at}

-- Those of the least states or of the greatest, with these after a tick.
unfoldable pub half_noted : List ℕ → ℕ → List ℕ → List ℕ → List ℕ
half_noted lanes tick ss fs = tabulate 16 (λ i. noted_at (get_or lanes i 0) tick (get_or ss i 0) (get_or fs i 0))
