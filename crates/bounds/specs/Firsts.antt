-- Paper 01, 'Three-way outputs': the first ticks at which the least states of the sixteen rules are at the top, where status is held, and then those at which the greatest are, where it is held or unknown.
use Rattle.std.specs.Prelude.{ℕ, ◌+◌, ◌*◌, ◌-◌, ◌%◌, Bool, cond, ◌&&◌, ◌||◌, List, ltb, leb, eqb, get_or}
use Rattle.lists.specs.Lists.{some_below}
use Rattle.rules.specs.declared.Row.{Row}
use Rattle.rules.specs.declared.Readings.{Readings}
use Rattle.rules.specs.Table.{row_at}
use Rattle.rules.specs.Evaluation.{status}
use Rattle.bounds.specs.Lanes.{paired}
use Rattle.bounds.specs.Steps.{evaluations_of, readable}

-- No tick.
abbrev pub none : ℕ
none = 0xFFFFFFFF

-- A first tick once found stays.
abbrev pub noted : ℕ → ℕ → ℕ
noted found first = cond (eqb first none) found first

-- A first tick, with the state after a tick.
abbrev pub noted_at : ℕ → ℕ → ℕ → ℕ → ℕ
noted_at m tick s first = noted (cond (status m s) tick none) first

-- A state comes to the top.
abbrev pub rises : ℕ → ℕ → ℕ → Bool
rises m s s' = ltb s m && eqb s' m

-- One of the states of rule i does.
abbrev pub rules_rise : List ℕ → List ℕ → List ℕ → ℕ → Bool
rules_rise lanes ss ss' i =
    rises (get_or lanes i 0) (get_or ss i 0) (get_or ss' i 0) || rises (get_or lanes i 0) (get_or ss (16 + i) 0) (get_or ss' (16 + i) 0)

-- The first ticks, with the states after a tick.
abbrev pub firsts_noted : List ℕ → ℕ → List ℕ → List ℕ → List ℕ
firsts_noted lanes tick ss fs =
    paired (λ i. noted_at (get_or lanes i 0) tick (get_or ss i 0) (get_or fs i 0)) (λ i. noted_at (get_or lanes i 0) tick (get_or ss (16 + i) 0) (get_or fs (16 + i) 0))

-- The first ticks after a seen tick, from the states before and after it: where none comes to the top there is nothing to note.
unfoldable pub firsts_seen : List ℕ → ℕ → List ℕ → List ℕ → List ℕ → List ℕ
firsts_seen lanes tick ss ss' fs = cond (some_below 16 (rules_rise lanes ss ss')) (firsts_noted lanes tick ss' fs) fs

-- The first ticks after a sample, where it and the lists can be read; else as they were.
abbrev pub firsts_read : List ℕ → ℕ → Readings → List ℕ → List ℕ → List ℕ → List ℕ
firsts_read lanes tick r ss ss' fs = cond (readable r ss fs) (firsts_seen lanes tick ss ss' fs) fs

-- The tick of evaluation j, from 1 on, of those from tick first on.
abbrev pub tick_of : Row → ℕ → ℕ → ℕ
tick_of row first j = cond row.even (first + first % 2 + 2 * (j - 1)) (first + (j - 1))

-- The tick at which n unseen evaluations from tick first on bring a greatest state to the top, or none.
abbrev pub top_tick : Row → ℕ → ℕ → ℕ → ℕ → ℕ
top_tick row m first n s = cond (ltb s m && leb (m - s) n) (tick_of row first (m - s)) none

-- The first ticks after the unseen ticks from first to last, from the states before them. In a hole no status becomes held.
unfoldable pub firsts_missed : List ℕ → ℕ → ℕ → List ℕ → List ℕ → List ℕ
firsts_missed lanes first last ss fs =
    paired (λ i. get_or fs i 0)
    (λ i. noted (top_tick (row_at i) (get_or lanes i 0) first (evaluations_of first last i) (get_or ss (16 + i) 0)) (get_or fs (16 + i) 0))
