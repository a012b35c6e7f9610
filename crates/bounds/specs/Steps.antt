-- What a seen tick and a run of unseen ticks do to the least states of the sixteen rules, and to the greatest, which follow them.
use Rattle.std.specs.Prelude.{ℕ, suc, ◌+◌, ◌*◌, ◌%◌, ◌<◌, min, ◌≡◌, Bool, false, cond, ◌&&◌, ◌||◌, List, ℤ, pos, ltb, leb, eqb, get_or, length}
use Rattle.std.specs.Int.Signed.{lt_z}
use Rattle.lists.specs.Lists.{tabulate}
use Rattle.rules.specs.declared.Readings.{Readings}
use Rattle.rules.specs.declared.Row.{Row}
use Rattle.rules.specs.Table.{row_at}
use Rattle.rules.specs.Quantities.{value}
use Rattle.rules.specs.Evaluation.{step, evaluations}
use Rattle.flags.specs.declared.Flag.TheVariants.{Unknown}
use Rattle.flags.specs.declared.RuleFlags.{RuleFlags}
use Rattle.fillings.specs.Bounds.{flags_between}
use Rattle.bounds.specs.Lanes.{paired}
use Rattle.bounds.specs.Plan.{along, least32, greatest32, flow_of}

-- Thirty-two states, and as many first ticks.
abbrev pub sized : List ℕ → List ℕ → Bool
sized ss fs = eqb (length ss) 32 && eqb (length fs) 32

-- And readings whose sum of cells is one of 31 bits, as every pack's is.
abbrev pub readable : Readings → List ℕ → List ℕ → Bool
readable r ss fs = leb r.sum_of_cells 2147483647 && sized ss fs

-- What a rule of a row reads of a sample.
abbrev pub reading : Row → Readings → ℤ
reading row r = along row.side (value row.quantity r)

-- What every rule reads is a number of 32 bits.
abbrev pub Within32 : Readings → Type 0
Within32 r = (i : ℕ) → i < 16 → (lt_z (reading (row_at i) r) least32 ≡ false) × (lt_z greatest32 (reading (row_at i) r) ≡ false)

-- Whether a sample meets the threshold of rule i among these tests.
abbrev pub trips_by : List ℤ → ℕ → Readings → ℕ → Bool
trips_by tests idle r i = lt_z (get_or tests (16 * flow_of idle r + i) (pos 0)) (reading (row_at i) r)

-- Whether it meets the recovery.
abbrev pub clears_by : List ℤ → Readings → ℕ → Bool
clears_by tests r i = lt_z (reading (row_at i) r) (get_or tests (48 + i) (pos 0))

-- A state of rule i after a seen tick.
abbrev pub seen_by : List ℤ → List ℕ → ℕ → ℕ → Readings → ℕ → ℕ → ℕ
seen_by tests lanes idle tick r i s =
    cond (ltb 0 (get_or lanes (16 + i) 0) || eqb (tick % 2) 0)
    (step (get_or lanes i 0) (trips_by tests idle r i) (clears_by tests r i) s)
    s

-- All states after a seen tick.
unfoldable pub states_seen : List ℤ → List ℕ → ℕ → ℕ → Readings → List ℕ → List ℕ
states_seen tests lanes idle tick r ss =
    paired (λ i. seen_by tests lanes idle tick r i (get_or ss i 0)) (λ i. seen_by tests lanes idle tick r i (get_or ss (16 + i) 0))

-- A least state after n unseen evaluations: the first that there is recovers, or leaves it where the rule latches.
abbrev pub least_missed : ℕ → Bool → ℕ → ℕ → ℕ
least_missed m recovers n s = cond (eqb n 0) s (step m false recovers s)

-- A greatest state after n unseen evaluations: each counts one up to the top.
abbrev pub greatest_missed : ℕ → ℕ → ℕ → ℕ
greatest_missed m n s = cond (eqb n 0) s (min (s + n) m)

-- How often rule i is evaluated from one tick to another, both included.
abbrev pub evaluations_of : ℕ → ℕ → ℕ → ℕ
evaluations_of first last i = evaluations (row_at i) first (suc last)

-- All states after the unseen ticks from first to last.
unfoldable pub states_missed : List ℕ → ℕ → ℕ → List ℕ → List ℕ
states_missed lanes first last ss =
    paired (λ i. least_missed (get_or lanes i 0) (row_at i).recovers (evaluations_of first last i) (get_or ss i 0))
    (λ i. greatest_missed (get_or lanes i 0) (evaluations_of first last i) (get_or ss (16 + i) 0))

-- The flags of all rules; of a list that is not of thirty-two states nothing is known.
unfoldable pub flags_of_states : List ℕ → List ℕ → List RuleFlags
flags_of_states lanes ss =
    cond (eqb (length ss) 32)
    (tabulate 16 (λ i. flags_between (row_at i) (get_or lanes i 0) (get_or ss i 0) (get_or ss (16 + i) 0)))
    (tabulate 16 (λ i. record { alert = Unknown; status = Unknown }))
