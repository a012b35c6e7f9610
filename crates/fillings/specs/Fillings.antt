-- Paper 01, 'Three-way outputs': fillings, and the state of a rule under a filling. Filling, hole and tick are paper 01's terms.
use Rattle.std.specs.Prelude.{ℕ, zero, suc, ◌≤◌, ◌<◌, ◌≡◌, cond, List, T, get_or}
use Rattle.rules.specs.declared.Row.{Row}
use Rattle.rules.specs.declared.Setting.{Setting}
use Rattle.rules.specs.Samples.{Sample, Carried, readings_of}
use Rattle.rules.specs.Table.{row_at}
use Rattle.limits.specs.Limits.{limits, off}
use Rattle.rules.specs.Evaluation.{trips, clears, top, step, evaluated}

-- A rule of one trace: the trace's cell count and idle current, the rule's row of the table, and its numbers.
pub record Rule : Type 0 where
  pub cells : ℕ
  pub idle : ℕ
  pub row : Row
  pub setting : Setting

-- What acceptance ensures of a rule (refusals 3, 4 and 7).
pub record Sound (r : Rule) : Type 0 where
  pub least_cells : 3 ≤ r.cells
  pub most_cells : r.cells ≤ 12
  pub idle : r.idle ≤ 32766
  pub numbers : T (limits r.cells r.row r.setting)

-- The rule's top state.
abbrev pub last : Rule → ℕ
last r = top r.setting.time

-- What a trace shows at a tick: a sample, or nothing, inside a hole.
pub data Shown : Type 0 where
  seen : Sample → Shown
  unseen : Shown

-- A filling gives each unseen tick one sample of the trace's layout. What it gives at seen ticks is never looked at.
abbrev pub Filling : ℕ → (ℕ → Shown) → (ℕ → Sample) → Type 0
Filling n trace f = (t : ℕ) → trace t ≡ unseen → Carried n (f t)

-- The sample of a tick under a filling.
abbrev pub filled : Shown → Sample → Sample
filled (seen x) y = x
filled unseen y = y

-- The state after an evaluation of a sample.
abbrev pub evaluate : Rule → Sample → ℕ → ℕ
evaluate r x s = step (last r) (trips r.idle r.row r.setting (readings_of x)) (clears r.row r.setting (readings_of x)) s

-- The state under a filling once the first k ticks have passed: `after r trace f (suc t)` is the state after tick t.
unfoldable pub after : Rule → (ℕ → Shown) → (ℕ → Sample) → ℕ → ℕ
after r trace f zero = 0
after r trace f (suc k) =
    cond (evaluated r.row k) (evaluate r (filled (trace k) (f k)) (after r trace f k)) (after r trace f k)

-- The head and the rules of a trace.
pub record Config : Type 0 where
  pub cells : ℕ
  pub idle : ℕ
  pub settings : List Setting

-- Rule i of a trace.
abbrev pub rule_of : Config → ℕ → Rule
rule_of p i = record { cells = p.cells; idle = p.idle; row = row_at i; setting = get_or p.settings i off }

-- What acceptance ensures of head and rules.
abbrev pub SoundConfig : Config → Type 0
SoundConfig p = (i : ℕ) → i < 16 → Sound (rule_of p i)
