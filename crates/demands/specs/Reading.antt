-- Paper 01, 'Three-way outputs': what the report says at a tick, and the fillings of a trace's holes. Filling is paper 01's term.
use Rattle.std.specs.Prelude.{ℕ, suc, ◌+◌, ◌*◌, ◌≡◌, Bool, T, get_or}
use Rattle.bytes_le.specs.Numbers.{u32_at}
use Rattle.rules.specs.Samples.{Sample, Carried}
use Rattle.fillings.specs.Fillings.{Rule, rule_of, after}
use Rattle.ticks.specs.Traces.{Trace, shown, in_hole}
use Rattle.ticks.specs.Cut.{cut_at}
use Rattle.demands.specs.Report.{trace_report}

-- A byte of the report of a trace.
abbrev pub byte_of : Trace → ℕ → ℕ
byte_of tr place = get_or (trace_report tr) place 0

-- A byte of the report of the trace cut at a tick: what a flag or an output reads at that tick.
abbrev pub byte_at : Trace → ℕ → ℕ → ℕ
byte_at tr t place = byte_of (cut_at tr t) place

-- The alert of rule i at a tick.
abbrev pub alert_at : Trace → ℕ → ℕ → ℕ
alert_at tr i t = byte_at tr t (10 * i)

-- The status of rule i at a tick.
abbrev pub status_at : Trace → ℕ → ℕ → ℕ
status_at tr i t = byte_at tr t (10 * i + 1)

-- The first tick at which the status of rule i is held or unknown, as the report has it.
abbrev pub possible_from : Trace → ℕ → ℕ
possible_from tr i = u32_at (trace_report tr) (10 * i + 2)

-- The first tick at which it is held.
abbrev pub held_from : Trace → ℕ → ℕ
held_from tr i = u32_at (trace_report tr) (10 * i + 6)

-- Rule i of a trace.
abbrev pub rule_in : Trace → ℕ → Rule
rule_in tr i = rule_of tr.config i

-- A filling gives each tick of a trace's holes one sample of its layout. What it gives at other ticks up to the last is never looked at; past the last tick nothing is promised.
abbrev pub Fills : Trace → (ℕ → Sample) → Type 0
Fills tr f = (t : ℕ) → T (in_hole tr.holes t) → Carried tr.config.cells (f t)

-- The state of rule i after a tick, under a filling.
abbrev pub state_under : Trace → ℕ → (ℕ → Sample) → ℕ → ℕ
state_under tr i f t = after (rule_in tr i) (shown tr) f (suc t)

-- A test of the state of rule i after a tick holds under every filling.
abbrev pub UnderEvery : Trace → ℕ → ℕ → (ℕ → Bool) → Type 0
UnderEvery tr i t test = (f : ℕ → Sample) → Fills tr f → T (test (state_under tr i f t))

-- It holds under some filling.
abbrev pub UnderSome : Trace → ℕ → ℕ → (ℕ → Bool) → Type 0
UnderSome tr i t test = (f : ℕ → Sample) × Fills tr f × T (test (state_under tr i f t))

-- Every filling gives rule i the same state after a tick.
abbrev pub SureAt : Trace → ℕ → ℕ → Type 0
SureAt tr i t = (f g : ℕ → Sample) → Fills tr f → Fills tr g → state_under tr i f t ≡ state_under tr i g t
