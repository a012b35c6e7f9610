-- Demand 3 of every accepted trace, whole: flags, first ticks and `sure` claims, outputs and bits, the bounds of the net charge, and the end.
use Rattle.std.specs.Prelude.{ℕ, suc, ◌+◌, ◌*◌, ◌≤◌, ◌<◌, ◌≡◌, ◌↔◌, Bool, not, List, map, ℤ, T}
use Rattle.std.specs.Int.Signed.{le_z}
use Rattle.refusals.specs.Refusals.{answer}
use Rattle.rules.specs.Table.{row_at}
use Rattle.rules.specs.Samples.{Sample, readings_of}
use Rattle.rules.specs.Evaluation.{clears, alert, status, evaluated, evaluations}
use Rattle.flags.specs.declared.Flag.{Flag}
use Rattle.flags.specs.declared.Flag.TheVariants.{Clear, Held}
use Rattle.flags.specs.declared.Output.{Output}
use Rattle.flags.specs.declared.Output.TheVariants.{ChargeOpen, DischargeOpen, Fuse, TerminateChargeAlarm, OverTempAlarm, TerminateDischargeAlarm}
use Rattle.flags.specs.Flags.{number_of}
use Rattle.flags.specs.Outputs.{drivers}
use Rattle.fillings.specs.Fillings.{last, seen}
use Rattle.fillings.specs.Outputs.{output, active}
use Rattle.fillings.specs.Charge.{net_charge, least_charge, greatest_charge}
use Rattle.fillings.specs.promises.Demand3.{First, Tripping}
use Rattle.verdicts.specs.Verdicts.{verdict_of}
use Rattle.trace.specs.Records.{Reply}
use Rattle.trace.specs.Acceptance.{Parsed, accept_answer}
use Rattle.ticks.specs.Traces.{Trace, trace_of, shown, in_hole}
use Rattle.ticks.specs.Cut.{cut_at}
use Rattle.demands.specs.Verdicts.{tick_of, trace_verdicts}
use Rattle.demands.specs.Reading.{byte_of, byte_at, alert_at, status_at, possible_from, held_from, rule_in, Fills, state_under, UnderEvery, UnderSome, SureAt}

-- What is promised of rule i of a trace.
pub record RuleJudged (tr : Trace) (i : ℕ) : Type 0 where
  -- at every tick alert and status read held exactly if held under every filling, clear exactly if under none, else unknown
  pub alert_held : (t : ℕ) → t < tr.ticks → (alert_at tr i t ≡ 1) ↔ UnderEvery tr i t alert
  pub alert_clear : (t : ℕ) → t < tr.ticks → (alert_at tr i t ≡ 0) ↔ UnderEvery tr i t (λ s. not (alert s))
  pub alert_unknown : (t : ℕ) → t < tr.ticks → (alert_at tr i t ≡ 2) ↔ (UnderSome tr i t alert × UnderSome tr i t (λ s. not (alert s)))
  pub status_held : (t : ℕ) → t < tr.ticks → (status_at tr i t ≡ 1) ↔ UnderEvery tr i t (status (last (rule_in tr i)))
  pub status_clear : (t : ℕ) → t < tr.ticks → (status_at tr i t ≡ 0) ↔ UnderEvery tr i t (λ s. not (status (last (rule_in tr i)) s))
  pub status_unknown : (t : ℕ) → t < tr.ticks
      → (status_at tr i t ≡ 2) ↔ (UnderSome tr i t (status (last (rule_in tr i))) × UnderSome tr i t (λ s. not (status (last (rule_in tr i)) s)))
  -- the two first ticks
  pub first_some : First tr.ticks (λ t. UnderSome tr i t (status (last (rule_in tr i)))) (possible_from tr i)
  pub first_all : First tr.ticks (λ t. UnderEvery tr i t (status (last (rule_in tr i)))) (held_from tr i)
  -- sure at a seen evaluation that meets the recovery
  pub sure_recovered : (t : ℕ) (x : Sample) → t < tr.ticks → T (evaluated (rule_in tr i).row t) → shown tr t ≡ seen x
      → T (clears (rule_in tr i).row (rule_in tr i).setting (readings_of x)) → SureAt tr i t
  -- sure once as many seen evaluations in a row as the top state have met the threshold
  pub sure_counted : (a t : ℕ) → t < tr.ticks → Tripping (rule_in tr i) (shown tr) a (suc t)
      → last (rule_in tr i) ≤ evaluations (rule_in tr i).row a (suc t) → SureAt tr i t
  -- from a sure tick on, fillings that are alike at all later ticks agree in state, alert and status
  pub sure_onwards : (t : ℕ) → SureAt tr i t → (f g : ℕ → Sample) → Fills tr f → Fills tr g
      → ((u : ℕ) → t < u → T (in_hole tr.holes u) → f u ≡ g u)
      → (u : ℕ) → t ≤ u → u < tr.ticks
      → (state_under tr i f u ≡ state_under tr i g u)
      × (alert (state_under tr i f u) ≡ alert (state_under tr i g u))
      × (status (last (rule_in tr i)) (state_under tr i f u) ≡ status (last (rule_in tr i)) (state_under tr i g u))

-- What an output or a status bit is at a tick, and under a filling.
abbrev pub output_at : Trace → Output → ℕ → Flag
output_at tr o t = output (drivers o) tr.config (shown tr) (suc t)

abbrev pub active_under : Trace → Output → (ℕ → Sample) → ℕ → Bool
active_under tr o f t = active (drivers o) tr.config (shown tr) f (suc t)

-- The verdict on a reply, from the sample of its tick and the bits 4000h, 1000h and 0800h after it.
abbrev pub verdict_at : Trace → Reply → ℕ
verdict_at tr r =
    verdict_of (tick_of (shown tr r.tick))
    (record {
      terminate_charge = output_at tr TerminateChargeAlarm r.tick;
      over_temp = output_at tr OverTempAlarm r.tick;
      terminate_discharge = output_at tr TerminateDischargeAlarm r.tick;
    })
    r.bytes

-- What is promised of the outputs and of the status bits.
pub record OutputsJudged (tr : Trace) : Type 0 where
  -- what reads held or clear is so under every filling
  pub when_held : (o : Output) (t : ℕ) → t < tr.ticks → output_at tr o t ≡ Held → (f : ℕ → Sample) → Fills tr f → T (active_under tr o f t)
  pub when_clear : (o : Output) (t : ℕ) → t < tr.ticks → output_at tr o t ≡ Clear → (f : ℕ → Sample) → Fills tr f → T (not (active_under tr o f t))
  -- held exactly if a rule that drives it reads held in status at that tick, clear exactly if all that drive it read clear
  pub held_by_one : (o : Output) (t : ℕ) → t < tr.ticks
      → (output_at tr o t ≡ Held) ↔ ((i : ℕ) × (i < 16) × T (drivers o (row_at i)) × (status_at tr i t ≡ 1))
  pub clear_by_all : (o : Output) (t : ℕ) → t < tr.ticks
      → (output_at tr o t ≡ Clear) ↔ ((i : ℕ) → i < 16 → T (drivers o (row_at i)) → status_at tr i t ≡ 0)
  -- C, D and fuse in the report
  pub charge : (t : ℕ) → t < tr.ticks → byte_at tr t 160 ≡ number_of (output_at tr ChargeOpen t)
  pub discharge : (t : ℕ) → t < tr.ticks → byte_at tr t 161 ≡ number_of (output_at tr DischargeOpen t)
  pub fuse : (t : ℕ) → t < tr.ticks → byte_at tr t 162 ≡ number_of (output_at tr Fuse t)
  -- the verdict on each reply
  pub verdicts : trace_verdicts tr ≡ map (verdict_at tr) tr.replies

-- The net charge of a trace under a filling, and its bounds.
abbrev pub net_under : Trace → (ℕ → Sample) → ℤ
net_under tr f = net_charge (shown tr) f tr.ticks

abbrev pub least_net : Trace → ℤ
least_net tr = least_charge (shown tr) tr.ticks

abbrev pub greatest_net : Trace → ℤ
greatest_net tr = greatest_charge (shown tr) tr.ticks

-- What is promised of the net charge: the bounds hold under every filling, and both are reached.
pub record ChargeJudged (tr : Trace) : Type 0 where
  pub above : (f : ℕ → Sample) → Fills tr f → T (le_z (least_net tr) (net_under tr f))
  pub below : (f : ℕ → Sample) → Fills tr f → T (le_z (net_under tr f) (greatest_net tr))
  pub reached_least : (f : ℕ → Sample) × Fills tr f × (net_under tr f ≡ least_net tr)
  pub reached_greatest : (f : ℕ → Sample) × Fills tr f × (net_under tr f ≡ greatest_net tr)

-- What the report says at the end of a trace.
pub record EndJudged (tr : Trace) : Type 0 where
  -- cut at its last tick the trace is what it was, so the report's flags are those of that tick
  pub last_tick : (t : ℕ) → suc t ≡ tr.ticks → cut_at tr t ≡ tr
  -- where no tick is covered every rule is in state 0: all is clear
  pub rules_clear : tr.ticks ≡ 0 → (i : ℕ) → i < 16 → (byte_of tr (10 * i) ≡ 0) × (byte_of tr (10 * i + 1) ≡ 0)
  pub outputs_clear : tr.ticks ≡ 0 → (byte_of tr 160 ≡ 0) × (byte_of tr 161 ≡ 0) × (byte_of tr 162 ≡ 0)

-- Demand 3 of a trace.
pub record TraceJudged (tr : Trace) : Type 0 where
  pub rules : (i : ℕ) → i < 16 → RuleJudged tr i
  pub outputs : OutputsJudged tr
  pub charge : ChargeJudged tr
  pub end : EndJudged tr

-- Demand 3: of all bytes that are accepted.
abbrev pub Demand3 : Type 0
Demand3 = (s : List ℕ) (w : Parsed) → accept_answer s ≡ answer w → TraceJudged (trace_of s w)
