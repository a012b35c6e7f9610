-- Demand 2 of an accepted trace: with no hole there is one run, and flags, outputs, first ticks and verdicts are those of the run; the totals are sums over the records.
use Rattle.std.specs.Prelude.{ℕ, suc, ◌+◌, ◌<◌, ◌≡◌, Bool, cond, List, [], ◌∷◌, map, T, length, take}
use Rattle.lists.specs.Lists.{tabulate}
use Rattle.refusals.specs.Refusals.{answer}
use Rattle.bytes_le.specs.Numbers.{u32_at, u64_at}
use Rattle.rules.specs.Table.{rows}
use Rattle.rules.specs.Samples.{Sample}
use Rattle.rules.specs.Evaluation.{alert, status, evaluated}
use Rattle.flags.specs.declared.Flag.{Flag}
use Rattle.flags.specs.declared.Flag.TheVariants.{Clear, Held}
use Rattle.flags.specs.declared.Output.{Output}
use Rattle.flags.specs.declared.Output.TheVariants.{ChargeOpen, DischargeOpen, Fuse, TerminateChargeAlarm, OverTempAlarm, TerminateDischargeAlarm}
use Rattle.flags.specs.Flags.{number_of}
use Rattle.flags.specs.Outputs.{drivers, active_of}
use Rattle.verdicts.specs.Verdicts.{verdict_of}
use Rattle.trace.specs.Records.{Reply, Stamped}
use Rattle.trace.specs.Acceptance.{Parsed, accept_answer}
use Rattle.fillings.specs.Fillings.{Rule, last, evaluate}
use Rattle.fillings.specs.Charge.{inward, outward}
use Rattle.fillings.specs.promises.Demand3.{First}
use Rattle.ticks.specs.Traces.{Trace, trace_of, shown}
use Rattle.ticks.specs.promises.Promises.{over_samples, over_holes}
use Rattle.demands.specs.Report.{trace_report}
use Rattle.demands.specs.Verdicts.{tick_of, trace_verdicts}
use Rattle.demands.specs.Reading.{byte_at, alert_at, status_at, possible_from, held_from, rule_in, state_under}

-- The state of a rule after samples, one a tick from tick k on, from state s.
unfoldable pub run_from : Rule → ℕ → List Stamped → ℕ → ℕ
run_from r k [] s = s
run_from r k (x ∷ xs) s = run_from r (suc k) xs (cond (evaluated r.row k) (evaluate r x.sample s) s)

-- The state of rule i after a tick: every rule starts at state 0 and makes one step at each tick at which it is evaluated.
abbrev pub run_state : Trace → ℕ → ℕ → ℕ
run_state tr i t = run_from (rule_in tr i) 0 (take (suc t) tr.samples) 0

-- Whether its status is active.
abbrev pub run_active : Trace → ℕ → ℕ → Bool
run_active tr i t = status (last (rule_in tr i)) (run_state tr i t)

-- An output, or a status bit: held if a rule that drives it has status active, else clear.
abbrev pub run_output : Trace → Output → ℕ → Flag
run_output tr o t = cond (active_of (drivers o) rows (tabulate 16 (λ i. run_active tr i t))) Held Clear

-- The verdict on a reply, from the sample of its tick and the bits 4000h, 1000h and 0800h after it.
abbrev pub run_verdict : Trace → Reply → ℕ
run_verdict tr r =
    verdict_of (tick_of (shown tr r.tick))
    (record {
      terminate_charge = run_output tr TerminateChargeAlarm r.tick;
      over_temp = run_output tr OverTempAlarm r.tick;
      terminate_discharge = run_output tr TerminateDischargeAlarm r.tick;
    })
    r.bytes

-- What is promised of a trace with no hole.
pub record RunJudged (tr : Trace) : Type 0 where
  pub one : (i t : ℕ) → t < tr.ticks → (f : ℕ → Sample) → state_under tr i f t ≡ run_state tr i t
  pub alerts : (i t : ℕ) → i < 16 → t < tr.ticks → alert_at tr i t ≡ cond (alert (run_state tr i t)) 1 0
  pub statuses : (i t : ℕ) → i < 16 → t < tr.ticks → status_at tr i t ≡ cond (run_active tr i t) 1 0
  pub possible : (i : ℕ) → i < 16 → First tr.ticks (λ t. T (run_active tr i t)) (possible_from tr i)
  pub held : (i : ℕ) → i < 16 → First tr.ticks (λ t. T (run_active tr i t)) (held_from tr i)
  pub charge : (t : ℕ) → t < tr.ticks → byte_at tr t 160 ≡ number_of (run_output tr ChargeOpen t)
  pub discharge : (t : ℕ) → t < tr.ticks → byte_at tr t 161 ≡ number_of (run_output tr DischargeOpen t)
  pub fuse : (t : ℕ) → t < tr.ticks → byte_at tr t 162 ≡ number_of (run_output tr Fuse t)
  pub verdicts : trace_verdicts tr ≡ map (run_verdict tr) tr.replies
  pub ticks : tr.ticks ≡ length tr.samples

-- What is promised of the totals, holes or not: they are sums over the records.
pub record TotalsJudged (tr : Trace) : Type 0 where
  pub long : length (trace_report tr) ≡ 187
  pub charge_in : u64_at (trace_report tr) 163 ≡ over_samples inward tr.samples
  pub charge_out : u64_at (trace_report tr) 171 ≡ over_samples outward tr.samples
  pub unseen : u32_at (trace_report tr) 179 ≡ over_holes tr.holes
  pub covered : u32_at (trace_report tr) 183 ≡ tr.ticks
  -- the ticks are the samples and the ticks of the holes
  pub ticks : tr.ticks ≡ length tr.samples + over_holes tr.holes

-- Demand 2: of all bytes that are accepted.
abbrev pub Demand2 : Type 0
Demand2 = (s : List ℕ) (w : Parsed) → accept_answer s ≡ answer w
    → TotalsJudged (trace_of s w) × ((trace_of s w).holes ≡ [] → RunJudged (trace_of s w))
