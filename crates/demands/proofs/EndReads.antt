-- What the report of a trace says at its end.
use Prim.Native.Nat.{ℕ, zero, suc, ◌<◌}
use mathlib.Core.Path.{◌≡◌, refl, ap, ◌∙◌}
use mathlib.Core.Bool.{Bool, true, false, not, cond}
use mathlib.Core.List.{List, [], ◌∷◌}
use native.Mathlib.Omega.{arith}
use lib.Dec.{T}
use borrow.Author.Tests.{lt-ltb, ne_eqb}
use Rattle.lists.specs.Lists.{tabulate}
use Rattle.rules.specs.declared.Row.{Row}
use Rattle.rules.specs.Table.{rows}
use Rattle.rules.specs.Evaluation.{status}
use Rattle.flags.specs.declared.Flag.{Flag}
use Rattle.flags.specs.declared.Flag.TheVariants.{Clear}
use Rattle.flags.specs.declared.Output.{Output}
use Rattle.flags.specs.declared.Output.TheVariants.{ChargeOpen, DischargeOpen, Fuse}
use Rattle.flags.specs.Flags.{with_next}
use Rattle.flags.specs.Outputs.{drivers, output_of}
use Rattle.fillings.specs.Fillings.{last, after}
use Rattle.fillings.specs.Flags.{alert_flag, status_flag}
use Rattle.fillings.specs.Outputs.{output}
use Rattle.ticks.specs.Traces.{Trace, shown, Accepted}
use Rattle.ticks.proofs.Cuts.{cut_holds}
use Rattle.demands.specs.Reading.{rule_in}
use Rattle.demands.specs.promises.Demand3.{EndJudged}
use Rattle.demands.proofs.ReportReads.{report_alert, report_status, report_charge, report_discharge, report_fuse}
use Rattle.demands.proofs.FillingsOfTrace.{rule_known}
use Rattle.demands.proofs.CutReads.{tabulate_same}

-- In state 0 no status is active.
inactive : (m : ℕ) → T (not (status m 0))
inactive zero = tt
inactive (suc m) = rw (lt-ltb 0 (suc m) (omega arith), ne_eqb 0 (suc m) (λ z. omega arith)) tt

-- An output is clear where all its drivers are.
with_clear : (d : Bool) (o : Flag) → o ≡ Clear → cond d (with_next Clear o) o ≡ Clear
with_clear true o e = e
with_clear false o e = e

all_clear : (drives : Row → Bool) (rs : List Row) (n : ℕ) → output_of drives rs (tabulate n (λ i. Clear)) ≡ Clear
unfolding output_of
all_clear drives [] n = refl
all_clear drives (row ∷ rs) zero = refl
all_clear drives (row ∷ rs) (suc n) = with_clear (drives row) _ (all_clear drives rs n)

module _ (tr : Trace) (ok : Accepted tr) where
  alert_start : (i : ℕ) → i < 16 → alert_flag (rule_in tr i) (shown tr) 0 ≡ Clear
  unfolding after
  alert_start i h = ((rule_known tr ok i h).alert_clear 0).1 (λ f fills. tt)

  status_start : (i : ℕ) → i < 16 → status_flag (rule_in tr i) (shown tr) 0 ≡ Clear
  unfolding after
  status_start i h = ((rule_known tr ok i h).status_clear 0).1 (λ f fills. inactive (last (rule_in tr i)))

  output_start : (o : Output) → output (drivers o) tr.config (shown tr) 0 ≡ Clear
  output_start o = ap (output_of (drivers o) rows) (tabulate_same 16 _ (λ i. Clear) status_start) ∙ all_clear (drivers o) rows 16

  pub end_judged : EndJudged tr
  end_judged =
      record {
        last_tick = (cut_holds tr ok).whole;
        rules_clear = λ z i h. (report_alert tr i h ∙ rw (z, alert_start i h), report_status tr i h ∙ rw (z, status_start i h));
        outputs_clear = λ z. (report_charge tr ∙ rw (z, output_start ChargeOpen), report_discharge tr ∙ rw (z, output_start DischargeOpen), report_fuse tr ∙ rw (z, output_start Fuse));
      }
