-- What the report of the trace cut at a tick reads is what the trace has at that tick.
use Prim.Native.Nat.{ℕ, zero, suc, ◌<◌}
use native.Mathlib.Omega.{arith}
use mathlib.Core.Path.{◌≡◌, refl, ap, ap₂, ◌∙◌}
use mathlib.Core.List.{◌∷◌}
use Rattle.lists.specs.Lists.{tabulate}
use Rattle.rules.specs.Table.{rows}
use Rattle.rules.specs.Evaluation.{alert, status}
use Rattle.flags.specs.declared.Output.{Output}
use Rattle.flags.specs.declared.Output.TheVariants.{ChargeOpen, DischargeOpen, Fuse}
use Rattle.flags.specs.Flags.{number_of}
use Rattle.flags.specs.Outputs.{drivers, output_of}
use Rattle.fillings.specs.Fillings.{Rule, last}
use Rattle.fillings.specs.PossibleStates.{possible}
use Rattle.fillings.specs.Flags.{flag, alert_flag, status_flag}
use Rattle.fillings.proofs.Local.{possible_local}
use Rattle.ticks.specs.Traces.{Trace, shown, Accepted}
use Rattle.ticks.specs.Cut.{cut_at}
use Rattle.ticks.proofs.Cuts.{cut_holds}
use Rattle.demands.specs.Reading.{byte_at, alert_at, status_at, rule_in}
use Rattle.demands.specs.promises.Demand3.{output_at}
use Rattle.demands.proofs.ReportReads.{report_alert, report_status, report_charge, report_discharge, report_fuse}

pub tabulate_same : {A : Type 0} (n : ℕ) (f g : ℕ → A) → ((i : ℕ) → i < n → f i ≡ g i) → tabulate n f ≡ tabulate n g
tabulate_same zero f g h = refl
tabulate_same (suc n) f g h =
    ap₂ (λ x l. x ∷ l) (h 0 (omega arith)) (tabulate_same n (λ i. f (suc i)) (λ i. g (suc i)) (λ i l. h (suc i) (omega arith)))

module _ (tr : Trace) (ok : Accepted tr) (t : ℕ) where
  cut_possible : (r : Rule) → possible r (shown (cut_at tr t)) (suc t) ≡ possible r (shown tr) (suc t)
  cut_possible r = possible_local r (shown (cut_at tr t)) (shown tr) (suc t) (λ u l. (cut_holds tr ok).same t u (omega arith))

  pub alert_at_lem : (i : ℕ) → i < 16 → alert_at tr i t ≡ number_of (alert_flag (rule_in tr i) (shown tr) (suc t))
  alert_at_lem i h =
      report_alert (cut_at tr t) i h ∙ ap (λ p. number_of (flag (last (rule_in tr i)) alert p)) (cut_possible (rule_in tr i))

  pub status_at_lem : (i : ℕ) → i < 16 → status_at tr i t ≡ number_of (status_flag (rule_in tr i) (shown tr) (suc t))
  status_at_lem i h =
      report_status (cut_at tr t) i h ∙ ap (λ p. number_of (flag (last (rule_in tr i)) (status (last (rule_in tr i))) p)) (cut_possible (rule_in tr i))

  cut_output : (o : Output) → output_at (cut_at tr t) o t ≡ output_at tr o t
  cut_output o =
      ap (output_of (drivers o) rows)
      (tabulate_same 16 _ _ (λ i l. ap (flag (last (rule_in tr i)) (status (last (rule_in tr i)))) (cut_possible (rule_in tr i))))

  pub charge_at_lem : byte_at tr t 160 ≡ number_of (output_at tr ChargeOpen t)
  charge_at_lem = report_charge (cut_at tr t) ∙ ap number_of (cut_output ChargeOpen)

  pub discharge_at : byte_at tr t 161 ≡ number_of (output_at tr DischargeOpen t)
  discharge_at = report_discharge (cut_at tr t) ∙ ap number_of (cut_output DischargeOpen)

  pub fuse_at : byte_at tr t 162 ≡ number_of (output_at tr Fuse t)
  fuse_at = report_fuse (cut_at tr t) ∙ ap number_of (cut_output Fuse)
