-- Paper 01, 'Three-way outputs': the report of a trace.
use Rattle.std.specs.Prelude.{ℕ, List}
use Rattle.lists.specs.Lists.{tabulate}
use Rattle.report.specs.declared.FirstTicks.{FirstTicks}
use Rattle.report.specs.declared.Totals.{Totals}
use Rattle.report.specs.Layout.{report_bytes}
use Rattle.fillings.specs.Fillings.{Shown, Config, rule_of}
use Rattle.fillings.specs.Flags.{flags_at, first_possible, first_held}
use Rattle.fillings.specs.Charge.{charge_in, charge_out, unseen_ticks}
use Rattle.ticks.specs.Traces.{Trace, shown}

-- The first ticks of all rules among the first k.
abbrev pub firsts_at : Config → (ℕ → Shown) → ℕ → List FirstTicks
firsts_at p trace k =
    tabulate 16 (λ i. record { possible = first_possible (rule_of p i) trace k; held = first_held (rule_of p i) trace k })

-- The totals of the first k ticks.
abbrev pub totals_at : (ℕ → Shown) → ℕ → Totals
totals_at trace k =
    record { charge_in = charge_in trace k; charge_out = charge_out trace k; unseen = unseen_ticks trace k; ticks = k }

-- The report of a trace: flags, first ticks and totals at its end.
unfoldable pub trace_report : Trace → List ℕ
trace_report tr =
    report_bytes (flags_at tr.config (shown tr) tr.ticks) (firsts_at tr.config (shown tr) tr.ticks) (totals_at (shown tr) tr.ticks)
