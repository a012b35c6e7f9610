-- Paper 01, 'Three-way outputs': the report of 187 bytes.
use Rattle.std.specs.Prelude.{ℕ, cond, List, [], ◌∷◌, ◌++◌, eqb, length}
use Rattle.refusals.specs.Refusals.{Answer, answer, refused}
use Rattle.bytes_le.specs.Writing.{bytes_of}
use Rattle.rules.specs.Table.{rows}
use Rattle.flags.specs.declared.RuleFlags.{RuleFlags}
use Rattle.flags.specs.declared.Output.{Output}
use Rattle.flags.specs.declared.Output.TheVariants.{ChargeOpen, DischargeOpen, Fuse}
use Rattle.flags.specs.Flags.{number_of}
use Rattle.flags.specs.Outputs.{output_of, drivers, statuses_of}
use Rattle.report.specs.declared.FirstTicks.{FirstTicks}
use Rattle.report.specs.declared.Totals.{Totals}

-- Per rule: alert, status, the first tick at which status is held or unknown, the first tick at which it is held.
abbrev pub rule_bytes : RuleFlags → FirstTicks → List ℕ
rule_bytes f t = number_of f.alert ∷ number_of f.status ∷ (bytes_of 4 t.possible ++ bytes_of 4 t.held)

-- All rules, in order.
unfoldable pub rules_bytes : List RuleFlags → List FirstTicks → List ℕ
rules_bytes [] ts = []
rules_bytes (f ∷ fs) [] = []
rules_bytes (f ∷ fs) (t ∷ ts) = rule_bytes f t ++ rules_bytes fs ts

-- The number of an output.
abbrev pub output_number : List RuleFlags → Output → ℕ
output_number fs o = number_of (output_of (drivers o) rows (statuses_of fs))

-- C, D, fuse.
abbrev pub output_bytes : List RuleFlags → List ℕ
output_bytes fs = output_number fs ChargeOpen ∷ output_number fs DischargeOpen ∷ output_number fs Fuse ∷ []

-- In u64, out u64, unseen u32, ticks u32.
abbrev pub total_bytes : Totals → List ℕ
total_bytes t = bytes_of 8 t.charge_in ++ bytes_of 8 t.charge_out ++ bytes_of 4 t.unseen ++ bytes_of 4 t.ticks

-- The whole report.
abbrev pub report_bytes : List RuleFlags → List FirstTicks → Totals → List ℕ
report_bytes fs ts t = rules_bytes fs ts ++ output_bytes fs ++ total_bytes t

-- Refusal 12 for a buffer that is not 187 bytes long.
abbrev pub report_answer : List ℕ → Answer (Unit {0})
report_answer buffer = cond (eqb (length buffer) 187) (answer tt) (refused 12 0)

-- The buffer afterwards: the report, or what it held where the call refuses.
unfoldable pub reported : List RuleFlags → List FirstTicks → Totals → List ℕ → List ℕ
reported fs ts t buffer = cond (eqb (length buffer) 187) (report_bytes fs ts t) buffer
