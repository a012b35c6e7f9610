-- The whole report.
use Prim.Native.Nat.{ℕ}
use mathlib.Core.Path.{◌≡◌, sym, ◌∙◌}
use mathlib.Core.List.{List}
use native.Mathlib.Omega.{arith}
use lib.ListN.{length}
use lib.Seq.{take_all}
use borrow.Author.Tests.{eq-eqb}
use Rattle.flags.specs.declared.RuleFlags.{RuleFlags}
use Rattle.report.specs.declared.FirstTicks.{FirstTicks}
use Rattle.report.specs.declared.Totals.{Totals}
use Rattle.report.specs.inner.Bytes.{Put}
use Rattle.report.specs.Layout.{report_bytes, reported}

-- A buffer of 187 bytes has the report.
pub report_whole : (fs : List RuleFlags) (ts : List FirstTicks) (t : Totals) (s : List ℕ) → length s ≡ 187 → reported fs ts t s ≡ report_bytes fs ts t
unfolding reported
report_whole fs ts t s h = rw (eq-eqb (length s) 187 h)

pub report_written : (fs : List RuleFlags) (ts : List FirstTicks) (t : Totals) (s u : List ℕ) → length s ≡ 187 → Put s u 0 187 (report_bytes fs ts t)
    → u ≡ reported fs ts t s
report_written fs ts t s u h p =
    let l : length u ≡ length s = p.long in
    let e : u ≡ report_bytes fs ts t = sym (take_all 187 u (omega arith)) ∙ p.holds in
    e ∙ sym (report_whole fs ts t s h)

-- Totals of the same counts are the same.
pub totals_same : {i j o p u v s t : ℕ} → i ≡ j → o ≡ p → u ≡ v → s ≡ t
    → ◌≡◌ {A = Totals} (record { charge_in = i; charge_out = o; unseen = u; ticks = s }) (record { charge_in = j; charge_out = p; unseen = v; ticks = t })
totals_same e f g h = rw (e, f, g, h)
