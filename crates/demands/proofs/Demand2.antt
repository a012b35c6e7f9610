-- Demand 2 of every accepted trace.
use Prim.Native.Nat.{ℕ, zero, suc, ◌<◌}
use native.Mathlib.Omega.{arith}
use mathlib.Core.Path.{◌≡◌, refl, sym, ap, ap₂, ◌∙◌, subst}
use mathlib.Core.Bool.{Bool, true, false, not, cond, ◌||◌}
use mathlib.Core.List.{List, [], ◌∷◌, map}
use lib.Dec.{T, ltb, leb}
use borrow.Author.Tests.{leb-false}
use Rattle.lists.specs.Lists.{tabulate}
use Rattle.lists.proofs.Bools.{both_false}
use Rattle.refusals.specs.Refusals.{answer}
use Rattle.rules.specs.declared.Row.{Row}
use Rattle.rules.specs.Table.{rows}
use Rattle.rules.specs.Evaluation.{alert}
use Rattle.flags.specs.declared.Flag.{Flag}
use Rattle.flags.specs.declared.Flag.TheVariants.{Clear, Held}
use Rattle.flags.specs.declared.Output.{Output}
use Rattle.flags.specs.declared.Output.TheVariants.{ChargeOpen, DischargeOpen, Fuse, TerminateChargeAlarm, OverTempAlarm, TerminateDischargeAlarm}
use Rattle.flags.specs.Flags.{number_of, with_next}
use Rattle.flags.specs.Outputs.{drivers, output_of, active_of}
use Rattle.verdicts.specs.declared.Alarms.{Alarms}
use Rattle.verdicts.specs.Verdicts.{verdict_of}
use Rattle.trace.specs.Records.{Reply}
use Rattle.trace.specs.Sections.{samples_part}
use Rattle.trace.specs.Coverage.{replies_answer}
use Rattle.refusals.proofs.Answers.{unless}
use Rattle.fillings.specs.Flags.{status_flag}
use Rattle.fillings.proofs.Witness.{blank, blank_carried}
use Rattle.ticks.specs.Traces.{Trace, trace_of, shown, Accepted}
use Rattle.ticks.proofs.AcceptedBytes.{accepted}
use Rattle.ticks.proofs.CoveredOnce.{ticks_counted, covered_once}
use Rattle.demands.specs.Verdicts.{tick_of, verdict_on, trace_verdicts}
use Rattle.demands.specs.Reading.{rule_in, Fills, UnderEvery, UnderSome}
use Rattle.demands.specs.promises.Demand3.{output_at}
use Rattle.demands.specs.promises.Demand2.{run_state, run_active, run_output, run_verdict, RunJudged, TotalsJudged, Demand2}
use Rattle.demands.proofs.ReportReads.{report_long, report_in, report_out, report_unseen, report_ticks}
use Rattle.demands.proofs.TotalBounds.{Currents, currents, ticks_fit, unseen_fit, in_fits, out_fits}
use Rattle.demands.proofs.FillingsOfTrace.{rule_known, always}
use Rattle.demands.proofs.CutReads.{tabulate_same, charge_at_lem, discharge_at, fuse_at}
use Rattle.demands.proofs.Demand3.{first_alike, active_of_lem, rule_judged}
use Rattle.demands.proofs.OneRun.{ticks_are, one_run}

-- The totals, holes or not.
totals_judged : (tr : Trace) → Accepted tr → Currents tr.samples → TotalsJudged tr
totals_judged tr ok c =
    let once = covered_once tr ok in
    let m = ticks_fit tr ok in
    record {
      long = report_long tr;
      charge_in = report_in tr (in_fits tr ok c) ∙ once.charged_in;
      charge_out = report_out tr (out_fits tr ok c) ∙ once.charged_out;
      unseen = report_unseen tr (unseen_fit tr ok) ∙ once.unseen;
      covered = report_ticks tr (omega arith);
      ticks = ticks_counted tr ok;
    }

-- A flag that is not unknown.
abbrev sure_flag : Bool → Flag
sure_flag b = cond b Held Clear

-- An output is not unknown where none of its drivers is.
with_sure : (d a b : Bool) (o : Flag) → o ≡ sure_flag b → cond d (with_next (sure_flag a) o) o ≡ sure_flag (cond d (a || b) b)
with_sure true true b o e = refl
with_sure true false b o e = e
with_sure false a b o e = e

output_sure : (drives : Row → Bool) (rs : List Row) (n : ℕ) (b : ℕ → Bool) → output_of drives rs (tabulate n (λ i. sure_flag (b i))) ≡ sure_flag (active_of drives rs (tabulate n b))
unfolding output_of active_of
output_sure drives [] n b = refl
output_sure drives (row ∷ rs) zero b = refl
output_sure drives (row ∷ rs) (suc n) b = with_sure (drives row) (b 0) _ _ (output_sure drives rs n (λ i. b (suc i)))

-- What is x where a test holds and y where it does not.
by_test : {A : Type 0} (b : Bool) (n x y : A) → (T b → n ≡ x) → (T (not b) → n ≡ y) → n ≡ cond b x y
by_test true n x y f g = f tt
by_test false n x y f g = g tt

abbrev alarms : Flag → Flag → Flag → Alarms
alarms a b c = record { terminate_charge = a; over_temp = b; terminate_discharge = c }

same_alarms : {a a' b b' c c' : Flag} → a ≡ a' → b ≡ b' → c ≡ c' → alarms a b c ≡ alarms a' b' c'
same_alarms d e f = rw (d, e, f)

-- With no hole what is so of the run is so under every filling, and under some.
module _ (tr : Trace) (ok : Accepted tr) (none : tr.holes ≡ []) where
  a_filling : Fills tr (λ t. blank tr.config.cells)
  a_filling t h = blank_carried tr.config.cells

  run_every : (i t : ℕ) → t < tr.ticks → (test : ℕ → Bool) → T (test (run_state tr i t)) → UnderEvery tr i t test
  run_every i t l test h f fills = subst (λ s. T (test s)) (sym (one_run tr ok none i t l f)) h

  every_run : (i t : ℕ) → t < tr.ticks → (test : ℕ → Bool) → UnderEvery tr i t test → T (test (run_state tr i t))
  every_run i t l test all = subst (λ s. T (test s)) (one_run tr ok none i t l _) (all (λ u. blank tr.config.cells) a_filling)

  run_some : (i t : ℕ) → t < tr.ticks → (test : ℕ → Bool) → T (test (run_state tr i t)) → UnderSome tr i t test
  run_some i t l test h = ((λ u. blank tr.config.cells), a_filling, run_every i t l test h _ a_filling)

  some_run : (i t : ℕ) → t < tr.ticks → (test : ℕ → Bool) → UnderSome tr i t test → T (test (run_state tr i t))
  some_run i t l test (f, fills, h) = subst (λ s. T (test s)) (one_run tr ok none i t l f) h

  status_sure : (i t : ℕ) → i < 16 → t < tr.ticks → status_flag (rule_in tr i) (shown tr) (suc t) ≡ sure_flag (run_active tr i t)
  status_sure i t h l =
      let j = rule_known tr ok i h in
      by_test (run_active tr i t) _ Held Clear
      (λ u. (j.status_held (suc t)).1 (always tr ok i t (active_of_lem tr i) (run_every i t l (active_of_lem tr i) u)))
      (λ u. (j.status_clear (suc t)).1 (always tr ok i t (λ s. not (active_of_lem tr i s)) (run_every i t l (λ s. not (active_of_lem tr i s)) u)))

  output_run : (o : Output) (t : ℕ) → t < tr.ticks → output_at tr o t ≡ run_output tr o t
  output_run o t l =
      ap (output_of (drivers o) rows) (tabulate_same 16 _ _ (λ i h. status_sure i t h l)) ∙ output_sure (drivers o) rows 16 (λ i. run_active tr i t)

  verdict_run : (r : Reply) → r.tick < tr.ticks → verdict_on tr.config (shown tr) r ≡ run_verdict tr r
  verdict_run r l =
      ap (λ (a : Alarms). verdict_of (tick_of (shown tr r.tick)) a r.bytes)
      (same_alarms (output_run TerminateChargeAlarm r.tick l) (output_run OverTempAlarm r.tick l) (output_run TerminateDischargeAlarm r.tick l))

  verdicts_run : (rs : List Reply) (i low : ℕ) → replies_answer tr.ticks rs i low ≡ answer tt → map (verdict_on tr.config (shown tr)) rs ≡ map (run_verdict tr) rs
  unfolding replies_answer
  verdicts_run [] i low e = refl
  verdicts_run (r ∷ rs) i low e =
      let p = unless (ltb r.tick low || leb tr.ticks r.tick) 10 i _ e in
      let l = leb-false tr.ticks r.tick (both_false (ltb r.tick low) _ p.0).1 in
      ap₂ (λ v vs. v ∷ vs) (verdict_run r (omega arith)) (verdicts_run rs (suc i) r.tick p.1)

  verdicts_all : trace_verdicts tr ≡ map (run_verdict tr) tr.replies
  unfolding trace_verdicts
  verdicts_all = verdicts_run tr.replies 0 0 ok.replies

  run_judged : RunJudged tr
  run_judged =
      record {
        one = one_run tr ok none;
        alerts = λ i t h l. by_test (alert (run_state tr i t)) _ 1 0
            (λ u. ((rule_judged tr ok i h).alert_held t l).1 (run_every i t l alert u))
            (λ u. ((rule_judged tr ok i h).alert_clear t l).1 (run_every i t l (λ s. not (alert s)) u));
        statuses = λ i t h l. by_test (run_active tr i t) _ 1 0
            (λ u. ((rule_judged tr ok i h).status_held t l).1 (run_every i t l (active_of_lem tr i) u))
            (λ u. ((rule_judged tr ok i h).status_clear t l).1 (run_every i t l (λ s. not (active_of_lem tr i s)) u));
        possible = λ i h. first_alike _ _ (λ t l. some_run i t l (active_of_lem tr i)) (λ t l. run_some i t l (active_of_lem tr i)) (rule_judged tr ok i h).first_some;
        held = λ i h. first_alike _ _ (λ t l. every_run i t l (active_of_lem tr i)) (λ t l. run_every i t l (active_of_lem tr i)) (rule_judged tr ok i h).first_all;
        charge = λ t l. charge_at_lem tr ok t ∙ ap number_of (output_run ChargeOpen t l);
        discharge = λ t l. discharge_at tr ok t ∙ ap number_of (output_run DischargeOpen t l);
        fuse = λ t l. fuse_at tr ok t ∙ ap number_of (output_run Fuse t l);
        verdicts = verdicts_all;
        ticks = ticks_are tr ok none;
      }

pub demand2 : Demand2
demand2 s w h =
    let ok = accepted s w h in
    (totals_judged (trace_of s w) ok (currents w.layout.cells (samples_part s w.layout) _ 0), run_judged (trace_of s w) ok)
