-- Demand 3 of every accepted trace.
use Prim.Native.Nat.{ℕ, suc, ◌≤◌, ◌<◌}
use native.Mathlib.Omega.{arith}
use mathlib.Core.Path.{◌≡◌, refl, sym, ap, ◌∙◌, subst}
use mathlib.Core.Logic.{◌↔◌, inl, inr}
use mathlib.Core.Bool.{Bool, not}
use mathlib.Core.List.{map}
use lib.Signed.{le_z}
use lib.Dec.{T}
use Rattle.rules.specs.Samples.{Sample}
use Rattle.rules.specs.Table.{rows, row_at}
use Rattle.rules.specs.Evaluation.{alert, status}
use Rattle.flags.specs.declared.Flag.{Flag}
use Rattle.flags.specs.declared.Flag.TheVariants.{Clear, Held, Unknown}
use Rattle.flags.specs.declared.Output.{Output}
use Rattle.flags.specs.Flags.{number_of}
use Rattle.flags.specs.Outputs.{drivers, active_of}
use Rattle.flags.proofs.OutputLaws.{held_by_one_lem, clear_by_all_lem}
use Rattle.fillings.specs.Fillings.{last}
use Rattle.fillings.specs.Flags.{status_flag}
use Rattle.fillings.specs.Outputs.{statuses}
use Rattle.fillings.specs.promises.Demand3.{First, OutputSound}
use Rattle.fillings.proofs.Outputs.{output_sound}
use Rattle.fillings.proofs.Charge.{charge_bounded}
use Rattle.ticks.specs.Traces.{Trace, trace_of, shown, in_hole, Accepted}
use Rattle.ticks.proofs.AcceptedBytes.{accepted}
use Rattle.demands.specs.Verdicts.{trace_verdicts}
use Rattle.demands.specs.Reading.{status_at, rule_in, Fills, state_under, SureAt}
use Rattle.demands.specs.promises.Demand3.{RuleJudged, output_at, active_under, verdict_at, OutputsJudged, least_net, greatest_net, ChargeJudged, TraceJudged, Demand3}
use Rattle.demands.proofs.ReportReads.{report_possible, report_held}
use Rattle.demands.proofs.TotalBounds.{ticks_fit}
use Rattle.demands.proofs.FillingsOfTrace.{rule_known, within, within_fills, within_alike, filling_fills, after_within, net_within, every, always, some, sometimes, sure_at, sure}
use Rattle.demands.proofs.EndReads.{end_judged}
use Rattle.demands.proofs.Drivers.{some_driver, every_driver}
use Rattle.demands.proofs.CutReads.{tabulate_same, alert_at_lem, status_at_lem, charge_at_lem, discharge_at, fuse_at}

-- The number of a flag tells the flag.
number_clear : (f : Flag) → number_of f ≡ 0 → f ≡ Clear
number_clear Clear e = refl
number_clear Held e = absurd (omega arith)
number_clear Unknown e = absurd (omega arith)

number_held : (f : Flag) → number_of f ≡ 1 → f ≡ Held
number_held Clear e = absurd (omega arith)
number_held Held e = refl
number_held Unknown e = absurd (omega arith)

number_unknown : (f : Flag) → number_of f ≡ 2 → f ≡ Unknown
number_unknown Clear e = absurd (omega arith)
number_unknown Held e = absurd (omega arith)
number_unknown Unknown e = refl

-- What a number that reads a flag says, from what the flag says.
reads_clear : {X Y : Type 0} {n : ℕ} (f : Flag) → n ≡ number_of f → (f ≡ Clear) ↔ X → (X → Y) → (Y → X) → (n ≡ 0) ↔ Y
reads_clear f e (k, l) to from = ((λ z. to (k (number_clear f (sym e ∙ z)))), λ y. e ∙ ap number_of (l (from y)))

reads_held : {X Y : Type 0} {n : ℕ} (f : Flag) → n ≡ number_of f → (f ≡ Held) ↔ X → (X → Y) → (Y → X) → (n ≡ 1) ↔ Y
reads_held f e (k, l) to from = ((λ z. to (k (number_held f (sym e ∙ z)))), λ y. e ∙ ap number_of (l (from y)))

reads_unknown : {X Y : Type 0} {n : ℕ} (f : Flag) → n ≡ number_of f → (f ≡ Unknown) ↔ X → (X → Y) → (Y → X) → (n ≡ 2) ↔ Y
reads_unknown f e (k, l) to from = ((λ z. to (k (number_unknown f (sym e ∙ z)))), λ y. e ∙ ap number_of (l (from y)))

-- The first of n ticks with a property is the first with one that says the same of them.
pub first_alike : {n v : ℕ} (P Q : ℕ → Type 0) → ((t : ℕ) → t < n → P t → Q t) → ((t : ℕ) → t < n → Q t → P t) → First n P v → First n Q v
first_alike {n} {v} P Q to from (inl (l, p, none)) = inl (l, to v l p, λ u h q. none u h (from u (omega arith) q))
first_alike {n} {v} P Q to from (inr (e, none)) = inr (e, λ u h q. none u h (from u h q))

-- Whether a state of rule i is active.
abbrev pub active_of_lem : Trace → ℕ → ℕ → Bool
active_of_lem tr i = status (last (rule_in tr i))

module _ (tr : Trace) (ok : Accepted tr) where
  -- Fillings that are alike after a sure tick agree from there on.
  onwards : (i : ℕ) → i < 16 → (t : ℕ) → SureAt tr i t → (f g : ℕ → Sample) → Fills tr f → Fills tr g
      → ((u : ℕ) → t < u → T (in_hole tr.holes u) → f u ≡ g u) → (u : ℕ) → t ≤ u → u < tr.ticks → state_under tr i f u ≡ state_under tr i g u
  onwards i h t same f g hf hg alike u low l =
      let (e, a, s) = (rule_known tr ok i h).sure_onwards t (sure tr ok i t same) (within tr f) (within tr g) (within_fills tr f hf) (within_fills tr g hg) (λ v k z. within_alike tr f g v (alike v k)) u low in
      after_within tr ok (rule_in tr i) f (suc u) l ∙ e ∙ sym (after_within tr ok (rule_in tr i) g (suc u) l)

  pub rule_judged : (i : ℕ) → i < 16 → RuleJudged tr i
  rule_judged i h =
      let j = rule_known tr ok i h in
      let m = ticks_fit tr ok in
      record {
        alert_held = λ t l. reads_held _ (alert_at_lem tr ok t i h) (j.alert_held (suc t)) (every tr ok i t alert l) (always tr ok i t alert);
        alert_clear = λ t l. reads_clear _ (alert_at_lem tr ok t i h) (j.alert_clear (suc t)) (every tr ok i t (λ s. not (alert s)) l) (always tr ok i t (λ s. not (alert s)));
        alert_unknown = λ t l. reads_unknown _ (alert_at_lem tr ok t i h) (j.alert_unknown (suc t))
            (λ w. (some tr ok i t alert w.0, some tr ok i t (λ s. not (alert s)) w.1))
            (λ w. (sometimes tr ok i t alert l w.0, sometimes tr ok i t (λ s. not (alert s)) l w.1));
        status_held = λ t l. reads_held _ (status_at_lem tr ok t i h) (j.status_held (suc t)) (every tr ok i t (active_of_lem tr i) l) (always tr ok i t (active_of_lem tr i));
        status_clear = λ t l. reads_clear _ (status_at_lem tr ok t i h) (j.status_clear (suc t)) (every tr ok i t (λ s. not (active_of_lem tr i s)) l) (always tr ok i t (λ s. not (active_of_lem tr i s)));
        status_unknown = λ t l. reads_unknown _ (status_at_lem tr ok t i h) (j.status_unknown (suc t))
            (λ w. (some tr ok i t (active_of_lem tr i) w.0, some tr ok i t (λ s. not (active_of_lem tr i s)) w.1))
            (λ w. (sometimes tr ok i t (active_of_lem tr i) l w.0, sometimes tr ok i t (λ s. not (active_of_lem tr i s)) l w.1));
        first_some = rw (report_possible tr i h m) (first_alike _ _ (λ t l. some tr ok i t (active_of_lem tr i)) (λ t l. sometimes tr ok i t (active_of_lem tr i) l) j.first_some);
        first_all = rw (report_held tr i h m) (first_alike _ _ (λ t l. every tr ok i t (active_of_lem tr i) l) (λ t l. always tr ok i t (active_of_lem tr i)) j.first_all);
        sure_recovered = λ t x l e s c. sure_at tr ok i t l (j.sure_recovered t x e s c);
        sure_counted = λ a t l run enough. sure_at tr ok i t l (j.sure_counted a t run enough);
        sure_onwards = λ t same f g hf hg alike u low l.
            let e = onwards i h t same f g hf hg alike u low l in
            (e, ap alert e, ap (active_of_lem tr i) e);
      }

  -- An output under a filling is what it is under the filling inside the holes.
  active_within : (o : Output) (f : ℕ → Sample) (t : ℕ) → t < tr.ticks → active_under tr o (within tr f) t ≡ active_under tr o f t
  active_within o f t l =
      ap (active_of (drivers o) rows)
      (tabulate_same 16 _ _ (λ i h. ap (active_of_lem tr i) (sym (after_within tr ok (rule_in tr i) f (suc t) l))))

  output_known : (o : Output) → OutputSound (drivers o) tr.config (shown tr)
  output_known o = output_sound (drivers o) tr.config ok.rules (shown tr)

  held_by_number : (o : Output) (t : ℕ) → (output_at tr o t ≡ Held) ↔ ((i : ℕ) × (i < 16) × T (drivers o (row_at i)) × (status_at tr i t ≡ 1))
  held_by_number o t =
      let (a, b) = held_by_one_lem (drivers o) rows (statuses tr.config (shown tr) (suc t)) in
      let (c, d) = some_driver (drivers o) (λ f. f ≡ Held) _ rows 16 (λ i. status_flag (rule_in tr i) (shown tr) (suc t)) (omega arith) in (
        λ e. let (i, l, u, h) = c (a e) in (i, l, u, status_at_lem tr ok t i l ∙ ap number_of h),
        λ (i, l, u, h). b (d (i, l, u, number_held _ (sym (status_at_lem tr ok t i l) ∙ h))),
      )

  clear_by_number : (o : Output) (t : ℕ) → (output_at tr o t ≡ Clear) ↔ ((i : ℕ) → i < 16 → T (drivers o (row_at i)) → status_at tr i t ≡ 0)
  clear_by_number o t =
      let (a, b) = clear_by_all_lem (drivers o) rows (statuses tr.config (shown tr) (suc t)) in
      let (c, d) = every_driver (drivers o) (λ f. f ≡ Clear) _ rows 16 (λ i. status_flag (rule_in tr i) (shown tr) (suc t)) (omega arith) in (
        λ e i l u. status_at_lem tr ok t i l ∙ ap number_of (c (a e) i l u),
        λ all. b (d (λ i l u. number_clear _ (sym (status_at_lem tr ok t i l) ∙ all i l u))),
      )

  verdicts_judged : trace_verdicts tr ≡ map (verdict_at tr) tr.replies
  unfolding trace_verdicts
  verdicts_judged = refl

  pub outputs_judged : OutputsJudged tr
  outputs_judged =
      record {
        when_held = λ o t l e f fills. subst T (active_within o f t l) ((output_known o).when_held (suc t) (within tr f) (within_fills tr f fills) e);
        when_clear = λ o t l e f fills. subst (λ b. T (not b)) (active_within o f t l) ((output_known o).when_clear (suc t) (within tr f) (within_fills tr f fills) e);
        held_by_one = λ o t l. held_by_number o t;
        clear_by_all = λ o t l. clear_by_number o t;
        charge = λ t l. charge_at_lem tr ok t;
        discharge = λ t l. discharge_at tr ok t;
        fuse = λ t l. fuse_at tr ok t;
        verdicts = verdicts_judged;
      }

  pub charge_judged : ChargeJudged tr
  charge_judged =
      let c = charge_bounded tr.config.cells (shown tr) tr.ticks in
      let (f, hf, ef) = c.reached_least in
      let (g, hg, eg) = c.reached_greatest in
      record {
        above = λ k fills. subst (λ z. T (le_z (least_net tr) z)) (sym (net_within tr ok k)) (c.above (within tr k) (within_fills tr k fills));
        below = λ k fills. subst (λ z. T (le_z z (greatest_net tr))) (sym (net_within tr ok k)) (c.below (within tr k) (within_fills tr k fills));
        reached_least = (f, filling_fills tr ok f hf, ef);
        reached_greatest = (g, filling_fills tr ok g hg, eg);
      }

  pub trace_judged : TraceJudged tr
  trace_judged = record { rules = rule_judged; outputs = outputs_judged; charge = charge_judged; end = end_judged tr ok }

pub demand3 : Demand3
demand3 s w h = trace_judged (trace_of s w) (accepted s w h)
