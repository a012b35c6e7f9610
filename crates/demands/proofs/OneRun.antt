-- With no hole the ticks are those of the samples, one each, and every filling gives the run over them.
use Prim.Native.Nat.{ℕ, zero, suc, ◌+◌, ◌≤◌, ◌<◌}
use native.Mathlib.Omega.{arith}
use native.Mathlib.Nat.{zero-add, add-zero}
use mathlib.Core.Path.{◌≡◌, refl, sym, ap, ◌∙◌, subst}
use mathlib.Core.Bool.{cond}
use mathlib.Core.List.{List, [], ◌∷◌}
use lib.ListN.{length, take}
use Rattle.rules.specs.Samples.{Sample}
use Rattle.rules.specs.Evaluation.{evaluated}
use Rattle.trace.specs.Records.{Stamped}
use Rattle.fillings.specs.Fillings.{Rule, Shown, filled, evaluate, after}
use Rattle.ticks.specs.Traces.{Trace, shown, shown_in, Accepted}
use Rattle.ticks.specs.inner.Places.{Place, done, sample}
use Rattle.ticks.specs.promises.Promises.{over_holes}
use Rattle.ticks.proofs.CoveredOnce.{ticks_counted}
use Rattle.ticks.proofs.Places.{place_start, shown_first, shown_later}
use Rattle.demands.specs.Reading.{rule_in, state_under}
use Rattle.demands.specs.promises.Demand2.{run_from, run_state}

-- The run over the next k samples takes the state under a filling k ticks on.
run_on : {m : ℕ} (r : Rule) (trace : ℕ → Shown) (f : ℕ → Sample) (k : ℕ) (xs : List Stamped) (e : ℕ) → Place m [] xs e
    → ((t : ℕ) → e ≤ t → trace t ≡ shown_in xs t) → e + k ≤ m → after r trace f (e + k) ≡ run_from r e (take k xs) (after r trace f e)
unfolding run_from after
run_on r trace f zero xs e p s l = ap (after r trace f) (add-zero e)
run_on r trace f (suc k) [] e done s l = absurd (omega arith)
run_on r trace f (suc k) (x ∷ xs) e (sample a b c p) s l =
    let n : e + suc k ≡ suc e + k = omega arith in
    let later : (t : ℕ) → suc e ≤ t → trace t ≡ shown_in xs t = λ t h. s t (omega arith) ∙ shown_later x xs t (λ z. omega arith) in
    ap (after r trace f) n
    ∙ run_on r trace f k xs (suc e) p later (omega arith)
    ∙ ap (λ w. run_from r (suc e) (take k xs) (cond (evaluated r.row e) (evaluate r (filled w (f e)) (after r trace f e)) (after r trace f e)))
    (s e (omega arith) ∙ shown_first x xs e a)

module _ (tr : Trace) (ok : Accepted tr) (none : tr.holes ≡ []) where
  start : Place tr.ticks [] tr.samples 0
  start = subst (λ hs. Place tr.ticks hs tr.samples 0) none (place_start tr ok)

  pub ticks_are : tr.ticks ≡ length tr.samples
  unfolding over_holes
  ticks_are = ticks_counted tr ok ∙ ap (λ hs. length tr.samples + over_holes hs) none ∙ add-zero (length tr.samples)

  pub one_run : (i t : ℕ) → t < tr.ticks → (f : ℕ → Sample) → state_under tr i f t ≡ run_state tr i t
  unfolding after
  one_run i t l f =
      ap (after (rule_in tr i) (shown tr) f) (sym (zero-add (suc t)))
      ∙ run_on (rule_in tr i) (shown tr) f (suc t) tr.samples 0 start (λ u h. refl) (omega arith)
