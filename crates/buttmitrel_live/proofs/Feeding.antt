-- What the live functions answer and store, from what the calls behind them answer.
use Prim.Native.Nat.{ℕ}
use mathlib.Core.Path.{◌≡◌, refl, ap, ◌∙◌}
use mathlib.Core.Bool.{Bool, true, false, cond, ◌&&◌}
use mathlib.Core.List.{List, [], ◌∷◌}
use lib.Dec.{eqb}
use lib.ListN.{length}
use borrow.Author.Tests.{eq-eqb}
use Rattle.lists.specs.Lists.{tabulate}
use Rattle.refusals.specs.Refusals.{Answer, answer, refused, or_kept}
use Rattle.rules.specs.declared.Setting.{Setting}
use Rattle.flags.specs.declared.RuleFlags.{RuleFlags}
use Rattle.report.specs.declared.FirstTicks.{FirstTicks}
use Rattle.report.specs.declared.Totals.{Totals}
use Rattle.report.specs.Layout.{report_bytes, report_answer, reported}
use Rattle.states.specs.Records.{fresh}
use Rattle.live.specs.declared.Live.{Live}
use Rattle.live.specs.State.{good, begun}
use Rattle.live.specs.Calls.{of_good, flags_read}
use Rattle.buttmitrel.specs.Code.{code_of, refusal_code}
use Rattle.buttmitrel_live.specs.Live.{is_kept, of_kept, list_after, totals_list, begun_answer, reported_answer, state_report}

-- The number that a call answers, and the lists after it.
abbrev pub After : ℕ → List ℕ → List ℕ → Answer (Unit {0}) → List ℕ → List ℕ → List ℕ → List ℕ → Type 0
After k w t a words new-words totals new-totals = (k ≡ code_of a) × ((w ≡ list_after a new-words words) × (t ≡ list_after a new-totals totals))

-- A refused call stores nothing.
pub stored_not : (a : Answer (Unit {0})) (words new-words totals new-totals : List ℕ) {k number place : ℕ} → k ≡ refusal_code number place → a ≡ refused number place
    → After k words totals a words new-words totals new-totals
stored_not a words new-words totals new-totals k e = rw e (k, (refl, refl))

-- A call that is taken, and its lists.
module _ (words totals : List ℕ) where
  lists_fit : length words ≡ 80 → length totals ≡ 4 → begun_answer (answer tt) words totals ≡ answer tt
  lists_fit l m = rw (eq-eqb (length words) 80 l, eq-eqb (length totals) 4 m)

  -- a beginning
  pub begins : (n idle : ℕ) (ss oo : List Setting) (a : Answer (Unit {0})) {f : Answer (Unit {0})} {st : Live} {k : ℕ} {w t : List ℕ}
      → f ≡ a → st ≡ or_kept a (λ taken. begun n idle ss) (begun 3 0 oo) → After k w t (begun_answer f words totals) words st.states.words totals (totals_list st.totals)
      → After k w t (begun_answer a words totals) words fresh totals (0 ∷ 0 ∷ 0 ∷ 0 ∷ [])
  begins n idle ss oo (answer tt) e s h = rw (e, s) at h
  begins n idle ss oo (refused number place) e s h = rw e at h

  -- a call of a state that was loaded
  fed : (rules : List ℕ) (new old : Live) (a : Answer (Unit {0})) {f : Answer (Unit {0})} {st : Live} {k : ℕ} {w t : List ℕ}
      → is_kept rules totals ≡ true → length words ≡ 80 → length totals ≡ 4
      → f ≡ a → st ≡ or_kept a (λ taken. new) old → After k w t (begun_answer f words totals) words st.states.words totals (totals_list st.totals)
      → After k w t (of_kept rules totals a) words new.states.words totals (totals_list new.totals)
  fed rules new old (answer tt) i l m e s h = rw i (rw (e, s, lists_fit l m) at h)
  fed rules new old (refused number place) i l m e s h = rw i (rw e at h)

  pub feeds : (rules : List ℕ) (answers : Live → Answer (Unit {0})) (next : Live → Live) (s : Live) {o : Live} {f : Answer (Unit {0})} {st : Live} {k : ℕ} {w t : List ℕ}
      → (is_kept rules totals ≡ true) × (length words ≡ 80) × (length totals ≡ 4) × (o ≡ s)
      → f ≡ answers o → st ≡ or_kept (answers o) (λ taken. next o) o → After k w t (begun_answer f words totals) words st.states.words totals (totals_list st.totals)
      → After k w t (of_kept rules totals (answers s)) words (next s).states.words totals (totals_list (next s).totals)
  feeds rules answers next s (i, l, m, q) e g h =
      fed rules (next s) s (answers s) i l m (e ∙ ap answers q) (g ∙ ap (λ (y : Live). or_kept (answers y) (λ taken. next y) y) q) h

-- A state that was not loaded is refusal 16.
pub no_state : {A : Type 0} (rules totals : List ℕ) (s : Live) (a : Answer A) → (is_kept rules totals && good s) ≡ false → (good s ≡ false → a ≡ refused 16 0) → of_kept rules totals a ≡ refused 16 0
no_state rules totals s a h f = go (is_kept rules totals) h
  where
    go : (b : Bool) → (b && good s) ≡ false → cond b a (refused 16 0) ≡ refused 16 0
    go true h = f h
    go false h = refl

-- The buffer after a report.
written : (fs : List RuleFlags) (ts : List FirstTicks) (t : Totals) (buffer : List ℕ) → reported fs ts t buffer ≡ list_after (report_answer buffer) (reported fs ts t buffer) buffer
unfolding reported
written fs ts t buffer = go (eqb (length buffer) 187)
  where
    go : (b : Bool) → cond b (report_bytes fs ts t) buffer ≡ list_after (cond b (answer tt) (refused 12 0)) (cond b (report_bytes fs ts t) buffer) buffer
    go true = refl
    go false = refl

-- The report of a state that was loaded.
module _ (s : Live) (buffer : List ℕ) (a : Answer (Unit {0})) where
  pub reports : {fs : List RuleFlags} {new : List ℕ} → answer tt ≡ a → fs ≡ flags_read s
      → new ≡ reported fs (tabulate 16 (λ i. record { possible = 0xFFFFFFFF; held = 0xFFFFFFFF })) s.totals buffer → new ≡ list_after (reported_answer a buffer) (state_report s buffer) buffer
  reports e f n =
      let firsts : List FirstTicks = tabulate 16 (λ i. record { possible = 0xFFFFFFFF; held = 0xFFFFFFFF }) in
      rw (← e) (n ∙ ap (λ (x : List RuleFlags). reported x firsts s.totals buffer) f ∙ written (flags_read s) firsts s.totals buffer)

-- The report of a state in lists.
pub report_kept : (rules totals : List ℕ) (s : Live) (buffer : List ℕ) {st : Live} {k : ℕ} {new : List ℕ} → is_kept rules totals ≡ true → st ≡ s
    → (k ≡ code_of (reported_answer (of_good st tt) buffer)) × (new ≡ list_after (reported_answer (of_good st tt) buffer) (state_report st buffer) buffer)
    → (k ≡ code_of (reported_answer (of_kept rules totals (of_good s tt)) buffer)) × (new ≡ list_after (reported_answer (of_kept rules totals (of_good s tt)) buffer) (state_report s buffer) buffer)
report_kept rules totals s buffer i e h = rw i (rw e at h)
