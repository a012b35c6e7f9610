-- The state under every filling lies between the least and the greatest, fillings reach both, and the flags follow from them.
use Prim.Native.Nat.{ℕ, zero, suc, ◌≤◌, zero-le}
use native.Mathlib.Omega.{arith}
use mathlib.Core.Path.{◌≡◌, refl, sym, ap, ap₂, subst}
use mathlib.Core.Bool.{Bool, true, false, not, cond}
use lib.Dec.{T, ltb, eqb, T_not, not_T, ltb→lt, lt→ltb, eqb→eq}
use borrow.Author.Tests.{ltb-true, ltb-false}
use Rattle.lists.proofs.Bools.{and_right, bool_ext}
use Rattle.rules.specs.Samples.{Sample, readings_of}
use Rattle.rules.specs.Evaluation.{trips, clears, step, alert, status, evaluated}
use Rattle.flags.specs.Flags.{flag_of}
use Rattle.fillings.specs.Fillings.{Rule, Sound, last, Shown, seen, unseen, Filling, filled, evaluate, after}
use Rattle.fillings.specs.PossibleStates.{possible}
use Rattle.fillings.specs.Flags.{flag}
use Rattle.fillings.specs.Bounds.{evaluate_as, after_as, least_after, greatest_after}
use Rattle.fillings.specs.promises.Bounds.{Bounded}
use Rattle.fillings.proofs.Witness.{blank, blank_carried}
use Rattle.fillings.proofs.Reach.{Reaches, Within, off_or_within, not_both_lem, reach_trip, reach_none, reach_clear}
use Rattle.fillings.proofs.Fewer.{only_recovering}
use Rattle.fillings.proofs.Exact.{step_le, after_le}
use Rattle.fillings.proofs.Flags.{met, meets_some, some_meets}

pub as_le : (trip clear : Bool) (r : Rule) (trace : ℕ → Shown) (k : ℕ) → after_as trip clear r trace k ≤ last r
unfolding after_as
as_le trip clear r trace zero = zero-le
as_le trip clear r trace (suc k) = go (evaluated r.row k) (trace k) (as_le trip clear r trace k)
  where
    go : (b : Bool) (w : Shown) → after_as trip clear r trace k ≤ last r
        → cond b (evaluate_as trip clear r w (after_as trip clear r trace k)) (after_as trip clear r trace k) ≤ last r
    go true (seen x) h = step_le (last r) _ _ (after_as trip clear r trace k)
    go true unseen h = step_le (last r) trip clear (after_as trip clear r trace k)
    go false w h = h

-- an evaluation keeps the order of two states, if the lower one's threshold and the upper one's recovery are met only where the other's is too, and never both
pub step_mono : (m : ℕ) (trip clear trip' clear' : Bool) (s s' : ℕ) → s ≤ s' → s' ≤ m
    → (T trip → T trip') → (T trip → T clear' → ⊥) → (T clear' → T clear) → step m trip clear s ≤ step m trip' clear' s'
unfolding step
step_mono m trip clear trip' clear' s s' h l = go (ltb s m) refl (ltb s' m) refl trip clear trip' clear'
  where
    go : (b : Bool) → ltb s m ≡ b → (b' : Bool) → ltb s' m ≡ b' → (t c t' c' : Bool)
        → (T t → T t') → (T t → T c' → ⊥) → (T c' → T c)
        → cond b (cond t (suc s) 0) (cond c 0 m) ≤ cond b' (cond t' (suc s') 0) (cond c' 0 m)
    go true e b' e' false c t' c' up apart back = zero-le
    go true e true e' true c true c' up apart back = omega arith
    go true e true e' true c false c' up apart back = absurd (up tt)
    go true e false e' true c t' true up apart back = absurd (apart tt tt)
    go true e false e' true c t' false up apart back = ltb-true s m e
    go false e true e' t c t' c' up apart back = let a = ltb-false s m e in let a' = ltb-true s' m e' in absurd (omega arith)
    go false e false e' t true t' c' up apart back = zero-le
    go false e false e' t false t' true up apart back = absurd (back tt)
    go false e false e' t false t' false up apart back = omega arith

-- a filling whose samples at unseen ticks meet threshold and recovery as said gives the state that is said
pub after_as_lem : (trip clear : Bool) (r : Rule) (trace : ℕ → Shown) (f : ℕ → Sample)
    → ((t : ℕ) → trace t ≡ unseen → trips r.idle r.row r.setting (readings_of (f t)) ≡ trip)
    → ((t : ℕ) → trace t ≡ unseen → clears r.row r.setting (readings_of (f t)) ≡ clear)
    → (k : ℕ) → after r trace f k ≡ after_as trip clear r trace k
unfolding after after_as
after_as_lem trip clear r trace f tripped cleared zero = refl
after_as_lem trip clear r trace f tripped cleared (suc k) = go (trace k) refl (after_as_lem trip clear r trace f tripped cleared k)
  where
    go : (w : Shown) → trace k ≡ w → after r trace f k ≡ after_as trip clear r trace k
        → cond (evaluated r.row k) (evaluate r (filled w (f k)) (after r trace f k)) (after r trace f k)
        ≡ cond (evaluated r.row k) (evaluate_as trip clear r w (after_as trip clear r trace k)) (after_as trip clear r trace k)
    go (seen x) e ih = ap (λ s. cond (evaluated r.row k) (evaluate r x s) s) ih
    go unseen e ih = rw (tripped k e, cleared k e, ih)

cond_le : (b : Bool) {s s' u u' : ℕ} → s ≤ s' → u ≤ u' → cond b s u ≤ cond b s' u'
cond_le true h l = h
cond_le false h l = l

alert_up : (m s s' : ℕ) → s ≤ s' → s' ≤ m → T (alert s) → T (alert s')
alert_up m s s' h l t = let a = ltb→lt 0 s t in lt→ltb 0 s' (omega arith)

pub status_up : (m s s' : ℕ) → s ≤ s' → s' ≤ m → T (status m s) → T (status m s')
status_up m s s' h l t =
    let a = eqb→eq s m (and_right (ltb 0 m) (eqb s m) t) in
    let e : s ≡ s' = omega arith in
    subst (λ i. T (status m i)) e t

module _ (r : Rule) (ok : Sound r) (trace : ℕ → Shown) where
  -- one evaluation of a rule that is not switched off
  least_evaluated : Within r → (w : Shown) (y : Sample) (s s' : ℕ) → s ≤ s' → s' ≤ last r
      → evaluate_as false r.row.recovers r w s ≤ evaluate r (filled w y) s'
  least_evaluated on (seen x) y s s' h l =
      step_mono (last r) _ _ _ _ s s' h l (λ t. t) (λ t c. subst T (not_both_lem r ok on x t) c) (λ c. c)
  least_evaluated on unseen y s s' h l =
      step_mono (last r) _ _ _ _ s s' h l (λ t. absurd t) (λ t c. t) (only_recovering r y)

  greatest_evaluated : Within r → (w : Shown) (y : Sample) (s s' : ℕ) → s ≤ s' → s' ≤ last r
      → evaluate r (filled w y) s ≤ evaluate_as true false r w s'
  greatest_evaluated on (seen x) y s s' h l =
      step_mono (last r) _ _ _ _ s s' h l (λ t. t) (λ t c. subst T (not_both_lem r ok on x t) c) (λ c. c)
  greatest_evaluated on unseen y s s' h l = step_mono (last r) _ _ _ _ s s' h l (λ t. tt) (λ t c. c) (λ c. absurd c)

  least_within : Within r → (f : ℕ → Sample) (k : ℕ) → least_after r trace k ≤ after r trace f k
  unfolding after after_as
  least_within on f zero = zero-le
  least_within on f (suc k) =
      let h = least_within on f k in
      cond_le (evaluated r.row k) (least_evaluated on (trace k) (f k) _ _ h (after_le r trace f k)) h

  within_greatest : Within r → (f : ℕ → Sample) (k : ℕ) → after r trace f k ≤ greatest_after r trace k
  unfolding after after_as
  within_greatest on f zero = zero-le
  within_greatest on f (suc k) =
      let h = within_greatest on f k in
      cond_le (evaluated r.row k) (greatest_evaluated on (trace k) (f k) _ _ h (as_le true false r trace k)) h

  -- the same of every rule: one that is switched off has state 0 only
  least_after_lem : (f : ℕ → Sample) (k : ℕ) → least_after r trace k ≤ after r trace f k
  least_after_lem f k =
      off_or_within r ok (λ z. let h = as_le false r.row.recovers r trace k in omega arith) (λ on. least_within on f k)

  after_greatest : (f : ℕ → Sample) (k : ℕ) → after r trace f k ≤ greatest_after r trace k
  after_greatest f k = off_or_within r ok (λ z. let h = after_le r trace f k in omega arith) (λ on. within_greatest on f k)

  reached_as : (trip clear : Bool) → (Within r → Reaches r trip clear)
      → (f : ℕ → Sample) × Filling r.cells trace f × ((k : ℕ) → after r trace f k ≡ after_as trip clear r trace k)
  reached_as trip clear reaches =
      off_or_within r ok
      (λ z. (
        (λ t. blank r.cells),
        (λ t u. blank_carried r.cells),
        (λ k. omega (arith, after_le r trace (λ t. blank r.cells) k, as_le trip clear r trace k)),
      ))
      (λ on. let w = reaches on in (
        (λ t. w.sample),
        (λ t u. w.carried),
        after_as_lem trip clear r trace (λ t. w.sample) (λ t u. w.trips) (λ t u. w.clears),
      ))

  least_reaches : Within r → Reaches r false r.row.recovers
  least_reaches on = go r.row.recovers refl
    where
      go : (b : Bool) → r.row.recovers ≡ b → Reaches r false b
      go true e = reach_clear r ok on (subst T (sym e) tt)
      go false e = reach_none r ok on

  least_reached : (f : ℕ → Sample) × Filling r.cells trace f × ((k : ℕ) → after r trace f k ≡ least_after r trace k)
  least_reached = reached_as false r.row.recovers least_reaches

  greatest_reached : (f : ℕ → Sample) × Filling r.cells trace f × ((k : ℕ) → after r trace f k ≡ greatest_after r trace k)
  greatest_reached = reached_as true false (reach_trip r ok)

  -- some state of the set meets a test exactly if this one does, which a filling gives and which meets it if any does
  met_at : (k : ℕ) (test : ℕ → Bool) (s : ℕ) (f : ℕ → Sample) → after r trace f k ≡ s
      → ((g : ℕ → Sample) → T (test (after r trace g k)) → T (test s)) → met r ok trace k test ≡ test s
  met_at k test s f e up =
      bool_ext _ _ (λ t. let (g, fills, u) = meets_some r ok trace k test t in up g u)
      (λ t. some_meets r ok trace k test f (subst (λ i. T (test i)) (sym e) t))

  -- the flag of a test that holds above every state at which it holds
  flag_between : (k : ℕ) (test : ℕ → Bool) → ((s s' : ℕ) → s ≤ s' → s' ≤ last r → T (test s) → T (test s'))
      → flag (last r) test (possible r trace k) ≡ flag_of (test (greatest_after r trace k)) (not (test (least_after r trace k)))
  unfolding flag
  flag_between k test up =
      let (f, _, a) = least_reached in
      let (g, _, b) = greatest_reached in
      ap₂ flag_of
      (met_at k test (greatest_after r trace k) g (b k) (λ x. up _ _ (after_greatest x k) (as_le true false r trace k)))
      (met_at k (λ s. not (test s)) (least_after r trace k) f (a k)
      (λ x t. not_T (test (least_after r trace k)) (λ u. T_not (test (after r trace x k)) t (up _ _ (least_after_lem x k) (after_le r trace x k) u))))

pub bounded : (r : Rule) → Sound r → (trace : ℕ → Shown) → Bounded r trace
bounded r ok trace =
    record {
      above = λ f fills. least_after_lem r ok trace f;
      below = λ f fills. after_greatest r ok trace f;
      reached_least = least_reached r ok trace;
      reached_greatest = greatest_reached r ok trace;
      flags = λ k. ap₂ (λ a s. record { alert = a; status = s }) (flag_between r ok trace k alert (alert_up (last r)))
          (flag_between r ok trace k (status (last r)) (status_up (last r)));
    }
