-- Where a rule is sure, and what follows from there on.
use Prim.Native.Nat.{ℕ, zero, suc, ◌≤◌, min}
use native.Mathlib.Omega.{arith}
use native.Mathlib.Nat.{eq-or-lt_of_le}
use mathlib.Core.Path.{◌≡◌, refl, sym, ap, ap₂, ◌∙◌, subst}
use mathlib.Core.Logic.{⊎_elim}
use mathlib.Core.Bool.{Bool, true, false, cond}
use lib.Dec.{T, ltb}
use borrow.Author.Tests.{ltb-false}
use Rattle.lists.proofs.Bools.{is_true, refuted}
use Rattle.rules.specs.Samples.{Sample, readings_of}
use Rattle.rules.specs.Evaluation.{trips, clears, step, evaluated, evaluations}
use Rattle.fillings.specs.Fillings.{Rule, Sound, last, Shown, seen, unseen, Filling, filled, evaluate, after}
use Rattle.fillings.specs.promises.Demand3.{Sure, Tripping}
use Rattle.fillings.proofs.Reach.{off_or_within, not_both_lem}
use Rattle.fillings.proofs.Exact.{after_le}

step_clear : (m s : ℕ) → step m false true s ≡ 0
unfolding step
step_clear m s = go (ltb s m)
  where
    go : (b : Bool) → cond b (cond false (suc s) 0) (cond true 0 m) ≡ 0
    go true = refl
    go false = refl

-- a met threshold takes the state one up, or leaves it at the top
step_trip : (m s : ℕ) → min (suc s) m ≤ step m true false s
unfolding step
step_trip m s = go (ltb s m) refl
  where
    go : (b : Bool) → ltb s m ≡ b → min (suc s) m ≤ cond b (cond true (suc s) 0) (cond false 0 m)
    go true e = omega arith
    go false e = omega arith

module _ (r : Rule) (ok : Sound r) (trace : ℕ → Shown) where
  -- the state after an evaluation of a seen tick
  after_seen_lem : (f : ℕ → Sample) (k : ℕ) (x : Sample) → T (evaluated r.row k) → trace k ≡ seen x
      → after r trace f (suc k) ≡ evaluate r x (after r trace f k)
  unfolding after
  after_seen_lem f k x ev e =
      ap₂ (λ b w. cond b (evaluate r (filled w (f k)) (after r trace f k)) (after r trace f k)) (is_true (evaluated r.row k) ev) e

  -- a rule that is switched off, or one that meets both tests nowhere
  apart : {X : Type 0} → (last r ≡ 0 → X)
      → (((x : Sample) → T (trips r.idle r.row r.setting (readings_of x)) → clears r.row r.setting (readings_of x) ≡ false) → X) → X
  apart off on = off_or_within r ok off (λ l. on (not_both_lem r ok l))

  -- after a seen evaluation that meets the recovery the state is 0, under every filling
  pub recovered : (f : ℕ → Sample) (k : ℕ) (x : Sample) → T (evaluated r.row k) → trace k ≡ seen x → T (clears r.row r.setting (readings_of x))
      → after r trace f (suc k) ≡ 0
  recovered f k x ev e c =
      apart (λ z. let h = after_le r trace f (suc k) in omega arith)
      (λ both. after_seen_lem f k x ev e
      ∙ ap₂ (λ t b. step (last r) t b (after r trace f k))
      (refuted (trips r.idle r.row r.setting (readings_of x)) (λ t. subst T (both x t) c)) (is_true (clears r.row r.setting (readings_of x)) c)
      ∙ step_clear (last r) (after r trace f k))

  pub recovered_sure : (k : ℕ) (x : Sample) → T (evaluated r.row k) → trace k ≡ seen x → T (clears r.row r.setting (readings_of x)) → Sure r trace (suc k)
  recovered_sure k x ev e c f g hf hg = recovered f k x ev e c ∙ sym (recovered g k x ev e c)

  -- the state counts the evaluations of a stretch that meet the threshold, up to the top
  counted : (f : ℕ → Sample) (a k : ℕ) → Tripping r trace a k → min (evaluations r.row a k) (last r) ≤ after r trace f k
  unfolding after evaluations
  counted f a zero h = omega arith
  counted f a (suc k) h = go (ltb k a) refl (evaluated r.row k) refl (counted f a k (λ t l u. h t l (omega arith)))
    where
      go : (b : Bool) → ltb k a ≡ b → (c : Bool) → evaluated r.row k ≡ c
          → min (evaluations r.row a k) (last r) ≤ after r trace f k
          → min (cond b 0 (cond c (suc (evaluations r.row a k)) (evaluations r.row a k))) (last r)
          ≤ cond c (evaluate r (filled (trace k) (f k)) (after r trace f k)) (after r trace f k)
      go true e c e' ih = omega arith
      go false e false e' ih = ih
      go false e true e' ih =
          let (x, shown, meets) = h k (ltb-false k a e) (omega arith) in
          let t = meets (subst T (sym e') tt) in
          apart (λ z. omega arith)
          (λ both.
          let w : evaluate r (filled (trace k) (f k)) (after r trace f k) ≡ step (last r) true false (after r trace f k) =
          ap (λ v. evaluate r (filled v (f k)) (after r trace f k)) shown
          ∙ ap₂ (λ u v. step (last r) u v (after r trace f k)) (is_true (trips r.idle r.row r.setting (readings_of x)) t) (both x t) in
          omega (arith, step_trip (last r) (after r trace f k)))

  pub counted_sure : (a k : ℕ) → Tripping r trace a k → last r ≤ evaluations r.row a k → Sure r trace k
  counted_sure a k h n f g hf hg =
      omega (arith, counted f a k h, counted g a k h, after_le r trace f k, after_le r trace g k)

  -- from a tick where the rule is sure, fillings that agree at the later unseen ticks give one state
  pub sure_onwards_lem : (k : ℕ) → Sure r trace k → (f g : ℕ → Sample) → Filling r.cells trace f → Filling r.cells trace g
      → ((t : ℕ) → k ≤ t → trace t ≡ unseen → f t ≡ g t) → (j : ℕ) → k ≤ j → after r trace f j ≡ after r trace g j
  unfolding after
  sure_onwards_lem k sure f g hf hg same zero h = refl
  sure_onwards_lem k sure f g hf hg same (suc j) h =
      ⊎_elim (λ z. subst (λ i. after r trace f i ≡ after r trace g i) z (sure f g hf hg))
      (λ l. let low : k ≤ j = omega arith in
      ap₂ (λ x s. cond (evaluated r.row j) (evaluate r x s) s) (go low (trace j) refl) (sure_onwards_lem k sure f g hf hg same j low))
      (eq-or-lt_of_le h)
    where
      go : k ≤ j → (w : Shown) → trace j ≡ w → filled (trace j) (f j) ≡ filled (trace j) (g j)
      go low (seen x) e = rw e
      go low unseen e = rw e (same j low e)
