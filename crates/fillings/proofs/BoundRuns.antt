-- The least and the greatest possible state over unseen ticks, in closed form.
use Prim.Native.Nat.{ℕ, zero, suc, ◌+◌, ◌≤◌, ◌<◌, min}
use native.Mathlib.Omega.{arith}
use native.Mathlib.Nat.{eq-or-lt_of_le}
use mathlib.Core.Path.{◌≡◌, refl, sym, ap, ap₂, ◌∙◌}
use mathlib.Core.Logic.{⊎_elim}
use mathlib.Core.Bool.{Bool, true, false, cond}
use lib.Dec.{ltb, eqb, eqb-suc-zero}
use borrow.Author.Tests.{lt-ltb, le-ltb, ltb-true, ltb-false}
use Rattle.rules.specs.Evaluation.{step, evaluated, evaluations}
use Rattle.fillings.specs.Fillings.{Rule, last, Shown, unseen}
use Rattle.fillings.specs.Bounds.{evaluate_as, after_as, least_after, greatest_after}

-- over unseen ticks the state is what as many evaluations of that kind make of it
pub run_as : (trip clear : Bool) (r : Rule) (trace : ℕ → Shown) (a : ℕ) (moved : ℕ → ℕ) → moved 0 ≡ after_as trip clear r trace a
    → ((n : ℕ) → moved (suc n) ≡ step (last r) trip clear (moved n))
    → (k : ℕ) → a ≤ k → ((t : ℕ) → a ≤ t → t < k → trace t ≡ unseen) → after_as trip clear r trace k ≡ moved (evaluations r.row a k)
unfolding after_as evaluations
run_as trip clear r trace a moved start next zero h hole = let z : 0 ≡ a = omega arith in ap (after_as trip clear r trace) z ∙ sym start
run_as trip clear r trace a moved start next (suc k) h hole =
    ⊎_elim
    (λ z. rw (lt-ltb k a (omega arith)) (ap (after_as trip clear r trace) (sym z) ∙ sym start))
    (λ l. rw (le-ltb k a (omega arith))
    (go (evaluated r.row k) (trace k) (hole k (omega arith) (omega arith)) (run_as trip clear r trace a moved start next k (omega arith) (λ t u v. hole t u (omega arith)))))
    (eq-or-lt_of_le h)
  where
    go : (b : Bool) (w : Shown) → w ≡ unseen → after_as trip clear r trace k ≡ moved (evaluations r.row a k)
        → cond b (evaluate_as trip clear r w (after_as trip clear r trace k)) (after_as trip clear r trace k)
        ≡ moved (cond b (suc (evaluations r.row a k)) (evaluations r.row a k))
    go false w e ih = ih
    go true w e ih = ap₂ (λ v s. evaluate_as trip clear r v s) e ih ∙ sym (next (evaluations r.row a k))

-- a second evaluation that does not meet the threshold changes nothing
step_again : (m : ℕ) (clear : Bool) (s : ℕ) → step m false clear s ≡ step m false clear (step m false clear s)
unfolding step
step_again m clear s = go (ltb s m) clear
  where
    from_zero : (b c : Bool) → ltb 0 m ≡ b → 0 ≡ cond b 0 (cond c 0 m)
    from_zero true c e = refl
    from_zero false true e = refl
    from_zero false false e = let l = ltb-false 0 m e in omega arith

    go : (b c : Bool) → cond b 0 (cond c 0 m) ≡ cond (ltb (cond b 0 (cond c 0 m)) m) 0 (cond c 0 m)
    go true c = from_zero (ltb 0 m) c refl
    go false true = from_zero (ltb 0 m) true refl
    go false false = rw (le-ltb m m (omega arith))

pub least_run : (r : Rule) (trace : ℕ → Shown) (a k : ℕ) → a ≤ k → ((t : ℕ) → a ≤ t → t < k → trace t ≡ unseen)
    → least_after r trace k
    ≡ cond (eqb (evaluations r.row a k) 0) (least_after r trace a) (step (last r) false r.row.recovers (least_after r trace a))
least_run r trace a k h hole = run_as false r.row.recovers r trace a moved refl next k h hole
  where
    moved : ℕ → ℕ
    moved n = cond (eqb n 0) (least_after r trace a) (step (last r) false r.row.recovers (least_after r trace a))

    next : (n : ℕ) → moved (suc n) ≡ step (last r) false r.row.recovers (moved n)
    next zero = refl
    next (suc n) = rw (eqb-suc-zero (suc n), eqb-suc-zero n) (step_again (last r) r.row.recovers (least_after r trace a))

step_up : (m s : ℕ) → step m true false s ≡ min (s + 1) m
unfolding step
step_up m s = go (ltb s m) refl
  where
    go : (b : Bool) → ltb s m ≡ b → cond b (suc s) m ≡ min (s + 1) m
    go true e = let l = ltb-true s m e in omega arith
    go false e = let l = ltb-false s m e in omega arith

pub greatest_run : (r : Rule) (trace : ℕ → Shown) (a k : ℕ) → a ≤ k → ((t : ℕ) → a ≤ t → t < k → trace t ≡ unseen)
    → greatest_after r trace k
    ≡ cond (eqb (evaluations r.row a k) 0) (greatest_after r trace a) (min (greatest_after r trace a + evaluations r.row a k) (last r))
greatest_run r trace a k h hole = run_as true false r trace a moved refl next k h hole
  where
    moved : ℕ → ℕ
    moved n = cond (eqb n 0) (greatest_after r trace a) (min (greatest_after r trace a + n) (last r))

    next : (n : ℕ) → moved (suc n) ≡ step (last r) true false (moved n)
    next zero = sym (step_up (last r) (greatest_after r trace a))
    next (suc n) = rw (eqb-suc-zero (suc n), eqb-suc-zero n, step_up (last r)) (omega arith)
