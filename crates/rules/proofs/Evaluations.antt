-- How many of the ticks from a up to k evaluate a rule: all of them, or the even ones; and as code computes it for a run of ticks.
use Prim.Native.Nat.{ℕ, zero, suc, ◌+◌, ◌-◌, ◌/◌, ◌%◌, ◌≤◌, ◌<◌}
use native.Mathlib.Omega.{arith}
use native.Mathlib.Nat.{eq-or-lt_of_le}
use mathlib.Core.Path.{◌≡◌, refl, ap, sym, ◌∙◌}
use mathlib.Core.Logic.{⊎_elim}
use mathlib.Core.Bool.{Bool, true, false, not, cond, ◌||◌}
use lib.Dec.{eqb}
use borrow.Author.Tests.{lt-ltb, le-ltb, eqb-true, eqb-false}
use Rattle.rules.specs.declared.Row.{Row}
use Rattle.rules.specs.Evaluation.{evaluated, evaluations}

pub evaluations_every : (row : Row) (a k : ℕ) → row.even ≡ false → a ≤ k → evaluations row a k ≡ k - a
unfolding evaluations
evaluations_every row a zero e h = omega arith
evaluations_every row a (suc k) e h =
    ⊎_elim
    (λ z. rw (lt-ltb k a (omega arith)) (omega arith))
    (λ l. rw (le-ltb k a (omega arith))
    (let ih = evaluations_every row a k e (omega arith) in
    let n : suc (evaluations row a k) ≡ suc k - a = omega arith in
    ap (λ b. cond (not b || eqb (k % 2) 0) (suc (evaluations row a k)) (evaluations row a k)) e ∙ n))
    (eq-or-lt_of_le h)

pub evaluations_even : (row : Row) (a k : ℕ) → row.even ≡ true → a ≤ k → evaluations row a k ≡ (k + 1) / 2 - (a + 1) / 2
unfolding evaluations
evaluations_even row a zero e h = omega arith
evaluations_even row a (suc k) e h =
    ⊎_elim
    (λ z. rw (lt-ltb k a (omega arith)) (omega arith))
    (λ l. rw (le-ltb k a (omega arith))
    (ap (λ b. cond (not b || eqb (k % 2) 0) (suc (evaluations row a k)) (evaluations row a k)) e
    ∙ go (eqb (k % 2) 0) refl (evaluations row a k) l (evaluations_even row a k e (omega arith))))
    (eq-or-lt_of_le h)
  where
    go : (b : Bool) → eqb (k % 2) 0 ≡ b → (n : ℕ) → suc a ≤ suc k → n ≡ (k + 1) / 2 - (a + 1) / 2 → cond b (suc n) n ≡ (suc k + 1) / 2 - (a + 1) / 2
    go true d n l ih = let z = eqb-true (k % 2) 0 d in omega arith
    go false d n l ih = let z : k % 2 ≡ 1 = omega (arith, eqb-false (k % 2) 0 d) in omega arith

pub evaluations_none : (row : Row) (first last : ℕ) → last < first → 0 ≡ evaluations row first (suc last)
unfolding evaluations
evaluations_none row first last h =
    sym (ap (λ (b : Bool). cond b 0 (cond (evaluated row last) (suc (evaluations row first last)) (evaluations row first last))) (lt-ltb last first h))

pub evaluations_half : (row : Row) (first last : ℕ) → row.even ≡ true → first ≤ last → last / 2 + 1 - (first + 1) / 2 ≡ evaluations row first (suc last)
evaluations_half row first last e h =
    let q : last / 2 + 1 - (first + 1) / 2 ≡ (suc last + 1) / 2 - (first + 1) / 2 = omega arith in
    q ∙ sym (evaluations_even row first (suc last) e (omega arith))

pub evaluations_all : (row : Row) (first last : ℕ) → row.even ≡ false → first ≤ last → last - first + 1 ≡ evaluations row first (suc last)
evaluations_all row first last e h =
    let q : last - first + 1 ≡ suc last - first = omega arith in
    q ∙ sym (evaluations_every row first (suc last) e (omega arith))
