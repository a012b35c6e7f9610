-- What an answer of a chain of checks says of each check.
use Prim.Native.Nat.{ℕ}
use mathlib.Core.Path.{◌≡◌, refl}
use mathlib.Core.Bool.{Bool, true, false, cond}
use native.Mathlib.Omega.{arith}
use Rattle.refusals.specs.Refusals.{Answer, answer, refused, and_then}

pub clash : {A : Type 0} {n p : ℕ} {a : A} → refused n p ≡ answer a → ⊥
clash h = let z : ◌≡◌ {A = ℕ} 0 1 = cc in omega arith

-- A test that refuses where it is true, or where it is false.
pub unless : {A : Type 0} (b : Bool) (n p : ℕ) (y : Answer A) {a : A} → cond b (refused n p) y ≡ answer a → (b ≡ false) × (y ≡ answer a)
unless true n p y h = absurd (clash h)
unless false n p y h = (refl, h)

pub where_true : {A : Type 0} (b : Bool) (n p : ℕ) (y : Answer A) {a : A} → cond b y (refused n p) ≡ answer a → (b ≡ true) × (y ≡ answer a)
where_true true n p y h = (refl, h)
where_true false n p y h = absurd (clash h)

pub answered : {A B : Type 0} (r : Answer A) (k : A → Answer B) {b : B} (P : Type 0) → and_then r k ≡ answer b → ((a : A) → r ≡ answer a → k a ≡ answer b → P) → P
answered (answer a) k P h f = f a refl h
answered (refused n p) k P h f = absurd (clash h)
