-- What the C functions answer, from what the code finds.
use Prim.Native.Nat.{ℕ, ◌+◌}
use mathlib.Core.Path.{◌≡◌, refl, ap, ◌∙◌}
use mathlib.Core.List.{List, [], ◌∷◌, ◌++◌, append-nil}
use native.Mathlib.Omega.{arith}
use lib.IntN.{ℤ}
use lib.ListN.{length, set, drop, drop_of_length-le}
use lib.Seq.{sets, sets-eq}
use borrow.Author.Tests.{eq-eqb, ne_eqb}
use mir.Syntax.{w64}
use mir.Val.{to_z, of_z, SFits}
use mir.ValLaws.{to_z-of_z}
use Rattle.refusals.specs.Refusals.{Answer, answer, refused, or_kept}
use Rattle.totals.specs.declared.NetCharge.{NetCharge}
use Rattle.buttmitrel.specs.Code.{code_of, refusal_code, into_two, two_after, into}

-- Numbers stored one by one in a list as long as they are.
pub all_stored : {X : Type 0} (numbers list : List X) → length list ≡ length numbers → sets list 0 numbers ≡ numbers
all_stored numbers list l =
    let none : drop (0 + length numbers) list ≡ [] = drop_of_length-le list {i = 0 + length numbers} (omega arith) in
    sets-eq numbers list 0 (omega arith) ∙ ap (λ rest. numbers ++ rest) none ∙ append-nil numbers

-- What a call that is lent a list for k numbers answers, and that list.

module _ {A X : Type 0} (k : ℕ) (list : List X) (new : A → List X) (a : Answer A) where
  pub written : {b : A} {after : List X} → length list ≡ k → after ≡ new b → answer b ≡ a → (0 ≡ code_of (into k list a)) × (after ≡ or_kept (into k list a) new list)
  written l w e = rw (← e, eq-eqb (length list) k l) (refl, w)

  pub refused_length : {n : ℕ} {b : A} → (length list ≡ k → ⊥) → n ≡ refusal_code 15 0 → answer b ≡ a → (n ≡ code_of (into k list a)) × (list ≡ or_kept (into k list a) new list)
  refused_length d n e = rw (← e, ne_eqb (length list) k d) (n, refl)

  pub refused_call : {n number place : ℕ} → n ≡ refusal_code number place → refused number place ≡ a → (n ≡ code_of (into k list a)) × (list ≡ or_kept (into k list a) new list)
  refused_call n e = rw (← e) (n, refl)

-- The same of a list for two numbers.
module _ (two : List ℤ) (a : Answer NetCharge) where
  pub two_written : (low high : ℤ) → length two ≡ 2 → SFits w64 low → SFits w64 high → answer (record { least = low; greatest = high }) ≡ a
      → (0 ≡ code_of (into_two two a)) × (set (set two 0 (to_z w64 (of_z w64 low))) 1 (to_z w64 (of_z w64 high)) ≡ two_after two (into_two two a))
  two_written low high l f g e = rw (to_z-of_z w64 low f, to_z-of_z w64 high g, all_stored (low ∷ high ∷ []) two l, ← e, l) (refl, refl)

  pub refused_two : {n : ℕ} {b : NetCharge} → (length two ≡ 2 → ⊥) → n ≡ refusal_code 15 0 → answer b ≡ a → (n ≡ code_of (into_two two a)) × (two ≡ two_after two (into_two two a))
  refused_two d n e = rw (← e, ne_eqb (length two) 2 d) (n, refl)

  pub refused_net : {n number place : ℕ} → n ≡ refusal_code number place → refused number place ≡ a → (n ≡ code_of (into_two two a)) × (two ≡ two_after two (into_two two a))
  refused_net n e = rw (← e) (n, refl)
