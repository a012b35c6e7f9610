-- A property of every element of a list, of one more and of its parts.
use Prim.Native.Nat.{ℕ, zero, suc}
use mathlib.Core.List.{List, [], ◌∷◌, ◌++◌}
use lib.ListN.{take, drop}
use Rattle.lists.specs.Lists.{Every}

module _ {A : Type 0} (P : A → Type 0) where
  pub every_append : (xs : List A) (x : A) → Every P xs → P x → Every P (xs ++ (x ∷ []))
  every_append [] x e p = (p, tt)
  every_append (y ∷ xs) x (a, e) p = (a, every_append xs x e p)

  pub every_take : (k : ℕ) (xs : List A) → Every P xs → Every P (take k xs)
  every_take zero xs e = tt
  every_take (suc k) [] e = tt
  every_take (suc k) (x ∷ xs) (a, e) = (a, every_take k xs e)

  pub every_drop : (k : ℕ) (xs : List A) → Every P xs → Every P (drop k xs)
  every_drop zero xs e = e
  every_drop (suc k) [] e = tt
  every_drop (suc k) (x ∷ xs) (a, e) = every_drop k xs e
