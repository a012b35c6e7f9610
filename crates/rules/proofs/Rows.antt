-- The row of a rule in the table by value.
use Prim.Native.Nat.{ℕ, zero, suc, ◌<◌}
use mathlib.Core.Path.{◌≡◌, refl, ap, ◌∙◌}
use mathlib.Core.List.{List, [], ◌∷◌}
use native.Mathlib.Nat.{le_of_suc-le-suc, not-suc-le-zero}
use lib.ListN.{length, get_or}
use Rattle.rules.specs.declared.Row.{Row}
use Rattle.rules.specs.Table.{rows, row_at}

pub get_d_any : {A : Type 0} (l : List A) (i : ℕ) (d e : A) → i < length l → get_or l i d ≡ get_or l i e
get_d_any [] i d e h = absurd (not-suc-le-zero h)
get_d_any (x ∷ l) zero d e h = refl
get_d_any (x ∷ l) (suc i) d e h = get_d_any l i d e (le_of_suc-le-suc h)

pub row_of : (t : List Row) (i : ℕ) (d : Row) → t ≡ rows → i < 16 → get_or t i d ≡ row_at i
row_of t i d e h = ap (λ (x : List Row). get_or x i d) e ∙ get_d_any rows i d _ h
