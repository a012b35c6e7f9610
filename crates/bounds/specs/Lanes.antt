-- Two lanes for each of the sixteen rules: lane i and lane 16 + i.
use Rattle.std.specs.Prelude.{ℕ, ◌-◌, cond, List, ltb}
use Rattle.lists.specs.Lists.{tabulate}

-- The lanes of f for the rules 0 to 15, then those of g.
unfoldable pub paired {ℓ} : {A : Type ℓ} → (ℕ → A) → (ℕ → A) → List A
paired f g = tabulate 32 (λ j. cond (ltb j 16) (f j) (g (j - 16)))
