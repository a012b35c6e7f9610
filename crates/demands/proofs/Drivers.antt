-- One of the rules that drive an output, or all of them, by their numbers.
use Prim.Native.Nat.{ℕ, zero, suc, ◌≤◌, ◌<◌}
use native.Mathlib.Omega.{arith}
use mathlib.Core.Bool.{Bool}
use mathlib.Core.List.{List, [], ◌∷◌}
use mathlib.Core.Logic.{◌↔◌, inl, inr}
use lib.Dec.{T}
use lib.ListN.{length, get_or}
use Rattle.lists.specs.Lists.{tabulate}
use Rattle.rules.specs.declared.Row.{Row}
use Rattle.flags.specs.declared.Flag.{Flag}
use Rattle.flags.specs.Outputs.{SomeDriver, EveryDriver}

module _ (drives : Row → Bool) (P : Flag → Type 0) (d : Row) where
  -- A rule that drives and has a status of which P holds.
  abbrev One : List Row → ℕ → (ℕ → Flag) → Type 0
  One rs n f = (i : ℕ) × (i < n) × T (drives (get_or rs i d)) × P (f i)

  -- P holds of the status of each rule that drives.
  abbrev All : List Row → ℕ → (ℕ → Flag) → Type 0
  All rs n f = (i : ℕ) → i < n → T (drives (get_or rs i d)) → P (f i)

  some_one : (rs : List Row) (n : ℕ) (f : ℕ → Flag) → SomeDriver drives P rs (tabulate n f) → One rs n f
  unfolding SomeDriver
  some_one [] n f s = absurd s
  some_one (row ∷ rs) zero f s = absurd s
  some_one (row ∷ rs) (suc n) f (inl (t, p)) = (0, omega arith, t, p)
  some_one (row ∷ rs) (suc n) f (inr s) = let (i, l, t, p) = some_one rs n (λ j. f (suc j)) s in (suc i, omega arith, t, p)

  one_some : (rs : List Row) (n : ℕ) (f : ℕ → Flag) → n ≤ length rs → One rs n f → SomeDriver drives P rs (tabulate n f)
  unfolding SomeDriver
  one_some [] n f h (i, l, t, p) = absurd (omega arith)
  one_some (row ∷ rs) zero f h (i, l, t, p) = absurd (omega arith)
  one_some (row ∷ rs) (suc n) f h (zero, l, t, p) = inl (t, p)
  one_some (row ∷ rs) (suc n) f h (suc i, l, t, p) = inr (one_some rs n (λ j. f (suc j)) (omega arith) (i, omega arith, t, p))

  every_all : (rs : List Row) (n : ℕ) (f : ℕ → Flag) → n ≤ length rs → EveryDriver drives P rs (tabulate n f) → All rs n f
  unfolding EveryDriver
  every_all [] n f h e i l t = absurd (omega arith)
  every_all (row ∷ rs) zero f h e i l t = absurd (omega arith)
  every_all (row ∷ rs) (suc n) f h (p, e) zero l t = p t
  every_all (row ∷ rs) (suc n) f h (p, e) (suc i) l t = every_all rs n (λ j. f (suc j)) (omega arith) e i (omega arith) t

  all_every : (rs : List Row) (n : ℕ) (f : ℕ → Flag) → All rs n f → EveryDriver drives P rs (tabulate n f)
  unfolding EveryDriver
  all_every [] n f a = tt
  all_every (row ∷ rs) zero f a = tt
  all_every (row ∷ rs) (suc n) f a = (a 0 (omega arith), all_every rs n (λ j. f (suc j)) (λ i l. a (suc i) (omega arith)))

  pub some_driver : (rs : List Row) (n : ℕ) (f : ℕ → Flag) → n ≤ length rs → SomeDriver drives P rs (tabulate n f) ↔ One rs n f
  some_driver rs n f h = (some_one rs n f, one_some rs n f h)

  pub every_driver : (rs : List Row) (n : ℕ) (f : ℕ → Flag) → n ≤ length rs → EveryDriver drives P rs (tabulate n f) ↔ All rs n f
  every_driver rs n f h = (every_all rs n f h, all_every rs n f)
