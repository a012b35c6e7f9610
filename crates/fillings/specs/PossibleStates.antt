-- The possible states of a rule, worked out without fillings. That they are exactly the states of the fillings is proved.
use Rattle.std.specs.Prelude.{ℕ, zero, suc, Bool, true, false, not, cond, ◌&&◌, ◌||◌, List, ltb, eqb, get_or}
use Rattle.lists.specs.Lists.{tabulate, some_below}
use Rattle.rules.specs.Samples.{readings_of}
use Rattle.rules.specs.Evaluation.{trips, clears, evaluated}
use Rattle.fillings.specs.Fillings.{Rule, last, Shown, seen, unseen}

-- A set of the states 0 to m is m + 1 Booleans; whether a state is in it.
abbrev pub has : List Bool → ℕ → Bool
has p s = get_or p s false

-- What an evaluation can do to a state: below the top count up or restart, at the top leave it or stay.
pub record Moves : Type 0 where
  pub up : Bool
  pub restart : Bool
  pub leave : Bool
  pub stay : Bool

-- What a met or unmet threshold and recovery do.
abbrev pub found : Bool → Bool → Moves
found trip clear = record { up = trip; restart = not trip; leave = clear; stay = not clear }

-- What an unseen evaluation can do: everything, but that a latched rule leaves the top.
abbrev pub anything : Bool → Moves
anything recovers = record { up = true; restart = true; leave = recovers; stay = true }

-- What the evaluation at a tick can do: a seen sample decides.
unfoldable pub moves : Rule → Shown → Moves
moves r (seen x) = found (trips r.idle r.row r.setting (readings_of x)) (clears r.row r.setting (readings_of x))
moves r unseen = anything r.row.recovers

-- Whether such an evaluation can lead from s to s'.
unfoldable pub leads : ℕ → Moves → ℕ → ℕ → Bool
leads m w s s' = cond (ltb s m) (w.up && eqb (suc s) s' || w.restart && eqb 0 s') (w.leave && eqb 0 s' || w.stay && eqb m s')

-- The set after such an evaluation.
unfoldable pub next : ℕ → Moves → List Bool → List Bool
next m w p = tabulate (suc m) (λ s'. some_below (suc m) (λ s. has p s && leads m w s s'))

-- The set of state 0 alone.
abbrev pub start : ℕ → List Bool
start m = tabulate (suc m) (λ s. eqb s 0)

-- The possible states once the first k ticks have passed.
unfoldable pub possible : Rule → (ℕ → Shown) → ℕ → List Bool
possible r trace zero = start (last r)
possible r trace (suc k) = cond (evaluated r.row k) (next (last r) (moves r (trace k)) (possible r trace k)) (possible r trace k)

-- The set after k unseen evaluations.
unfoldable pub unseen_times : ℕ → ℕ → Bool → List Bool → List Bool
unseen_times zero m recovers p = p
unseen_times (suc k) m recovers p = next m (anything recovers) (unseen_times k m recovers p)
