-- Fewer moves from fewer states lead to fewer states, and a seen sample moves a rule in fewer ways than an unseen one.
use Prim.Native.Nat.{ℕ}
use mathlib.Core.Path.{◌≡◌, subst}
use mathlib.Core.Bool.{Bool}
use mathlib.Core.List.{List}
use lib.Dec.{T}
use Rattle.lists.proofs.Bools.{and_left}
use Rattle.rules.specs.Samples.{Sample, readings_of}
use Rattle.rules.specs.Evaluation.{clears}
use Rattle.fillings.specs.Fillings.{Rule, seen, unseen}
use Rattle.fillings.specs.PossibleStates.{has, Moves, moves, next}
use Rattle.fillings.proofs.Next.{next_low, reached, by_up, by_restart, by_leave, by_stay}

-- Every move of w is one of v.
pub record Among (w v : Moves) : Type 0 where
  pub up : T w.up → T v.up
  pub restart : T w.restart → T v.restart
  pub leave : T w.leave → T v.leave
  pub stay : T w.stay → T v.stay

pub among_itself : (w : Moves) → Among w w
among_itself w = record { up = λ t. t; restart = λ t. t; leave = λ t. t; stay = λ t. t }

pub only_recovering : (r : Rule) (x : Sample) → T (clears r.row r.setting (readings_of x)) → T r.row.recovers
unfolding clears
only_recovering r x = and_left r.row.recovers _

pub seen_among : (r : Rule) (x : Sample) → Among (moves r (seen x)) (moves r unseen)
unfolding moves
seen_among r x = record { up = λ t. tt; restart = λ t. tt; leave = only_recovering r x; stay = λ t. tt }

-- Every state of p is one of q.
abbrev pub Fewer : List Bool → List Bool → Type 0
Fewer p q = (s : ℕ) → T (has p s) → T (has q s)

pub next_fewer : (m : ℕ) (w v : Moves) (p q : List Bool) → Among w v → Fewer p q → Fewer (next m w p) (next m v q)
next_fewer m w v p q a f s t =
    reached m w p s (next_low m w p s t) t
    (λ i l h u e. there e (by_up m v q i l (f i h) (a.up u)))
    (λ i l h u e. there e (by_restart m v q i l (f i h) (a.restart u)))
    (λ h u e. there e (by_leave m v q (f m h) (a.leave u)))
    (λ h u e. there e (by_stay m v q (f m h) (a.stay u)))
  where
    there : {i : ℕ} → i ≡ s → T (has (next m v q) i) → T (has (next m v q) s)
    there = subst (λ j. T (has (next m v q) j))
