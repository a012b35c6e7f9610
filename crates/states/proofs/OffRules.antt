-- A rule that is switched off stays at state 0.
use Prim.Native.Nat.{ℕ, zero, suc}
use mathlib.Core.Path.{◌≡◌, refl, ap, ap₂, ◌∙◌}
use mathlib.Core.List.{List, [], ◌∷◌}
use mathlib.Core.Bool.{Bool, true, false, not, cond, ◌&&◌, ◌||◌}
use native.Mathlib.Omega.{arith}
use lib.ListN.{get_or}
use lib.Seq.{ext_get_or}
use Rattle.rules.specs.Evaluation.{top, evaluated}
use Rattle.rules.specs.Samples.{readings_of}
use Rattle.fillings.specs.Fillings.{Rule, last, Shown, seen, unseen}
use Rattle.fillings.specs.PossibleStates.{Moves, moves, next, start, possible}
use Rattle.fillings.proofs.Next.{next_length, next_only_zero}

either : (w : Moves) → (w.leave || w.stay) ≡ true → (w.leave && true || w.stay && true) ≡ true
either w = go w.leave w.stay
  where
    go : (a b : Bool) → (a || b) ≡ true → (a && true || b && true) ≡ true
    go true b e = refl
    go false true e = refl
    go false false e = e

next_off : (w : Moves) → (w.leave || w.stay) ≡ true → next 0 w (true ∷ []) ≡ true ∷ []
next_off w e =
    ext_get_or false (next 0 w (true ∷ [])) (true ∷ []) (next_length 0 w (true ∷ []))
    (λ i h. at i (omega (arith, next_length 0 w (true ∷ []))))
  where
    at : (i : ℕ) → i ≡ 0 → get_or (next 0 w (true ∷ [])) i false ≡ get_or (true ∷ []) i false
    at zero z = next_only_zero w (true ∷ []) ∙ either w e
    at (suc i) z = absurd (omega arith)

moves_some : (r : Rule) (x : Shown) → ((moves r x).leave || (moves r x).stay) ≡ true
unfolding moves
moves_some r (seen x) = go (Rattle.rules.specs.Evaluation.clears r.row r.setting (readings_of x))
  where
    go : (b : Bool) → (b || not b) ≡ true
    go true = refl
    go false = refl
moves_some r unseen = go r.row.recovers
  where
    go : (b : Bool) → (b || true) ≡ true
    go true = refl
    go false = refl

pub off_possible : (r : Rule) (trace : ℕ → Shown) (k : ℕ) → last r ≡ 0 → possible r trace k ≡ true ∷ []
unfolding possible
off_possible r trace zero e = ap start e
off_possible r trace (suc k) e = go (evaluated r.row k) (off_possible r trace k e)
  where
    go : (b : Bool) → possible r trace k ≡ true ∷ [] → cond b (next (last r) (moves r (trace k)) (possible r trace k)) (possible r trace k) ≡ true ∷ []
    go true ih = ap₂ (λ (m : ℕ) (q : List Bool). next m (moves r (trace k)) q) e ih ∙ next_off (moves r (trace k)) (moves_some r (trace k))
    go false ih = ih
