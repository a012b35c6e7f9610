-- The propagated set holds exactly the states that some filling gives, at every tick.
use Prim.Native.Nat.{ℕ, zero, suc, ◌≤◌, ◌<◌, zero-le}
use native.Mathlib.Omega.{arith}
use mathlib.Core.Path.{◌≡◌, refl, sym, ap, ap₂, ◌∙◌, subst}
use mathlib.Core.Logic.{◌↔◌}
use mathlib.Core.Bool.{Bool, true, false, not, cond, ◌&&◌, ◌||◌}
use mathlib.Core.List.{List}
use lib.Dec.{T, ltb, eqb, eqb→eq, eqb_refl}
use borrow.Author.Tests.{ltb-true, ne_eqb}
use Rattle.lists.proofs.Bools.{and_left, and_right, or_left, or_elim, is_true, some_elim, get_d_tabulate, held_below}
use Rattle.rules.specs.Samples.{Sample, Carried, readings_of}
use Rattle.rules.specs.Evaluation.{trips, clears, step, evaluated}
use Rattle.fillings.specs.Fillings.{Rule, Sound, last, Shown, seen, unseen, Filling, filled, evaluate, after}
use Rattle.fillings.specs.PossibleStates.{has, found, anything, moves, leads, next, possible}
use Rattle.fillings.specs.promises.Demand3.{Possible}
use Rattle.fillings.proofs.Witness.{blank, blank_carried}
use Rattle.fillings.proofs.Reach.{Reaches, off_or_within, reach_trip, reach_none, reach_clear}
use Rattle.fillings.proofs.Next.{from_some, next_has, next_low, made}
use Rattle.fillings.proofs.Fewer.{seen_among, next_fewer}

pub step_le : (m : ℕ) (trip back : Bool) (s : ℕ) → step m trip back s ≤ m
unfolding step
step_le m trip back s = go (ltb s m) refl trip back
  where
    go : (b : Bool) → ltb s m ≡ b → (t c : Bool) → cond b (cond t (suc s) 0) (cond c 0 m) ≤ m
    go true e true c = ltb-true s m e
    go true e false c = zero-le
    go false e t true = zero-le
    go false e t false = omega arith

pub after_le : (r : Rule) (trace : ℕ → Shown) (f : ℕ → Sample) (k : ℕ) → after r trace f k ≤ last r
unfolding after
after_le r trace f zero = zero-le
after_le r trace f (suc k) = go (evaluated r.row k) (after_le r trace f k)
  where
    go : (b : Bool) → after r trace f k ≤ last r → cond b (evaluate r (filled (trace k) (f k)) (after r trace f k)) (after r trace f k) ≤ last r
    go true h = step_le (last r) _ _ (after r trace f k)
    go false h = h

-- what a sample does to a state is what it can do
leads_seen : (m : ℕ) (trip back : Bool) (s : ℕ)
    → T (leads m (found trip back) s (step m trip back s))
unfolding step leads
leads_seen m trip back s = go (ltb s m) trip back
  where
    go : (b t c : Bool)
        → T (cond b (t && eqb (suc s) (cond b (cond t (suc s) 0) (cond c 0 m)) || not t && eqb 0 (cond b (cond t (suc s) 0) (cond c 0 m)))
        (c && eqb 0 (cond b (cond t (suc s) 0) (cond c 0 m)) || not c && eqb m (cond b (cond t (suc s) 0) (cond c 0 m))))
    go true true c = or_left (eqb (suc s) (suc s)) false (eqb_refl (suc s))
    go true false c = tt
    go false t true = tt
    go false t false = eqb_refl m

seen_next : (r : Rule) (x : Sample) (p : List Bool) (s : ℕ) → s ≤ last r → T (has p s) → T (has (next (last r) (moves r (seen x)) p) (evaluate r x s))
unfolding moves
seen_next r x p s h t =
    made (last r) _ p s _ h (step_le (last r) _ _ s) t
    (leads_seen (last r) (trips r.idle r.row r.setting (readings_of x)) (clears r.row r.setting (readings_of x)) s)

sound_next : (r : Rule) (w : Shown) (p : List Bool) (y : Sample) (s : ℕ) → s ≤ last r → T (has p s)
    → T (has (next (last r) (moves r w) p) (evaluate r (filled w y) s))
sound_next r (seen x) p y s h t = seen_next r x p s h t
sound_next r unseen p y s h t =
    next_fewer (last r) (moves r (seen y)) (moves r unseen) p p (seen_among r y) (λ i u. u) _ (seen_next r y p s h t)

pub sound : (r : Rule) (trace : ℕ → Shown) (f : ℕ → Sample) (k : ℕ) → T (has (possible r trace k) (after r trace f k))
unfolding after possible
sound r trace f zero = tt
sound r trace f (suc k) = go (evaluated r.row k) (sound r trace f k)
  where
    go : (b : Bool) → T (has (possible r trace k) (after r trace f k))
        → T (has (cond b (next (last r) (moves r (trace k)) (possible r trace k)) (possible r trace k))
        (cond b (evaluate r (filled (trace k) (f k)) (after r trace f k)) (after r trace f k)))
    go true h = sound_next r (trace k) (possible r trace k) (f k) (after r trace f k) (after_le r trace f k) h
    go false h = h

-- some state is always possible
pub some_possible : (r : Rule) (trace : ℕ → Shown) (k : ℕ) → (s : ℕ) × (s ≤ last r) × T (has (possible r trace k) s)
some_possible r trace k =
    let f : ℕ → Sample = λ t. blank r.cells in (after r trace f k, after_le r trace f k, sound r trace f k)

-- A sample of this trace's layout that leads from s to s'.
abbrev Way : Rule → Shown → ℕ → ℕ → Type 0
Way r w s s' = (y : Sample) × Carried r.cells y × (evaluate r (filled w y) s ≡ s')

led_seen : (m : ℕ) (trip back : Bool) (s s' : ℕ)
    → T (leads m (found trip back) s s') → step m trip back s ≡ s'
unfolding step leads
led_seen m trip back s s' = go (ltb s m) trip back
  where
    go : (b t c : Bool) → T (cond b (t && eqb (suc s) s' || not t && eqb 0 s') (c && eqb 0 s' || not c && eqb m s'))
        → cond b (cond t (suc s) 0) (cond c 0 m) ≡ s'
    go true true c u = or_elim (eqb (suc s) s') false u (eqb→eq (suc s) s') (λ v. absurd v)
    go true false c u = eqb→eq 0 s' u
    go false t true u = or_elim (eqb 0 s') false u (eqb→eq 0 s') (λ v. absurd v)
    go false t false u = eqb→eq m s' u

-- at an unseen tick the step is that of one of three outcomes
led_unseen : {X : Type 0} (m : ℕ) (rec : Bool) (s s' : ℕ)
    → T (leads m (anything rec) s s')
    → (step m true false s ≡ s' → X) → (step m false false s ≡ s' → X) → (T rec → step m false true s ≡ s' → X) → X
unfolding step leads
led_unseen {X} m rec s s' = go (ltb s m)
  where
    go : (b : Bool) → T (cond b (eqb (suc s) s' || eqb 0 s') (rec && eqb 0 s' || eqb m s'))
        → (cond b (suc s) m ≡ s' → X) → (cond b 0 m ≡ s' → X) → (T rec → cond b 0 0 ≡ s' → X) → X
    go true u trip none back = or_elim (eqb (suc s) s') (eqb 0 s') u (λ v. trip (eqb→eq (suc s) s' v)) (λ v. none (eqb→eq 0 s' v))
    go false u trip none back =
        or_elim (rec && eqb 0 s') (eqb m s') u (λ v. back (and_left rec (eqb 0 s') v) (eqb→eq 0 s' (and_right rec (eqb 0 s') v)))
        (λ v. none (eqb→eq m s' v))

by_reach : (r : Rule) {trip back : Bool} → Reaches r trip back → (s s' : ℕ) → step (last r) trip back s ≡ s' → Way r unseen s s'
by_reach r w s s' e = (w.sample, w.carried, rw (w.trips, w.clears) e)

way : (r : Rule) → Sound r → (w : Shown) (s s' : ℕ) → s' ≤ last r → T (leads (last r) (moves r w) s s') → Way r w s s'
unfolding moves
way r ok (seen x) s s' h t =
    (blank r.cells, blank_carried r.cells, led_seen (last r) (trips r.idle r.row r.setting (readings_of x)) (clears r.row r.setting (readings_of x)) s s' t)
way r ok unseen s s' h t =
    off_or_within r ok
    (λ e. (
      blank r.cells,
      blank_carried r.cells,
      omega (arith, step_le (last r) (trips r.idle r.row r.setting (readings_of (blank r.cells))) (clears r.row r.setting (readings_of (blank r.cells))) s),
    ))
    (λ l. led_unseen (last r) r.row.recovers s s' t (by_reach r (reach_trip r ok l) s s')
    (by_reach r (reach_none r ok l) s s') (λ v. by_reach r (reach_clear r ok l v) s s'))

-- two fillings that agree at the first k ticks give one state there
pub agree : (r : Rule) (trace : ℕ → Shown) (f g : ℕ → Sample) (k : ℕ) → ((t : ℕ) → t < k → f t ≡ g t) → after r trace f k ≡ after r trace g k
unfolding after
agree r trace f g zero h = refl
agree r trace f g (suc k) h =
    ap₂ (λ x s. cond (evaluated r.row k) (evaluate r (filled (trace k) x) s) s) (h k (omega arith)) (agree r trace f g k (λ t u. h t (omega arith)))

-- the filling f with y at tick k
abbrev put : (ℕ → Sample) → ℕ → Sample → ℕ → Sample
put f k y t = cond (eqb t k) y (f t)

put_filling : (n : ℕ) (trace : ℕ → Shown) (f : ℕ → Sample) (k : ℕ) (y : Sample) → Filling n trace f → Carried n y → Filling n trace (put f k y)
put_filling n trace f k y h c t u = go (eqb t k)
  where
    go : (b : Bool) → Carried n (cond b y (f t))
    go true = c
    go false = h t u

put_after : (r : Rule) (trace : ℕ → Shown) (f : ℕ → Sample) (k : ℕ) (y : Sample) → after r trace (put f k y) k ≡ after r trace f k
put_after r trace f k y =
    agree r trace (put f k y) f k (λ t h. ap (λ b. cond b y (f t)) (ne_eqb t k (λ e. omega arith)))

put_at_lem : (f : ℕ → Sample) (k : ℕ) (y : Sample) → put f k y k ≡ y
put_at_lem f k y = ap (λ b. cond b y (f k)) (is_true (eqb k k) (eqb_refl k))

came_from : (r : Rule) → Sound r → (w : Shown) (p : List Bool) (s' : ℕ) → T (has (next (last r) (moves r w) p) s') → (s : ℕ) × T (has p s) × Way r w s s'
came_from r ok w p s' t =
    let low = next_low (last r) (moves r w) p s' t in
    let (s, i, u) = some_elim (suc (last r)) (from_some (last r) (moves r w) p s') (rw (next_has (last r) (moves r w) p s' low) at t) in
    (s, and_left (has p s) (leads (last r) (moves r w) s s') u, way r ok w s s' low (and_right (has p s) (leads (last r) (moves r w) s s') u))

pub complete : (r : Rule) → Sound r → (trace : ℕ → Shown) (k s : ℕ) → T (has (possible r trace k) s) → Possible r trace k s
unfolding after possible
complete r ok trace zero s t =
    let h = held_below (suc (last r)) (λ i. eqb i 0) s t in
    let e = eqb→eq s 0 (rw (get_d_tabulate (suc (last r)) (λ i. eqb i 0) false s h) at t) in
    ((λ i. blank r.cells), (λ i u. blank_carried r.cells), sym e)
complete r ok trace (suc k) s t = go (evaluated r.row k) t (complete r ok trace k)
  where
    go : (b : Bool) → T (has (cond b (next (last r) (moves r (trace k)) (possible r trace k)) (possible r trace k)) s)
        → ((i : ℕ) → T (has (possible r trace k) i) → Possible r trace k i)
        → (f : ℕ → Sample) × Filling r.cells trace f
        × (cond b (evaluate r (filled (trace k) (f k)) (after r trace f k)) (after r trace f k) ≡ s)
    go false u ih = ih s u
    go true u ih =
        let (i, h, way) = came_from r ok (trace k) (possible r trace k) s u in
        let (f, fills, e) = ih i h in
        let (y, c, e') = way in (
          put f k y,
          put_filling r.cells trace f k y fills c,
          ap₂ (λ x j. evaluate r (filled (trace k) x) j) (put_at_lem f k y) (put_after r trace f k y ∙ e) ∙ e',
        )

-- A state is in the set exactly if some filling gives it.
pub exact : (r : Rule) → Sound r → (trace : ℕ → Shown) (k s : ℕ) → T (has (possible r trace k) s) ↔ Possible r trace k s
exact r ok trace k s = (complete r ok trace k s, λ w. subst (λ i. T (has (possible r trace k) i)) w.2 (sound r trace w.0 k))
