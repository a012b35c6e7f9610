-- The set after an evaluation, state by state.
use Prim.Native.Nat.{ℕ, zero, suc, ◌≤◌, ◌<◌}
use native.Mathlib.Omega.{arith}
use native.Mathlib.Nat.{eq-or-lt_of_le}
use mathlib.Core.Path.{◌≡◌, ap, subst}
use mathlib.Core.Logic.{⊎_elim}
use mathlib.Core.Bool.{Bool, false, cond, ◌&&◌, ◌||◌}
use mathlib.Core.List.{List}
use lib.ListN.{length}
use lib.Dec.{T, eqb, eqb→eq, eqb_refl}
use borrow.Author.Tests.{lt-ltb, le-ltb}
use Rattle.lists.specs.Lists.{some_below}
use Rattle.lists.proofs.Bools.{and_left, and_right, both, or_left, or_right, or_elim, bool_ext, some_intro, some_elim, length_tabulate, get_d_tabulate, held_below}
use Rattle.fillings.specs.PossibleStates.{has, Moves, leads, anything, next, unseen_times}

-- the test that the set after an evaluation tabulates
abbrev pub from_some : ℕ → Moves → List Bool → ℕ → ℕ → Bool
from_some m w p s' s = has p s && leads m w s s'

module _ (m : ℕ) (w : Moves) (p : List Bool) where
  pub next_length : length (next m w p) ≡ suc m
  unfolding next
  next_length = length_tabulate (suc m) (λ s'. some_below (suc m) (from_some m w p s'))

  pub next_has : (s' : ℕ) → s' ≤ m → has (next m w p) s' ≡ some_below (suc m) (from_some m w p s')
  unfolding next
  next_has s' h = get_d_tabulate (suc m) (λ t. some_below (suc m) (from_some m w p t)) false s' (omega arith)

  pub next_low : (s : ℕ) → T (has (next m w p) s) → s ≤ m
  unfolding next
  next_low s t = let l = held_below (suc m) (λ s'. some_below (suc m) (from_some m w p s')) s t in omega arith

  leads_below : (s s' : ℕ) → s < m → leads m w s s' ≡ (w.up && eqb (suc s) s' || w.restart && eqb 0 s')
  unfolding leads
  leads_below s s' h = ap (λ b. cond b (w.up && eqb (suc s) s' || w.restart && eqb 0 s') (w.leave && eqb 0 s' || w.stay && eqb m s')) (lt-ltb s m h)

  leads_top : (s' : ℕ) → leads m w m s' ≡ (w.leave && eqb 0 s' || w.stay && eqb m s')
  unfolding leads
  leads_top s' = ap (λ b. cond b (w.up && eqb (suc m) s' || w.restart && eqb 0 s') (w.leave && eqb 0 s' || w.stay && eqb m s')) (le-ltb m m (omega arith))

  -- how s' is reached: counted up, restarted, left or stayed
  pub reached : {X : Type 0} (s' : ℕ) → s' ≤ m → T (has (next m w p) s')
      → ((s : ℕ) → s < m → T (has p s) → T w.up → suc s ≡ s' → X) → ((s : ℕ) → s < m → T (has p s) → T w.restart → 0 ≡ s' → X)
      → (T (has p m) → T w.leave → 0 ≡ s' → X) → (T (has p m) → T w.stay → m ≡ s' → X) → X
  reached {X} s' h t up restart leave stay =
      let (s, l, u) = some_elim (suc m) (from_some m w p s') (rw (next_has s' h) at t) in
      let a = and_left (has p s) (leads m w s s') u in
      let b = and_right (has p s) (leads m w s s') u in
      let low : s ≤ m = omega arith in
      ⊎_elim
      (λ e. let d : T (leads m w m s') = subst (λ i. T (leads m w i s')) e b in
      let c = rw (leads_top s') at d in
      or_elim (w.leave && eqb 0 s') (w.stay && eqb m s') c
      (λ v. leave (subst (λ i. T (has p i)) e a) (and_left w.leave (eqb 0 s') v) (eqb→eq 0 s' (and_right w.leave (eqb 0 s') v)))
      (λ v. stay (subst (λ i. T (has p i)) e a) (and_left w.stay (eqb m s') v) (eqb→eq m s' (and_right w.stay (eqb m s') v))))
      (λ l'. let c = rw (leads_below s s' l') at b in
      or_elim (w.up && eqb (suc s) s') (w.restart && eqb 0 s') c
      (λ v. up s l' a (and_left w.up (eqb (suc s) s') v) (eqb→eq (suc s) s' (and_right w.up (eqb (suc s) s') v)))
      (λ v. restart s l' a (and_left w.restart (eqb 0 s') v) (eqb→eq 0 s' (and_right w.restart (eqb 0 s') v))))
      (eq-or-lt_of_le low)

  pub made : (s s' : ℕ) → s ≤ m → s' ≤ m → T (has p s) → T (leads m w s s') → T (has (next m w p) s')
  made s s' l h a b = rw (next_has s' h) (some_intro (suc m) (from_some m w p s') s (omega arith) (both (has p s) (leads m w s s') a b))

  pub by_up : (s : ℕ) → s < m → T (has p s) → T w.up → T (has (next m w p) (suc s))
  by_up s l a u =
      made s (suc s) (omega arith) (omega arith) a
      (rw (leads_below s (suc s) l) (or_left (w.up && eqb (suc s) (suc s)) (w.restart && eqb 0 (suc s)) (both w.up (eqb (suc s) (suc s)) u (eqb_refl (suc s)))))

  pub by_restart : (s : ℕ) → s < m → T (has p s) → T w.restart → T (has (next m w p) 0)
  by_restart s l a u =
      made s 0 (omega arith) (omega arith) a
      (rw (leads_below s 0 l) (or_right (w.up && eqb (suc s) 0) (w.restart && eqb 0 0) (both w.restart (eqb 0 0) u tt)))

  pub by_leave : T (has p m) → T w.leave → T (has (next m w p) 0)
  by_leave a u =
      made m 0 (omega arith) (omega arith) a
      (rw (leads_top 0) (or_left (w.leave && eqb 0 0) (w.stay && eqb m 0) (both w.leave (eqb 0 0) u tt)))

  pub by_stay : T (has p m) → T w.stay → T (has (next m w p) m)
  by_stay a u =
      made m m (omega arith) (omega arith) a
      (rw (leads_top m) (or_right (w.leave && eqb 0 m) (w.stay && eqb m m) (both w.stay (eqb m m) u (eqb_refl m))))

  -- the flag of 0, of a state between, and of the top
  pub next_zero : 0 < m → has (next m w p) 0 ≡ (w.restart && some_below m (has p) || w.leave && has p m)
  next_zero pos =
      bool_ext _ _
      (λ t. reached 0 (omega arith) t (λ s l a u e. absurd (omega arith))
      (λ s l a u e. or_left (w.restart && some_below m (has p)) (w.leave && has p m) (both w.restart (some_below m (has p)) u (some_intro m (has p) s l a)))
      (λ a u e. or_right (w.restart && some_below m (has p)) (w.leave && has p m) (both w.leave (has p m) u a))
      (λ a u e. absurd (omega arith)))
      (λ t. or_elim (w.restart && some_below m (has p)) (w.leave && has p m) t
      (λ v. let (s, l, a) = some_elim m (has p) (and_right w.restart (some_below m (has p)) v) in
      by_restart s l a (and_left w.restart (some_below m (has p)) v))
      (λ v. by_leave (and_right w.leave (has p m) v) (and_left w.leave (has p m) v)))

  pub next_between : (s : ℕ) → suc s < m → has (next m w p) (suc s) ≡ (w.up && has p s)
  next_between s h =
      bool_ext _ _
      (λ t. reached (suc s) (omega arith) t
      (λ i l a u e. let e' : i ≡ s = omega arith in both w.up (has p s) u (subst (λ j. T (has p j)) e' a))
      (λ i l a u e. absurd (omega arith)) (λ a u e. absurd (omega arith)) (λ a u e. absurd (omega arith)))
      (λ t. by_up s (omega arith) (and_right w.up (has p s) t) (and_left w.up (has p s) t))

  pub next_top : (s : ℕ) → suc s ≡ m → has (next m w p) m ≡ (w.up && has p s || w.stay && has p m)
  next_top s h =
      bool_ext _ _
      (λ t. reached m (omega arith) t
      (λ i l a u e. let e' : i ≡ s = omega arith in or_left (w.up && has p s) (w.stay && has p m) (both w.up (has p s) u (subst (λ j. T (has p j)) e' a)))
      (λ i l a u e. absurd (omega arith)) (λ a u e. absurd (omega arith))
      (λ a u e. or_right (w.up && has p s) (w.stay && has p m) (both w.stay (has p m) u a)))
      (λ t. or_elim (w.up && has p s) (w.stay && has p m) t
      (λ v. subst (λ j. T (has (next m w p) j)) h (by_up s (omega arith) (and_right w.up (has p s) v) (and_left w.up (has p s) v)))
      (λ v. by_stay (and_right w.stay (has p m) v) (and_left w.stay (has p m) v)))

pub next_only_zero : (w : Moves) (p : List Bool) → has (next 0 w p) 0 ≡ (w.leave && has p 0 || w.stay && has p 0)
next_only_zero w p =
    bool_ext _ _
    (λ t. reached 0 w p 0 (omega arith) t (λ s l a u e. absurd (omega arith)) (λ s l a u e. absurd (omega arith))
    (λ a u e. or_left (w.leave && has p 0) (w.stay && has p 0) (both w.leave (has p 0) u a))
    (λ a u e. or_right (w.leave && has p 0) (w.stay && has p 0) (both w.stay (has p 0) u a)))
    (λ t. or_elim (w.leave && has p 0) (w.stay && has p 0) t
    (λ v. by_leave 0 w p (and_right w.leave (has p 0) v) (and_left w.leave (has p 0) v))
    (λ v. by_stay 0 w p (and_right w.stay (has p 0) v) (and_left w.stay (has p 0) v)))

pub unseen_length : (k m : ℕ) (recovers : Bool) (p : List Bool) → length p ≡ suc m → length (unseen_times k m recovers p) ≡ suc m
unfolding unseen_times
unseen_length zero m recovers p e = e
unseen_length (suc k) m recovers p e = next_length m (anything recovers) (unseen_times k m recovers p)
