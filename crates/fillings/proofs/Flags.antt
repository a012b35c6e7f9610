-- What a three-way flag says of all fillings, at every tick, and what the first ticks say.
use Prim.Native.Nat.{ℕ, zero, suc, ◌+◌, ◌≤◌, ◌<◌}
use native.Mathlib.Omega.{arith}
use native.Mathlib.Nat.{eq-or-lt_of_le}
use mathlib.Core.Path.{◌≡◌, refl, sym, ap₂, subst}
use mathlib.Core.Logic.{◌↔◌, ◌⊎◌, inl, inr, ⊎_elim}
use mathlib.Core.Bool.{Bool, true, false, not, cond, ◌&&◌}
use mathlib.Core.List.{List}
use lib.Dec.{T, T_not, not_T}
use Rattle.lists.specs.Lists.{some_below}
use Rattle.lists.proofs.Bools.{and_left, and_right, both, is_true, refuted, some_intro, some_elim}
use Rattle.rules.specs.Samples.{Sample}
use Rattle.rules.specs.Evaluation.{status}
use Rattle.flags.specs.declared.Flag.{Flag}
use Rattle.flags.specs.declared.Flag.TheVariants.{Clear, Held, Unknown}
use Rattle.flags.specs.Flags.{flag_of}
use Rattle.fillings.specs.Fillings.{Rule, Sound, last, Shown, after}
use Rattle.fillings.specs.PossibleStates.{has, possible}
use Rattle.fillings.specs.Flags.{flag, status_flag, not_clear, is_held, first_from, first_possible, first_held}
use Rattle.fillings.specs.promises.Demand3.{Always, Sometimes, First}
use Rattle.fillings.proofs.Exact.{after_le, sound, some_possible, complete}

held_none : (a b : Bool) → flag_of a b ≡ Held → b ≡ false
held_none true true e = let z : ◌≡◌ {A = ℕ} 0 1 = cc in absurd (omega arith)
held_none true false e = refl
held_none false true e = let z : ◌≡◌ {A = ℕ} 0 1 = cc in absurd (omega arith)
held_none false false e = refl

clear_none : (a b : Bool) → flag_of a b ≡ Clear → a ≡ false
clear_none true true e = let z : ◌≡◌ {A = ℕ} 0 1 = cc in absurd (omega arith)
clear_none true false e = let z : ◌≡◌ {A = ℕ} 0 1 = cc in absurd (omega arith)
clear_none false b e = refl

-- where there is a state, it has the property or it has not
unknown_both : (a b : Bool) → (T (not a) → T b) → flag_of a b ≡ Unknown → T a × T b
unknown_both true true some e = (tt, tt)
unknown_both true false some e = let z : ◌≡◌ {A = ℕ} 0 1 = cc in absurd (omega arith)
unknown_both false true some e = let z : ◌≡◌ {A = ℕ} 0 1 = cc in absurd (omega arith)
unknown_both false false some e = absurd (some tt)

pub flag_not_clear : (a b : Bool) → (T (not a) → T b) → not_clear (flag_of a b) ≡ a
flag_not_clear true true some = refl
flag_not_clear true false some = refl
flag_not_clear false true some = refl
flag_not_clear false false some = absurd (some tt)

is_held_held : (f : Flag) → T (is_held f) → f ≡ Held
is_held_held Clear t = absurd t
is_held_held Held t = refl
is_held_held Unknown t = absurd t

unless_not : (b : Bool) → (T (not b) → ⊥) → T b
unless_not true f = tt
unless_not false f = f tt

-- A test holds in every state of a set of the states 0 to m.
abbrev pub InAll : ℕ → List Bool → (ℕ → Bool) → Type 0
InAll m p test = (s : ℕ) → s ≤ m → T (has p s) → T (test s)

-- What a flag over a set says of its states.
module _ (m : ℕ) (p : List Bool) where
  -- some state of the set meets a test
  abbrev pub meets : (ℕ → Bool) → Bool
  meets test = some_below (suc m) (λ s. has p s && test s)

  state_meets : (test : ℕ → Bool) (s : ℕ) → s ≤ m → T (has p s) → T (test s) → T (meets test)
  state_meets test s h a t = some_intro (suc m) (λ i. has p i && test i) s (omega arith) (both (has p s) (test s) a t)

  meets_state : (test : ℕ → Bool) → T (meets test) → (s : ℕ) × (s ≤ m) × T (has p s) × T (test s)
  meets_state test t =
      let (s, h, u) = some_elim (suc m) (λ i. has p i && test i) t in
      (s, omega arith, and_left (has p s) (test s) u, and_right (has p s) (test s) u)

  pub held_in_all : (test : ℕ → Bool) → flag m test p ≡ Held → InAll m p test
  unfolding flag
  held_in_all test e s h a =
      unless_not (test s)
      (λ t. subst T (held_none (meets test) (meets (λ i. not (test i))) e) (state_meets (λ i. not (test i)) s h a t))

  pub in_all_held : (test : ℕ → Bool) (s : ℕ) → s ≤ m → T (has p s) → InAll m p test → flag m test p ≡ Held
  unfolding flag
  in_all_held test s h a all =
      ap₂ flag_of (is_true (meets test) (state_meets test s h a (all s h a)))
      (refuted (meets (λ i. not (test i))) (λ t. let (i, l, b, u) = meets_state (λ j. not (test j)) t in T_not (test i) u (all i l b)))

  pub clear_in_all : (test : ℕ → Bool) → flag m test p ≡ Clear → InAll m p (λ s. not (test s))
  unfolding flag
  clear_in_all test e s h a =
      not_T (test s) (λ t. subst T (clear_none (meets test) (meets (λ i. not (test i))) e) (state_meets test s h a t))

  pub in_all_clear : (test : ℕ → Bool) (s : ℕ) → s ≤ m → T (has p s) → InAll m p (λ s. not (test s)) → flag m test p ≡ Clear
  unfolding flag
  in_all_clear test s h a all =
      ap₂ flag_of (refuted (meets test) (λ t. let (i, l, b, u) = meets_state test t in T_not (test i) (all i l b) u))
      (is_true (meets (λ i. not (test i))) (state_meets (λ i. not (test i)) s h a (all s h a)))

module _ (r : Rule) (ok : Sound r) (trace : ℕ → Shown) (k : ℕ) where
  abbrev pub met : (ℕ → Bool) → Bool
  met = meets (last r) (possible r trace k)

  -- the set meets a test exactly if the test holds under some filling
  pub meets_some : (test : ℕ → Bool) → T (met test) → Sometimes r trace k test
  meets_some test t =
      let (s, l, h, u) = meets_state (last r) (possible r trace k) test t in
      let (f, fills, e) = complete r ok trace k s h in (f, fills, subst (λ i. T (test i)) (sym e) u)

  pub some_meets : (test : ℕ → Bool) (f : ℕ → Sample) → T (test (after r trace f k)) → T (met test)
  some_meets test f = state_meets (last r) (possible r trace k) test (after r trace f k) (after_le r trace f k) (sound r trace f k)

  -- what holds under every filling holds in every state of the set
  always_in_all : (test : ℕ → Bool) → Always r trace k test → InAll (last r) (possible r trace k) test
  always_in_all test all s l h = let (f, fills, e) = complete r ok trace k s h in subst (λ i. T (test i)) e (all f fills)

  -- a flag reads held exactly if its test holds under every filling
  pub held_exactly : (test : ℕ → Bool) → (flag (last r) test (possible r trace k) ≡ Held) ↔ Always r trace k test
  held_exactly test = (
    (λ e f fills. held_in_all (last r) (possible r trace k) test e (after r trace f k) (after_le r trace f k) (sound r trace f k)),
    (λ all. let (s, h, a) = some_possible r trace k in in_all_held (last r) (possible r trace k) test s h a (always_in_all test all)),
  )

  -- clear exactly if it holds under none
  pub clear_exactly : (test : ℕ → Bool) → (flag (last r) test (possible r trace k) ≡ Clear) ↔ Always r trace k (λ s. not (test s))
  clear_exactly test = (
    (λ e f fills. clear_in_all (last r) (possible r trace k) test e (after r trace f k) (after_le r trace f k) (sound r trace f k)),
    (λ all. let (s, h, a) = some_possible r trace k in in_all_clear (last r) (possible r trace k) test s h a (always_in_all (λ s. not (test s)) all)),
  )

  -- some state meets a test or its opposite
  meets_either : (test : ℕ → Bool) → T (not (met test)) → T (met (λ s. not (test s)))
  meets_either test n =
      let (s, h, a) = some_possible r trace k in
      state_meets (last r) (possible r trace k) (λ i. not (test i)) s h a
      (not_T (test s) (λ t. T_not (met test) n (state_meets (last r) (possible r trace k) test s h a t)))

  -- unknown exactly if it holds under one and not under another
  pub unknown_exactly : (test : ℕ → Bool)
      → (flag (last r) test (possible r trace k) ≡ Unknown) ↔ (Sometimes r trace k test × Sometimes r trace k (λ s. not (test s)))
  unfolding flag
  unknown_exactly test = (
    (λ e. let (a, b) = unknown_both (met test) (met (λ s. not (test s))) (meets_either test) e in (meets_some test a, meets_some (λ s. not (test s)) b)),
    (λ w. ap₂ flag_of (is_true (met test) (some_meets test w.0.0 w.0.2))
        (is_true (met (λ s. not (test s))) (some_meets (λ s. not (test s)) w.1.0 w.1.2))),
  )

  -- the tests behind the first ticks
  not_clear_exactly : (test : ℕ → Bool) → T (not_clear (flag (last r) test (possible r trace k))) ↔ Sometimes r trace k test
  unfolding flag
  not_clear_exactly test = (
    (λ t. meets_some test (subst T (flag_not_clear (met test) (met (λ s. not (test s))) (meets_either test)) t)),
    (λ w. subst T (sym (flag_not_clear (met test) (met (λ s. not (test s))) (meets_either test))) (some_meets test w.0 w.2)),
  )

  is_held_exactly : (test : ℕ → Bool) → T (is_held (flag (last r) test (possible r trace k))) ↔ Always r trace k test
  is_held_exactly test = (
    (λ t. (held_exactly test).0 (is_held_held (flag (last r) test (possible r trace k)) t)),
    (λ all. subst (λ b. T (is_held b)) (sym ((held_exactly test).1 all)) tt),
  )

-- v is the first of the n ticks from i on with a property, or there is none and v is 4,294,967,295
abbrev Found : ℕ → ℕ → (ℕ → Type 0) → ℕ → Type 0
Found i n P v =
    ((i ≤ v) × (v < i + n) × P v × ((u : ℕ) → i ≤ u → u < v → ¬ P u))
    ⊎ ((v ≡ 0xFFFFFFFF) × ((u : ℕ) → i ≤ u → u < i + n → ¬ P u))

first_found : (i n : ℕ) (test : ℕ → Bool) → Found i n (λ t. T (test t)) (first_from i n test)
unfolding first_from
first_found i zero test = inr (refl, λ u h l t. omega arith)
first_found i (suc n) test = go (test i) refl (first_from (suc i) n test) (first_found (suc i) n test)
  where
    past : test i ≡ false → (u : ℕ) → i ≤ u → (suc i ≤ u → ¬ T (test u)) → ¬ T (test u)
    past e u h k t = ⊎_elim (λ z. subst (λ b. T b) e (subst (λ j. T (test j)) (sym z) t)) (λ l. k l t) (eq-or-lt_of_le h)

    go : (b : Bool) → test i ≡ b → (v : ℕ) → Found (suc i) n (λ t. T (test t)) v → Found i (suc n) (λ t. T (test t)) (cond b i v)
    go true e v ih = inl (omega arith, omega arith, subst T (sym e) tt, λ u h l. absurd (omega arith))
    go false e v (inl (a, b, c, d)) = inl (omega arith, omega arith, c, λ u h l. past e u h (λ k. d u k l))
    go false e v (inr (a, b)) = inr (a, λ u h l. past e u h (λ k. b u k (omega arith)))

first_of : (n : ℕ) (test : ℕ → Bool) (P : ℕ → Type 0) → ((t : ℕ) → T (test t) ↔ P t) → First n P (first_from 0 n test)
first_of n test P iff = go (first_found 0 n test)
  where
    go : Found 0 n (λ t. T (test t)) (first_from 0 n test) → First n P (first_from 0 n test)
    go (inl (a, b, c, d)) = inl (omega arith, (iff (first_from 0 n test)).0 c, λ u l p. d u (omega arith) l ((iff u).1 p))
    go (inr (a, b)) = inr (a, λ u l p. b u (omega arith) (omega arith) ((iff u).1 p))

-- The report's two first ticks, over the n ticks of a trace.
module _ (r : Rule) (ok : Sound r) (trace : ℕ → Shown) (n : ℕ) where
  pub first_possible_right : First n (λ t. Sometimes r trace (suc t) (status (last r))) (first_possible r trace n)
  first_possible_right =
      first_of n (λ t. not_clear (status_flag r trace (suc t))) (λ t. Sometimes r trace (suc t) (status (last r)))
      (λ t. not_clear_exactly r ok trace (suc t) (status (last r)))

  pub first_held_right : First n (λ t. Always r trace (suc t) (status (last r))) (first_held r trace n)
  first_held_right =
      first_of n (λ t. is_held (status_flag r trace (suc t))) (λ t. Always r trace (suc t) (status (last r)))
      (λ t. is_held_exactly r ok trace (suc t) (status (last r)))
