-- The first of some ticks at which a test holds: how it is known, of ticks in two parts, of one tick more, and of tests that agree.
use Prim.Native.Nat.{ℕ, zero, suc, ◌+◌, ◌≤◌, ◌<◌}
use native.Mathlib.Omega.{arith}
use native.Mathlib.Nat.{eq-or-lt_of_le}
use mathlib.Core.Path.{◌≡◌, refl, ap, ap₂, sym, ◌∙◌, subst}
use mathlib.Core.Logic.{⊎_elim}
use mathlib.Core.Bool.{Bool, true, false, cond}
use lib.Dec.{T, eqb}
use borrow.Author.Tests.{ne_eqb, eqb-true}
use Rattle.std.specs.Bool.{then_some}
use Rattle.std.specs.Option.{unwrap_or}
use Rattle.fillings.specs.Flags.{first_from}
use Rattle.bounds.specs.Firsts.{none, noted}

-- A first tick once found stays.
pub noted_found : (found first : ℕ) → first < none → noted found first ≡ first
noted_found found first h = ap (λ (b : Bool). cond b found first) (ne_eqb first none (λ e. omega arith))

-- Where nothing is found nothing changes.
pub noted_same : (first : ℕ) → noted none first ≡ first
noted_same first = go (eqb first none) refl
  where
    go : (b : Bool) → eqb first none ≡ b → cond b none first ≡ first
    go true e = sym (eqb-true first none e)
    go false e = refl

-- A tick that is found or not, as a number.
pub found_or_none : (b : Bool) (tick : ℕ) → unwrap_or (then_some b tick) none ≡ cond b tick none
found_or_none true tick = refl
found_or_none false tick = refl

-- The first of the c ticks from i on, of which a come first and n follow from j on.
pub first_parts : (i a n c j : ℕ) (test : ℕ → Bool) → c ≡ a + n → j ≡ i + a → j ≤ none
    → first_from i c test ≡ noted (first_from j n test) (first_from i a test)
unfolding first_from
first_parts i zero n c j test e d h =
    let x : c ≡ n = omega arith in
    let y : i ≡ j = omega arith in
    ap₂ (λ k l. first_from k l test) y x
first_parts i (suc a) n zero j test e d h = absurd (omega arith)
first_parts i (suc a) n (suc c) j test e d h = go (test i) (first_parts (suc i) a n c j test (omega arith) (omega arith) h)
  where
    go : (b : Bool) → first_from (suc i) c test ≡ noted (first_from j n test) (first_from (suc i) a test)
        → cond b i (first_from (suc i) c test) ≡ noted (first_from j n test) (cond b i (first_from (suc i) a test))
    go true ih = sym (noted_found (first_from j n test) i (omega arith))
    go false ih = ih

-- One tick more.
pub first_snoc : (k : ℕ) (test : ℕ → Bool) → k < none → first_from 0 (suc k) test ≡ noted (cond (test k) k none) (first_from 0 k test)
unfolding first_from
first_snoc k test h = first_parts 0 k 1 (suc k) k test (omega arith) (omega arith) (omega arith)

-- Only the tests at the n ticks matter.
pub first_same : (i n : ℕ) (f g : ℕ → Bool) → ((t : ℕ) → i ≤ t → t < i + n → f t ≡ g t) → first_from i n f ≡ first_from i n g
unfolding first_from
first_same i zero f g h = refl
first_same i (suc n) f g h =
    ap₂ (λ b k. cond b i k) (h i (omega arith) (omega arith)) (first_same (suc i) n f g (λ t l u. h t (omega arith) (omega arith)))

-- Where the test holds at one of the ticks there is a first one.
pub first_some : (i n u : ℕ) (test : ℕ → Bool) → i ≤ u → u < i + n → u < none → T (test u) → first_from i n test < none
unfolding first_from
first_some i zero u test l h m t = absurd (omega arith)
first_some i (suc n) u test l h m t = go (test i) refl (λ l'. first_some (suc i) n u test l' (omega arith) m t)
  where
    go : (b : Bool) → test i ≡ b → (suc i ≤ u → first_from (suc i) n test < none) → cond b i (first_from (suc i) n test) < none
    go true e later = omega arith
    go false e later =
        ⊎_elim (λ z. absurd (subst T e (subst (λ j. T (test j)) (sym z) t))) later (eq-or-lt_of_le l)

-- v is the first of the n ticks from a on at which the test holds.
pub record Found (a n : ℕ) (test : ℕ → Bool) (v : ℕ) : Type 0 where
  pub from : a ≤ v
  pub within : v < a + n
  pub here : test v ≡ true
  pub before : (u : ℕ) → a ≤ u → u < v → test u ≡ false

-- The test holds at none of the n ticks from a on.
abbrev pub Missing : ℕ → ℕ → (ℕ → Bool) → Type 0
Missing a n test = (u : ℕ) → a ≤ u → u < a + n → test u ≡ false

module _ (test : ℕ → Bool) where
  at_first : (a n : ℕ) (b : Bool) → test a ≡ b → first_from a (suc n) test ≡ cond b a (first_from (suc a) n test)
  unfolding first_from
  at_first a n b e = ap (λ (x : Bool). cond x a (first_from (suc a) n test)) e

  pub is_found : (a n v : ℕ) → Found a n test v → first_from a n test ≡ v
  is_found a zero v f = let l : v < a + 0 = f.within in let k : a ≤ v = f.from in absurd (omega arith)
  is_found a (suc n) v f =
      let k : a ≤ v = f.from in
      let l : v < a + suc n = f.within in
      ⊎_elim
      (λ e. at_first a n true (ap test e ∙ f.here) ∙ e)
      (λ h. at_first a n false (f.before a (omega arith) h)
      ∙ is_found (suc a) n v (record { from = h; within = omega arith; here = f.here; before = λ u g. f.before u (omega arith) }))
      (eq-or-lt_of_le k)

  pub is_missing : (a n : ℕ) → Missing a n test → first_from a n test ≡ none
  unfolding first_from
  is_missing a zero f = refl
  is_missing a (suc n) f =
      at_first a n false (f a (omega arith) (omega arith)) ∙ is_missing (suc a) n (λ u h l. f u (omega arith) (omega arith))
