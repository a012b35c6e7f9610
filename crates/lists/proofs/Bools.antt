-- Tests as facts, bounded search, and lists by their numbers.
use Prim.Native.Nat.{ℕ, zero, suc, ◌≤◌, ◌<◌}
use native.Mathlib.Nat.{le_of_suc-le-suc, not-suc-le-zero}
use native.Mathlib.Omega.{arith}
use mathlib.Core.Path.{◌≡◌, refl, ap, ap₂}
use mathlib.Core.Bool.{Bool, true, false, not, ◌&&◌, ◌||◌}
use mathlib.Core.List.{◌∷◌}
use mathlib.Core.Logic.{◌⊎◌, inl, inr, ⊎_elim}
use lib.Dec.{T, ltb, eqb}
use lib.ListN.{get_or, length}
use borrow.Author.Tests.{ltb-true, ltb-false, eqb-true, eqb-false}
use Rattle.lists.specs.Lists.{tabulate, some_below, every_below}

pub and_left : (a b : Bool) → T (a && b) → T a
and_left true b t = tt
and_left false b t = t

pub and_right : (a b : Bool) → T (a && b) → T b
and_right true b t = t
and_right false b t = absurd t

pub both : (a b : Bool) → T a → T b → T (a && b)
both true b s t = t
both false b s t = s

pub three : (a b c : Bool) → T (a && b && c) → T a × T b × T c
three a b c t = (and_left a b (and_left (a && b) c t), and_right a b (and_left (a && b) c t), and_right (a && b) c t)

pub or_left : (a b : Bool) → T a → T (a || b)
or_left true b t = tt
or_left false b t = absurd t

pub or_right : (a b : Bool) → T b → T (a || b)
or_right true b t = tt
or_right false b t = t

pub or_elim {ℓ} : {X : Type ℓ} (a b : Bool) → T (a || b) → (T a → X) → (T b → X) → X
or_elim true b t f g = f tt
or_elim false b t f g = g t

pub is_true : (b : Bool) → T b → b ≡ true
is_true true t = refl
is_true false t = absurd t

pub is_false : (b : Bool) → T (not b) → b ≡ false
is_false true t = absurd t
is_false false t = refl

pub refuted : (b : Bool) → (T b → ⊥) → b ≡ false
refuted true f = absurd (f tt)
refuted false f = refl

pub bool_ext : (a b : Bool) → (T a → T b) → (T b → T a) → a ≡ b
bool_ext true true f g = refl
bool_ext true false f g = absurd (f tt)
bool_ext false true f g = absurd (g tt)
bool_ext false false f g = refl

pub both_true : (a b : Bool) → (a && b) ≡ true → (a ≡ true) × (b ≡ true)
both_true true b h = (refl, h)
both_true false b h = let z : ◌≡◌ {A = ℕ} 0 1 = cc in absurd (omega arith)

pub both_false : (a b : Bool) → (a || b) ≡ false → (a ≡ false) × (b ≡ false)
both_false true b h = let z : ◌≡◌ {A = ℕ} 0 1 = cc in absurd (omega arith)
both_false false b h = (refl, h)

-- Which of two numbers is less.
pub below? : (a b : ℕ) → (a < b) ⊎ (b ≤ a)
below? a b = go (ltb a b) refl
  where
    go : (t : Bool) → ltb a b ≡ t → (a < b) ⊎ (b ≤ a)
    go true e = inl (ltb-true a b e)
    go false e = inr (ltb-false a b e)

pub equal? : (a b : ℕ) → (a ≡ b) ⊎ (a ≡ b → ⊥)
equal? a b = go (eqb a b) refl
  where
    go : (t : Bool) → eqb a b ≡ t → (a ≡ b) ⊎ (a ≡ b → ⊥)
    go true e = inl (eqb-true a b e)
    go false e = inr (eqb-false a b e)

-- By which of two numbers is less.
pub by_order : {X : Type 0} (a b : ℕ) → (a < b → X) → (b ≤ a → X) → X
by_order a b less rest = ⊎_elim less rest (below? a b)

pub some_intro : (n : ℕ) (f : ℕ → Bool) (i : ℕ) → i < n → T (f i) → T (some_below n f)
some_intro zero f i h t = absurd (not-suc-le-zero h)
some_intro (suc n) f zero h t = or_left (f 0) (some_below n (λ j. f (suc j))) t
some_intro (suc n) f (suc i) h t =
    or_right (f 0) (some_below n (λ j. f (suc j))) (some_intro n (λ j. f (suc j)) i (le_of_suc-le-suc h) t)

pub some_elim : (n : ℕ) (f : ℕ → Bool) → T (some_below n f) → (i : ℕ) × (i < n) × T (f i)
some_elim zero f t = absurd t
some_elim (suc n) f t =
    or_elim (f 0) (some_below n (λ j. f (suc j))) t (λ s. (0, omega arith, s))
    (λ s. let r = some_elim n (λ j. f (suc j)) s in (suc r.0, omega arith, r.2))

pub every_intro : (n : ℕ) (f : ℕ → Bool) → ((i : ℕ) → i < n → T (f i)) → T (every_below n f)
every_intro zero f h = tt
every_intro (suc n) f h =
    both (f 0) (every_below n (λ i. f (suc i))) (h 0 (omega arith)) (every_intro n (λ i. f (suc i)) (λ i l. h (suc i) (omega arith)))

pub every_elim : (n : ℕ) (f : ℕ → Bool) → T (every_below n f) → (i : ℕ) → i < n → T (f i)
every_elim zero f t i l = absurd (omega arith)
every_elim (suc n) f t zero l = and_left (f 0) (every_below n (λ i. f (suc i))) t
every_elim (suc n) f t (suc i) l = every_elim n (λ i. f (suc i)) (and_right (f 0) (every_below n (λ i. f (suc i))) t) i (omega arith)

pub length_tabulate {ℓ} : {A : Type ℓ} (n : ℕ) (f : ℕ → A) → length (tabulate n f) ≡ n
length_tabulate zero f = refl
length_tabulate (suc n) f = ap suc (length_tabulate n (λ i. f (suc i)))

pub get_d_tabulate {ℓ} : {A : Type ℓ} (n : ℕ) (f : ℕ → A) (d : A) (i : ℕ) → i < n → get_or (tabulate n f) i d ≡ f i
get_d_tabulate zero f d i h = absurd (omega arith)
get_d_tabulate (suc n) f d zero h = refl
get_d_tabulate (suc n) f d (suc i) h = get_d_tabulate n (λ j. f (suc j)) d i (omega arith)

pub held_below : (n : ℕ) (f : ℕ → Bool) (i : ℕ) → T (get_or (tabulate n f) i false) → i < n
held_below zero f i t = absurd t
held_below (suc n) f zero t = omega arith
held_below (suc n) f (suc i) t = let h = held_below n (λ j. f (suc j)) i t in omega arith

pub tabulate_same : {A : Type 0} (n : ℕ) (f g : ℕ → A) → ((i : ℕ) → i < n → f i ≡ g i) → tabulate n f ≡ tabulate n g
tabulate_same zero f g h = refl
tabulate_same (suc n) f g h =
    ap₂ ◌∷◌ (h 0 (omega arith)) (tabulate_same n (λ i. f (suc i)) (λ i. g (suc i)) (λ i l. h (suc i) (omega arith)))
