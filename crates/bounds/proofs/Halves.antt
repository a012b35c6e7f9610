-- Two halves of sixteen lanes, the least states and the greatest, and a loop over one half.
use Prim.Native.Nat.{ℕ, zero, suc, ◌+◌, ◌-◌, ◌≤◌, ◌<◌}
use native.Mathlib.Omega.{arith}
use mathlib.Core.Path.{◌≡◌, refl, ap, ap₂, sym, ◌∙◌}
use mathlib.Core.Bool.{Bool, ◌||◌}
use mathlib.Core.List.{List, ◌++◌}
use lib.ListN.{get_or, length, set, take, drop, get_or-append}
use lib.Seq.{get_or-set_other, get_or-append_right}
use Rattle.std.proofs.lemmas.List.{get_or-take, get_or-drop}
use Rattle.lists.specs.Lists.{tabulate, some_below}
use Rattle.lists.proofs.Laying.{Laying, laying_start, laying_next, laying_end}
use Rattle.bounds.specs.Lanes.{paired}

-- The lanes of f and of g, one after the other.
pub halves : {A : Type 0} (f g : ℕ → A) → tabulate 16 f ++ tabulate 16 g ≡ paired f g
unfolding paired
halves f g = refl

-- A list of lanes, in halves.
pub record Halved (xs low high : List ℕ) : Type 0 where
  pub low_at : (i : ℕ) → i < 16 → get_or low i 0 ≡ get_or xs i 0
  pub high_at : (i : ℕ) → get_or high i 0 ≡ get_or xs (16 + i) 0

pub joined : (low high : List ℕ) → length low ≡ 16 → Halved (low ++ high) low high
joined low high l = record {
  low_at = λ i h. sym (get_or-append low high 0 i (omega (arith, l)));
  high_at = λ i. let k : 16 + i - length low ≡ i = omega (arith, l) in
      sym (get_or-append_right low high (16 + i) 0 (omega (arith, l)) ∙ ap (λ n. get_or high n 0) k);
}

pub taken : {xs low high : List ℕ} → low ≡ take 16 xs → high ≡ drop 16 xs → Halved xs low high
taken {xs} e f = record {
  low_at = λ i h. ap (λ (s : List ℕ). get_or s i 0) e ∙ get_or-take 16 xs i 0 h;
  high_at = λ i. ap (λ (s : List ℕ). get_or s i 0) f ∙ get_or-drop 16 xs i 0;
}

-- The entries below i are those of f, which may read what stood there; the others are as they came.
pub record Turning (f : ℕ → ℕ) (xs₀ xs : List ℕ) (i : ℕ) : Type 0 where
  pub laid : Laying 0 16 f xs i
  pub rest : (j : ℕ) → i ≤ j → get_or xs j 0 ≡ get_or xs₀ j 0

module _ (f : ℕ → ℕ) (xs₀ : List ℕ) where
  pub turning_start : length xs₀ ≡ 16 → Turning f xs₀ xs₀ 0
  turning_start l = record { laid = laying_start 0 16 f xs₀ l; rest = λ j h. refl }

  pub turning_next : {xs : List ℕ} {i : ℕ} (a : ℕ) → Turning f xs₀ xs i → i < 16 → a ≡ f i → Turning f xs₀ (set xs i a) (i + 1)
  turning_next {xs} {i} a t h e = record {
    laid = laying_next 0 16 f a t.laid h e;
    rest = λ j l. get_or-set_other xs i j a 0 (λ z. omega arith) ∙ t.rest j (omega arith);
  }

-- A list is that of its entries.
pub tabulated : (n : ℕ) (xs : List ℕ) → length xs ≡ n → xs ≡ tabulate n (λ i. get_or xs i 0)
tabulated n xs l = laying_end 0 n (λ i. get_or xs i 0) {i = n} (record { within = omega arith; long = l; done = λ j h. refl }) (omega arith)

-- Tests that agree.
pub some_same : (n : ℕ) (f g : ℕ → Bool) → ((i : ℕ) → i < n → f i ≡ g i) → some_below n f ≡ some_below n g
some_same zero f g h = refl
some_same (suc n) f g h = ap₂ ◌||◌ (h 0 (omega arith)) (some_same n (λ i. f (suc i)) (λ i. g (suc i)) (λ i l. h (suc i) (omega arith)))
