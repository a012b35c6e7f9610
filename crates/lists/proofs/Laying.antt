-- A loop that sets the entries of a list, one after the other.
use Prim.Native.Nat.{ℕ, zero, suc, ◌+◌, ◌≤◌, ◌<◌}
use native.Mathlib.Omega.{arith}
use native.Mathlib.Numerals.{add-one}
use mathlib.Core.Path.{◌≡◌, refl, ap, ap₂, sym, ◌∙◌}
use mathlib.Core.Bool.{Bool, true, false, ◌||◌}
use mathlib.Core.List.{List}
use lib.ListN.{get_or, length, set, length-set}
use lib.Seq.{ext_get_or, get_or-set_same, get_or-set_other}
use borrow.Author.Count.{below_more}
use Rattle.lists.specs.Lists.{tabulate, some_below}
use Rattle.lists.proofs.Bools.{length_tabulate, get_d_tabulate}

-- The entries below i are those of f.
pub record Laying {A : Type 0} (d : A) (n : ℕ) (f : ℕ → A) (xs : List A) (i : ℕ) : Type 0 where
  pub within : i ≤ n
  pub long : length xs ≡ n
  pub done : (j : ℕ) → j < i → get_or xs j d ≡ f j

module _ {A : Type 0} (d : A) (n : ℕ) (f : ℕ → A) where
  pub laying_start : (xs : List A) → length xs ≡ n → Laying d n f xs 0
  laying_start xs l = record { within = omega arith; long = l; done = λ j h. absurd (omega arith) }

  pub laying_next : {xs : List A} {i : ℕ} (a : A) → Laying d n f xs i → i < n → a ≡ f i → Laying d n f (set xs i a) (i + 1)
  laying_next {xs} {i} a l h e = record {
    within = omega arith;
    long = length-set xs i a ∙ l.long;
    done = below_more _ i (λ j k. get_or-set_other xs i j a d (λ z. omega arith) ∙ l.done j k) (get_or-set_same xs i a d (omega (arith, l.long)) ∙ e);
  }

  pub laying_end : {xs : List A} {i : ℕ} → Laying d n f xs i → n ≤ i → xs ≡ tabulate n f
  laying_end {xs} l h =
      ext_get_or d xs (tabulate n f) (l.long ∙ sym (length_tabulate n f))
      (λ j k. let g : j < n = omega (arith, l.long) in l.done j (omega arith) ∙ sym (get_d_tabulate n f d j g))

or_assoc : (a b c : Bool) → (a || (b || c)) ≡ ((a || b) || c)
or_assoc true b c = refl
or_assoc false b c = refl

-- A test of some number below n + 1.
some_last : (n : ℕ) (f : ℕ → Bool) → some_below (suc n) f ≡ (some_below n f || f n)
some_last zero f = go (f 0)
  where
    go : (b : Bool) → (b || false) ≡ b
    go true = refl
    go false = refl
some_last (suc n) f = ap (f 0 ||◌) (some_last n (λ i. f (suc i))) ∙ or_assoc (f 0) (some_below n (λ i. f (suc i))) (f (suc n))

pub some_more : (n : ℕ) (f : ℕ → Bool) {a b : Bool} → a ≡ some_below n f → b ≡ f n → (a || b) ≡ some_below (n + 1) f
some_more n f e e' = ap₂ ◌||◌ e e' ∙ sym (some_last n f) ∙ ap (λ k. some_below k f) (sym (add-one n))
