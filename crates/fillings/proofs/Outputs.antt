-- What an output reads held or clear is so under every filling.
use Prim.Native.Nat.{ℕ, zero, suc, ◌<◌}
use native.Mathlib.Omega.{arith}
use mathlib.Core.Path.{◌≡◌, refl}
use mathlib.Core.Bool.{Bool, true, false, not, cond, ◌||◌}
use mathlib.Core.List.{List, [], ◌∷◌}
use lib.Dec.{T}
use Rattle.lists.specs.Lists.{tabulate}
use Rattle.lists.proofs.Bools.{or_left, or_right}
use Rattle.rules.specs.declared.Row.{Row}
use Rattle.rules.specs.Table.{rows}
use Rattle.rules.specs.Evaluation.{status}
use Rattle.flags.specs.declared.Flag.{Flag}
use Rattle.flags.specs.declared.Flag.TheVariants.{Clear, Held, Unknown}
use Rattle.flags.specs.Flags.{with_next}
use Rattle.flags.specs.Outputs.{output_of, active_of}
use Rattle.fillings.specs.Fillings.{Shown, Config, SoundConfig, rule_of, last, after}
use Rattle.fillings.specs.Flags.{status_flag}
use Rattle.fillings.specs.promises.Demand3.{OutputSound}
use Rattle.fillings.proofs.Flags.{held_exactly, clear_exactly}

neither : (a b : Bool) → T (not a) → T (not b) → T (not (a || b))
neither true b s t = s
neither false b s t = t

one_held : {X : Type 0} (a b : Flag) → with_next a b ≡ Held → (a ≡ Held → X) → (b ≡ Held → X) → X
one_held Clear b e f g = g e
one_held Held b e f g = f refl
one_held Unknown Clear e f g = let z : ◌≡◌ {A = ℕ} 0 1 = cc in absurd (omega arith)
one_held Unknown Held e f g = g refl
one_held Unknown Unknown e f g = let z : ◌≡◌ {A = ℕ} 0 1 = cc in absurd (omega arith)

both_clear : (a b : Flag) → with_next a b ≡ Clear → (a ≡ Clear) × (b ≡ Clear)
both_clear Clear b e = (refl, e)
both_clear Held b e = let z : ◌≡◌ {A = ℕ} 0 1 = cc in absurd (omega arith)
both_clear Unknown Clear e = let z : ◌≡◌ {A = ℕ} 0 1 = cc in absurd (omega arith)
both_clear Unknown Held e = let z : ◌≡◌ {A = ℕ} 0 1 = cc in absurd (omega arith)
both_clear Unknown Unknown e = let z : ◌≡◌ {A = ℕ} 0 1 = cc in absurd (omega arith)

driven_held : (d : Bool) (f o : Flag) (b c : Bool) → (f ≡ Held → T b) → (o ≡ Held → T c) → cond d (with_next f o) o ≡ Held → T (cond d (b || c) c)
driven_held true f o b c h k e = one_held f o e (λ u. or_left b c (h u)) (λ u. or_right b c (k u))
driven_held false f o b c h k e = k e

driven_clear : (d : Bool) (f o : Flag) (b c : Bool) → (f ≡ Clear → T (not b)) → (o ≡ Clear → T (not c))
    → cond d (with_next f o) o ≡ Clear → T (not (cond d (b || c) c))
driven_clear true f o b c h k e = let (u, v) = both_clear f o e in neither b c (h u) (k v)
driven_clear false f o b c h k e = k e

module _ (drives : Row → Bool) where
  output_held : (rs : List Row) (n : ℕ) (f : ℕ → Flag) (b : ℕ → Bool) → ((i : ℕ) → i < n → f i ≡ Held → T (b i))
      → output_of drives rs (tabulate n f) ≡ Held → T (active_of drives rs (tabulate n b))
  unfolding output_of active_of
  output_held [] n f b h e = let z : ◌≡◌ {A = ℕ} 0 1 = cc in absurd (omega arith)
  output_held (row ∷ rs) zero f b h e = let z : ◌≡◌ {A = ℕ} 0 1 = cc in absurd (omega arith)
  output_held (row ∷ rs) (suc n) f b h e =
      driven_held (drives row) (f 0) _ (b 0) _ (h 0 (omega arith)) (output_held rs n (λ i. f (suc i)) (λ i. b (suc i)) (λ i l. h (suc i) (omega arith))) e

  output_clear : (rs : List Row) (n : ℕ) (f : ℕ → Flag) (b : ℕ → Bool) → ((i : ℕ) → i < n → f i ≡ Clear → T (not (b i)))
      → output_of drives rs (tabulate n f) ≡ Clear → T (not (active_of drives rs (tabulate n b)))
  unfolding output_of active_of
  output_clear [] n f b h e = tt
  output_clear (row ∷ rs) zero f b h e = tt
  output_clear (row ∷ rs) (suc n) f b h e =
      driven_clear (drives row) (f 0) _ (b 0) _ (h 0 (omega arith)) (output_clear rs n (λ i. f (suc i)) (λ i. b (suc i)) (λ i l. h (suc i) (omega arith))) e

pub output_sound : (drives : Row → Bool) (p : Config) → SoundConfig p → (trace : ℕ → Shown) → OutputSound drives p trace
output_sound drives p ok trace =
    record {
      when_held = λ k f fills. output_held drives rows 16 (λ i. status_flag (rule_of p i) trace k) (λ i. status (last (rule_of p i)) (after (rule_of p i) trace f k)) (λ i l e. (held_exactly (rule_of p i) (ok i l) trace k (status (last (rule_of p i)))).0 e f fills);
      when_clear = λ k f fills. output_clear drives rows 16 (λ i. status_flag (rule_of p i) trace k) (λ i. status (last (rule_of p i)) (after (rule_of p i) trace f k)) (λ i l e. (clear_exactly (rule_of p i) (ok i l) trace k (status (last (rule_of p i)))).0 e f fills);
    }
