-- Paper 01, 'Three-way outputs': an output is held exactly if one of its drivers is, and clear exactly if all are.
use mathlib.Core.Path.{◌≡◌, refl, subst}
use mathlib.Core.Bool.{Bool, true, false, cond}
use mathlib.Core.List.{List, [], ◌∷◌}
use mathlib.Core.Logic.{◌↔◌, ◌⊎◌, inl, inr, ⊎_elim}
use native.Mathlib.Omega.{arith}
use lib.Dec.{T, eqb, eqb_refl}
use Rattle.rules.specs.declared.Row.{Row}
use Rattle.flags.specs.declared.Flag.{Flag}
use Rattle.flags.specs.declared.Flag.TheVariants.{Clear, Held, Unknown}
use Rattle.flags.specs.Flags.{number_of, with_next}
use Rattle.flags.specs.Outputs.{output_of, SomeDriver, EveryDriver}

-- The number tells the flag.
pub by_number : (f g : Flag) → number_of f ≡ number_of g → f ≡ g
by_number Clear Clear e = refl
by_number Clear Held e = absurd (omega (arith, e))
by_number Clear Unknown e = absurd (omega (arith, e))
by_number Held Clear e = absurd (omega (arith, e))
by_number Held Held e = refl
by_number Held Unknown e = absurd (omega (arith, e))
by_number Unknown Clear e = absurd (omega (arith, e))
by_number Unknown Held e = absurd (omega (arith, e))
by_number Unknown Unknown e = refl

same_number : {f g : Flag} → f ≡ g → T (eqb (number_of f) (number_of g))
same_number {f} e = subst (λ (g : Flag). T (eqb (number_of f) (number_of g))) e (eqb_refl (number_of f))

held_step : (b : Bool) (f rest : Flag) (S : Type 0) → (rest ≡ Held) ↔ S → (cond b (with_next f rest) rest ≡ Held) ↔ ((T b × (f ≡ Held)) ⊎ S)
held_step false f rest S (to, back) = (λ e. inr (to e), ⊎_elim (λ w. absurd w.0) back)
held_step true Clear rest S (to, back) = (λ e. inr (to e), ⊎_elim (λ w. absurd (same_number w.1)) back)
held_step true Held rest S (to, back) = (λ e. inl (tt, refl), λ w. refl)
held_step true Unknown Clear S (to, back) = (λ e. absurd (same_number e), ⊎_elim (λ w. w.1) (λ s. absurd (same_number (back s))))
held_step true Unknown Held S (to, back) = (λ e. inr (to refl), λ w. refl)
held_step true Unknown Unknown S (to, back) = (λ e. inr (to e), ⊎_elim (λ w. w.1) back)

clear_step : (b : Bool) (f rest : Flag) (S : Type 0) → (rest ≡ Clear) ↔ S → (cond b (with_next f rest) rest ≡ Clear) ↔ ((T b → f ≡ Clear) × S)
clear_step false f rest S (to, back) = (λ e. (λ t. absurd t, to e), λ w. back w.1)
clear_step true Clear rest S (to, back) = (λ e. (λ t. refl, to e), λ w. back w.1)
clear_step true Held rest S (to, back) = (λ e. absurd (same_number e), λ w. w.0 tt)
clear_step true Unknown Clear S (to, back) = (λ e. (λ t. e, to refl), λ w. w.0 tt)
clear_step true Unknown Held S (to, back) = (λ e. absurd (same_number e), λ w. back w.1)
clear_step true Unknown Unknown S (to, back) = (λ e. (λ t. e, to e), λ w. w.0 tt)

pub held_by_one_lem : (drives : Row → Bool) (rows : List Row) (fs : List Flag) → (output_of drives rows fs ≡ Held) ↔ SomeDriver drives (λ f. f ≡ Held) rows fs
unfolding output_of SomeDriver
held_by_one_lem drives [] fs = (same_number, λ w. absurd w)
held_by_one_lem drives (row ∷ rows) [] = (same_number, λ w. absurd w)
held_by_one_lem drives (row ∷ rows) (f ∷ fs) = held_step (drives row) f (output_of drives rows fs) _ (held_by_one_lem drives rows fs)

pub clear_by_all_lem : (drives : Row → Bool) (rows : List Row) (fs : List Flag) → (output_of drives rows fs ≡ Clear) ↔ EveryDriver drives (λ f. f ≡ Clear) rows fs
unfolding output_of EveryDriver
clear_by_all_lem drives [] fs = (λ e. tt, λ w. refl)
clear_by_all_lem drives (row ∷ rows) [] = (λ e. tt, λ w. refl)
clear_by_all_lem drives (row ∷ rows) (f ∷ fs) = clear_step (drives row) f (output_of drives rows fs) _ (clear_by_all_lem drives rows fs)
