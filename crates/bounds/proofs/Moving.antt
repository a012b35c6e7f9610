-- The loop over all rules that moves both halves of the states by a tick's marks.
use Prim.Native.Nat.{ℕ, ◌+◌, ◌<◌}
use native.Mathlib.Omega.{arith}
use mathlib.Core.Path.{◌≡◌, refl, ap, ap₂, sym, ◌∙◌}
use mathlib.Core.Bool.{Bool, false, ◌||◌}
use mathlib.Core.List.{List}
use lib.ListN.{get_or, length, set}
use Rattle.lists.specs.Lists.{some_below}
use Rattle.lists.proofs.Bools.{get_d_tabulate}
use Rattle.lists.proofs.Laying.{laying_end, some_more}
use Rattle.bounds.specs.Firsts.{rises}
use Rattle.bounds.specs.declared.marks.Marks.{Marks}
use Rattle.bounds.specs.inner.Marks.{moved_by, half_moved, either_rises}
use Rattle.bounds.proofs.Halves.{Turning, turning_start, turning_next}

module _ (marks : Marks) (lanes : List ℕ) (even : Bool) where
  abbrev moves : List ℕ → ℕ → ℕ
  moves xs₀ j = moved_by marks lanes even j (get_or xs₀ j 0)

  at_half : (xs₀ : List ℕ) (i : ℕ) → i < 16 → get_or (half_moved marks lanes even xs₀) i 0 ≡ moves xs₀ i
  unfolding half_moved
  at_half xs₀ i h = get_d_tabulate 16 (moves xs₀) 0 i h

  -- The states of the rules below i are moved, and whether one of them comes to its top.
  pub record Moving (ls₀ ls gs₀ gs : List ℕ) (any : Bool) (i : ℕ) : Type 0 where
    pub least : Turning (moves ls₀) ls₀ ls i
    pub greatest : Turning (moves gs₀) gs₀ gs i
    pub rising : any ≡ some_below i (either_rises lanes ls₀ (half_moved marks lanes even ls₀) gs₀ (half_moved marks lanes even gs₀))

  module _ (ls₀ gs₀ : List ℕ) where
    pub moving_start : length ls₀ ≡ 16 → length gs₀ ≡ 16 → Moving ls₀ ls₀ gs₀ gs₀ false 0
    moving_start l g = record { least = turning_start (moves ls₀) ls₀ l; greatest = turning_start (moves gs₀) gs₀ g; rising = refl }

    module _ {ls gs : List ℕ} {any : Bool} {i : ℕ} (m : Moving ls₀ ls gs₀ gs any i) where
      pub moving_next : (y z : ℕ) (r s : Bool) → i < 16
          → y ≡ moved_by marks lanes even i (get_or ls i 0) → r ≡ rises (get_or lanes i 0) (get_or ls i 0) y
          → z ≡ moved_by marks lanes even i (get_or gs i 0) → s ≡ rises (get_or lanes i 0) (get_or gs i 0) z
          → Moving ls₀ (set ls i y) gs₀ (set gs i z) (any || (r || s)) (i + 1)
      moving_next y z r s h ey er ez es =
          let l : get_or ls i 0 ≡ get_or ls₀ i 0 = m.least.rest i (omega arith) in
          let g : get_or gs i 0 ≡ get_or gs₀ i 0 = m.greatest.rest i (omega arith) in
          let ey' : y ≡ moves ls₀ i = ey ∙ ap (moved_by marks lanes even i) l in
          let ez' : z ≡ moves gs₀ i = ez ∙ ap (moved_by marks lanes even i) g in
          record {
            least = turning_next (moves ls₀) ls₀ y m.least h ey';
            greatest = turning_next (moves gs₀) gs₀ z m.greatest h ez';
            rising = some_more i (either_rises lanes ls₀ (half_moved marks lanes even ls₀) gs₀ (half_moved marks lanes even gs₀)) m.rising
                (ap₂ ◌||◌ (er ∙ ap₂ (rises (get_or lanes i 0)) l (ey' ∙ sym (at_half ls₀ i h))) (es ∙ ap₂ (rises (get_or lanes i 0)) g (ez' ∙ sym (at_half gs₀ i h))));
          }

      pub moving_end : i ≡ 16 → (ls ≡ half_moved marks lanes even ls₀) × (gs ≡ half_moved marks lanes even gs₀) × (any ≡ some_below 16 (either_rises lanes ls₀ ls gs₀ gs))
      unfolding half_moved
      moving_end e =
          let l = laying_end 0 16 (moves ls₀) m.least.laid (omega (arith, e)) in
          let g = laying_end 0 16 (moves gs₀) m.greatest.laid (omega (arith, e)) in (
            l,
            g,
            m.rising ∙ ap (λ (k : ℕ). some_below k (either_rises lanes ls₀ (half_moved marks lanes even ls₀) gs₀ (half_moved marks lanes even gs₀))) e
                ∙ ap₂ (λ (x y : List ℕ). some_below 16 (either_rises lanes ls₀ x gs₀ y)) (sym l) (sym g),
          )
