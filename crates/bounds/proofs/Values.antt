-- What the rules read of a sample, rule by rule.
use Prim.Native.Nat.{◌-◌}
use mathlib.Core.Path.{◌≡◌, refl, ap, ◌∙◌}
use mathlib.Core.List.{[], ◌∷◌}
use lib.IntN.{ℤ, pos}
use mir.Syntax.{Width, w32}
use mir.Val.{to_z, of_z, SFits}
use mir.Facts.{to_z-of_z}
use Rattle.rules.specs.declared.Readings.{Readings}
use Rattle.rules.specs.declared.Side.TheVariants.{Low}
use Rattle.rules.specs.Quantities.{value}
use Rattle.bounds.specs.Plan.{along}
use Rattle.bounds.specs.inner.Marks.{values_of}
use Rattle.bounds.proofs.Numbers.{mirror_is}

-- A signed number that a call gave, and one mirrored.
pub told : {w : Width} {z u : ℤ} → SFits w z → z ≡ u → to_z w (of_z w z) ≡ u
told f e = to_z-of_z f ∙ e

pub mirror_told : {z u : ℤ} → SFits w32 z → z ≡ u → to_z w32 (4294967295 - of_z w32 z) ≡ along Low u
mirror_told {z} f e = mirror_is z f ∙ ap (along Low) e

pub values_are : (r : Readings) {high low sum less current drawn warm board cold apart : ℤ}
    → high ≡ pos r.highest_cell → low ≡ along Low (pos r.lowest_cell) → sum ≡ pos r.sum_of_cells → less ≡ along Low (pos r.sum_of_cells)
    → current ≡ r.current → drawn ≡ along Low r.current → warm ≡ r.highest_temp → board ≡ r.board → cold ≡ along Low r.lowest_temp
    → apart ≡ pos (r.highest_cell - r.lowest_cell)
    → (high ∷ low ∷ sum ∷ less ∷ current ∷ drawn ∷ warm ∷ warm ∷ board ∷ cold ∷ high ∷ current ∷ drawn ∷ warm ∷ warm ∷ apart ∷ []) ≡ values_of r
unfolding values_of value
values_are r h l s s' c c' t b lt d = rw (h, l, s, s', c, c', t, b, lt, d) refl
