use Prim.Native.Nat.{ℕ}
use mathlib.Core.Path.{ap}
use mathlib.Core.List.{[], ◌∷◌}
use Rattle.report.proofs.Puts.{put_one, put_as}
use Rattle.report.proofs.parts.put_flag.Goals as goal

pub returns : goal.returns
returns c = put_as (put_one _ _ _ c.requires) (ap (λ (x : ℕ). x ∷ []) c.number.ensures)
