use Prim.Native.Nat.{ℕ, ◌≤◌}
use mathlib.Core.Path.{sym, subst}
use Rattle.states.proofs.Tops.{top_fits}
use Rattle.states.proofs.words.top_for.Goals as goal

pub returns : goal.returns
returns c = (c.top_of.ensures, subst (λ (m : ℕ). m ≤ 256) (sym c.top_of.ensures) (top_fits c.args.time c.ranges.time.fits))
