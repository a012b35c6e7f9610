use mathlib.Core.Path.{sym, ◌∙◌}
use Rattle.live.specs.State.{with_hole}
use Rattle.live.proofs.Stepping.{refused_call, no_hole}
use Rattle.live.proofs.hole.Goals as goal

pub take_hole-requires : goal.take_hole-requires
take_hole-requires c = sym c.is_good.ensures ∙ c.if-is_good.true

pub returns : goal.returns
returns c = let p = refused_call (with_hole _ _) c.refuse.ensures (no_hole _ _ (sym c.is_good.ensures ∙ c.if-is_good.false)) in record { answer = p.0; state = p.1 }
