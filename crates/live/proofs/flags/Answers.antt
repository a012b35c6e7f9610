use mathlib.Core.Path.{sym, ◌∙◌}
use Rattle.live.proofs.flags.Goals as goal

pub returns-then-is_good : goal.returns-then-is_good
returns-then-is_good c = let g = sym c.is_good.ensures ∙ c.if-is_good.true in record { answer = rw g; flags = rw g c.flags.ensures }

pub returns : goal.returns
returns c = let g = sym c.is_good.ensures ∙ c.if-is_good.false in record { answer = rw g; flags = rw g }
