use mathlib.Core.Path.{sym, ◌∙◌}
use mir.Syntax.{w16}
use mir.ValLaws.{to_z-of_z}
use Rattle.live.specs.State.{with_sample}
use Rattle.live.proofs.Stepping.{refused_call, no_sample}
use Rattle.live.proofs.sample.Goals as goal

pub take_sample-requires : goal.take_sample-requires
take_sample-requires c = sym c.is_good.ensures ∙ c.if-is_good.true

pub returns-then-is_good : goal.returns-then-is_good
returns-then-is_good c = let t = rw (to_z-of_z w16 c.args.current c.ranges.current, to_z-of_z w16 c.args.board c.ranges.board) at c.take_sample.ensures in record { answer = t.answer; state = t.state }

pub returns : goal.returns
returns c = let p = refused_call (with_sample _ _) c.refuse.ensures (no_sample _ _ _ (sym c.is_good.ensures ∙ c.if-is_good.false)) in record { answer = p.0; state = p.1 }
