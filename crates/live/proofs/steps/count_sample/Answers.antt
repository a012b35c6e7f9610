use mathlib.Core.Path.{ap, ◌∙◌}
use mir.Syntax.{w16}
use mir.ValLaws.{to_z-of_z}
use Rattle.fillings.specs.Charge.{inward, outward}
use Rattle.live.proofs.Stepping.{sample_counted}
use Rattle.live.proofs.steps.count_sample.Goals as goal

pub returns : goal.returns
returns c = let e = to_z-of_z w16 c.args.current c.ranges.current in
    sample_counted c.args.counted c.args.current (c.inward_of.ensures.0 ∙ ap inward e) (c.outward_of.ensures.0 ∙ ap outward e)
