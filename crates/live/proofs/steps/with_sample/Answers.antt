use mathlib.Core.Path.{ap, ◌∙◌}
use mir.Syntax.{w16}
use mir.ValLaws.{to_z-of_z}
use Rattle.live.specs.inner.Steps.{count_sample}
use native.Mathlib.Omega.{arith}
use Rattle.live.proofs.GoodStates.{parts, counted}
use Rattle.live.proofs.Stepping.{sample_state_lem}
use Rattle.live.proofs.steps.with_sample.Goals as goal

pub count_sample-requires : goal.count_sample-requires
count_sample-requires c = let t = counted c.args.state.totals (parts c.args.state c.requires.0).counts in
    let h = c.requires.1 in
    (omega arith, omega arith, h)

pub returns : goal.returns
returns c x e r = sample_state_lem c.args.state x c.seen.result c.count_sample.result e r c.seen.ensures
    (c.count_sample.ensures ∙ ap (count_sample c.args.state.totals) (to_z-of_z w16 c.args.current c.ranges.current))
