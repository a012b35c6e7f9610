use mathlib.Core.Path.{sym, ap, ◌∙◌}
use Rattle.refusals.specs.Refusals.{answer}
use Rattle.rules.specs.Table.{rows}
use Rattle.flags.specs.Flags.{number_of}
use Rattle.flags.specs.Outputs.{output_of, drivers, statuses_of}
use Rattle.live.proofs.output.Goals as goal

pub returns-then-is_good : goal.returns-then-is_good
returns-then-is_good c = let g = sym c.is_good.ensures ∙ c.if-is_good.true in
    rw g (ap answer (c.output_of.ensures ∙ ap (λ fs. number_of (output_of (drivers c.args.o) rows (statuses_of fs))) c.flags-flags.ensures))

pub returns : goal.returns
returns c = let g = sym c.is_good.ensures ∙ c.if-is_good.false in
    rw g
