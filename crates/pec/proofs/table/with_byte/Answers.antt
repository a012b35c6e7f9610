use mathlib.Core.Path.{◌∙◌}
use Rattle.pec.proofs.Division.{pec_byte}
use Rattle.pec.proofs.table.with_byte.Goals as goal

pub returns : goal.returns
returns c = c.entry.ensures ∙ pec_byte c.args.code c.args.byte c.ranges.code.fits c.ranges.byte.fits
