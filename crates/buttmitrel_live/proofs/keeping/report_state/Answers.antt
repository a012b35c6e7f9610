use mathlib.Core.Path.{sym, ap, ◌∙◌}
use Rattle.refusals.specs.Refusals.{answer_of}
use Rattle.buttmitrel_live.proofs.Feeding.{reports}
use Rattle.buttmitrel_live.proofs.keeping.report_state.Goals as goal

pub returns-clause-bytes : goal.returns-clause-bytes
returns-clause-bytes c = reports _ _ _ (sym (ap answer_of c.in_default.is) ∙ c.flags-read.ensures.answer) c.flags-read.ensures.flags c.write_report.ensures.bytes
