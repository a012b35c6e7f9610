use mathlib.Core.Path.{sym, ap, ◌∙◌}
use Rattle.refusals.specs.Refusals.{answer_as}
use Rattle.pec.specs.Reply.{number_of}
use Rattle.buttmitrel.specs.Code.{value_code}
use Rattle.buttmitrel.proofs.buttmitrel_check.Goals as goal

pub returns-in-Ok : goal.returns-in-Ok
returns-in-Ok c = c.number.ensures ∙ ap value_code (sym (ap (answer_as number_of) c.in-Ok.is) ∙ c.check.ensures)

pub returns-in-Err : goal.returns-in-Err
returns-in-Err c = c.code.ensures ∙ ap value_code (sym (ap (answer_as number_of) c.in-Err.is) ∙ c.check.ensures)
