use mathlib.Core.Path.{sym, ap, ◌∙◌}
use Rattle.refusals.specs.Refusals.{answer_of}
use Rattle.buttmitrel.specs.Code.{value_code}
use Rattle.buttmitrel.proofs.buttmitrel_reply_count.Goals as goal

pub returns-in-Ok : goal.returns-in-Ok
returns-in-Ok c = ap value_code (sym (ap answer_of c.in-Ok.is) ∙ c.reply_count.ensures)

pub returns-in-Err : goal.returns-in-Err
returns-in-Err c = c.code.ensures ∙ ap value_code (sym (ap answer_of c.in-Err.is) ∙ c.reply_count.ensures)
