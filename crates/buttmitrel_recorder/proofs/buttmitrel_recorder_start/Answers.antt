use mathlib.Core.Path.{sym, ap, ◌∙◌}
use Rattle.refusals.specs.Refusals.{answer_of}
use Rattle.buttmitrel_recorder.proofs.SixNumbers.{start_refused, start_not_six, started}
use Rattle.buttmitrel_recorder.proofs.buttmitrel_recorder_start.Goals as goal

pub returns-then-numbers-ne6 : goal.returns-then-numbers-ne6
returns-then-numbers-ne6 c = let p = start_not_six c.args.cells c.args.number c.args.numbers.now c.in-Ok.r (sym (ap answer_of c.in-Ok.is) ∙ c.start.ensures) c.if-numbers-ne6.true c.code-then-numbers-ne6.ensures in record { answer = p.0; numbers = p.1 }

pub returns-in-Err : goal.returns-in-Err
returns-in-Err c = let p = start_refused c.args.cells c.args.number c.args.numbers.now (sym (ap answer_of c.in-Err.is) ∙ c.start.ensures) c.code.ensures in record { answer = p.0; numbers = p.1 }

pub returns-else-numbers-ne6 : goal.returns-else-numbers-ne6
returns-else-numbers-ne6 c = let p = started c.args.cells c.args.number c.args.numbers.now c.in-Ok.r (sym (ap answer_of c.in-Ok.is) ∙ c.start.ensures) c.if-numbers-ne6.false c.store_numbers.ensures in record { answer = p.0; numbers = p.1 }
