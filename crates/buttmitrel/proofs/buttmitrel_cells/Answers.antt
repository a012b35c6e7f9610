use mathlib.Core.Path.{sym, ap, ◌∙◌}
use Rattle.refusals.specs.Refusals.{answer_of}
use Rattle.buttmitrel.specs.Code.{voltages_list}
use Rattle.buttmitrel.proofs.Codes.{all_stored, written, refused_length, refused_call}
use Rattle.buttmitrel.proofs.buttmitrel_cells.Goals as goal

pub returns-then-three-ne3 : goal.returns-then-three-ne3
returns-then-three-ne3 c = let p = refused_length 3 _ voltages_list _ c.if-three-ne3.true c.code-then-three-ne3.ensures (sym (ap answer_of c.in-Ok.is) ∙ c.read_cells.ensures) in record { answer = p.0; three = p.1 }

pub returns-in-Err : goal.returns-in-Err
returns-in-Err c = let p = refused_call 3 _ voltages_list _ c.code.ensures (sym (ap answer_of c.in-Err.is) ∙ c.read_cells.ensures) in record { answer = p.0; three = p.1 }

pub returns-else-three-ne3 : goal.returns-else-three-ne3
returns-else-three-ne3 c = let three = c.args.three.now in
    let l = c.if-three-ne3.false in let p = written 3 three voltages_list _ l (all_stored (voltages_list c.in-Ok.v) three l) (sym (ap answer_of c.in-Ok.is) ∙ c.read_cells.ensures) in record { answer = p.0; three = p.1 }
