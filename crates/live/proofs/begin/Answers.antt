use mathlib.Core.Path.{sym, ◌∙◌}
use Rattle.live.proofs.Stepping.{begin_refused, begin_taken, few_cells, idle_over, as_rules, unset}
use Rattle.live.proofs.begin.Goals as goal

pub returns-then-not-is_cell_count : goal.returns-then-not-is_cell_count
returns-then-not-is_cell_count c = let p = begin_refused _ _ _ c.refuse_begin.ensures (few_cells _ _ _ (sym c.is_cell_count.ensures ∙ c.if-not-is_cell_count.true)) in record { answer = p.0; state = p.1 }

pub returns-then-idle-gt32766 : goal.returns-then-idle-gt32766
returns-then-idle-gt32766 c = let p = begin_refused _ _ _ c.refuse_begin-then-idle-gt32766.ensures (idle_over _ _ _ (sym c.is_cell_count.ensures ∙ c.if-not-is_cell_count.false) c.if-idle-gt32766.true) in record { answer = p.0; state = p.1 }

pub returns-in-Err : goal.returns-in-Err
returns-in-Err c = let p = begin_refused _ _ _ c.refuse_begin-in-Err.ensures
    (as_rules _ _ _ (sym c.is_cell_count.ensures ∙ c.if-not-is_cell_count.false) c.if-idle-gt32766.false ∙ unset _ _ c.in-Err.ensures) in record { answer = p.0; state = p.1 }

pub returns-in-Ok : goal.returns-in-Ok
returns-in-Ok c = let p = begin_taken _ _ _ c.begun.ensures c.in-Ok.ensures
    (as_rules _ _ _ (sym c.is_cell_count.ensures ∙ c.if-not-is_cell_count.false) c.if-idle-gt32766.false) in record { answer = p.0; state = p.1 }
