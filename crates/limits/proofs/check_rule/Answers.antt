use mathlib.Core.Path.{sym, ◌∙◌}
use native.Mathlib.Omega.{arith}
use borrow.Author.Rules.{sfits_of}
use Rattle.limits.proofs.RuleSets.{time_small, checked_is, setting_is}
use Rattle.limits.proofs.check_rule.Goals as goal

pub overflow_cast-result : goal.overflow_cast-result
overflow_cast-result c = let h = time_small _ _ _ (sym c.accepts.ensures ∙ c.if-accepts.true) in
    record { fits = omega arith }

pub returns-then-accepts : goal.returns-then-accepts
returns-then-accepts c = let a = c.args in
    checked_is a.cells c.accepts.ensures c.if-accepts.true c.row_at.ensures
    (setting_is a.bytes.now a.i (sfits_of c.i32_at-threshold.type_inv) (sfits_of c.i32_at-recovery.type_inv) c.i32_at-threshold.ensures c.i32_at-recovery.ensures c.u16_at-time.ensures)

pub returns : goal.returns
returns c = let a = c.args in
    checked_is a.cells c.accepts.ensures c.if-accepts.false c.row_at.ensures
    (setting_is a.bytes.now a.i (sfits_of c.i32_at-threshold.type_inv) (sfits_of c.i32_at-recovery.type_inv) c.i32_at-threshold.ensures c.i32_at-recovery.ensures c.u16_at-time.ensures)
