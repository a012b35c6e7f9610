use mathlib.Core.Path.{◌≡◌}
use mathlib.Core.Bool.{true}
use mir.Syntax.{w32, w64}
use mir.Val.{SFits}
use borrow.Author.Rules.{sfits_of, rules}
use Rattle.rules.specs.Evaluation.{beyond, opposite, clears}
use Rattle.rules.proofs.Signed.{tested, cast_fits}
use Rattle.rules.proofs.evaluation.meets_recovery.Goals as goal

pub overflow_cast-setting : goal.overflow_cast-setting
overflow_cast-setting c = search (rules, cast_fits)

pub returns-then-row : goal.returns-then-row
unfolding clears
returns-then-row c = let a = c.args in
    let f : SFits w64 c.value_of-v.result = sfits_of c.value_of-v.type_inv in
    let r : SFits w32 a.setting.recovery = search rules in
    let recovers : a.row.recovers ≡ true = c.if-row.true in
    rw recovers (tested (beyond (opposite a.row.side)) tt f r c.value_of-v.ensures c.is_before.ensures)

pub returns-else-row : goal.returns-else-row
unfolding clears
returns-else-row c = rw c.if-row.false
