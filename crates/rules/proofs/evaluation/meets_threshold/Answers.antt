use mathlib.Core.Path.{sym, ◌∙◌}
use mir.Syntax.{w32, w64}
use mir.Val.{SFits}
use borrow.Author.Rules.{sfits_of, rules}
use Rattle.rules.specs.Evaluation.{beyond, trips}
use Rattle.rules.proofs.Signed.{tested, cast_fits}
use Rattle.rules.proofs.evaluation.meets_threshold.Goals as goal

pub overflow_cast-setting : goal.overflow_cast-setting
overflow_cast-setting c = search (rules, cast_fits)

pub returns-then-qualifies : goal.returns-then-qualifies
unfolding trips
returns-then-qualifies c = let a = c.args in
    let f : SFits w64 c.value_of-v.result = sfits_of c.value_of-v.type_inv in
    let t : SFits w32 a.setting.threshold = search rules in
    rw (sym c.qualifies.ensures ∙ c.if-qualifies.true) (tested (beyond a.row.side) tt f t c.value_of-v.ensures c.is_beyond.ensures)

pub returns-else-qualifies : goal.returns-else-qualifies
unfolding trips
returns-else-qualifies c = rw (sym c.qualifies.ensures ∙ c.if-qualifies.false) c.if-qualifies.false
