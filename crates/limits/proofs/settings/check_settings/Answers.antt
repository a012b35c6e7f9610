use mathlib.Core.Path.{sym, ◌∙◌, ap}
use Prim.Native.Nat.{◌<◌}
use native.Mathlib.Omega.{arith}
use borrow.Author.Rules.{rules}
use Rattle.rules.specs.declared.Row.{Row}
use Rattle.limits.specs.Limits.{limits}
use Rattle.rules.proofs.Rows.{row_of}
use Rattle.limits.proofs.RuleSets as laws
use Rattle.limits.proofs.RuleSets.{Passed, numbered, passed_start, passed_next, passed_stop, passed_end, listed_answer}
use Rattle.limits.proofs.settings.check_settings.Goals as goal

pub loop-i-init : goal.loop-i-init
loop-i-init c = passed_start

pub loop-i-preserved : goal.loop-i-preserved
loop-i-preserved c = let h : c.loop-i.i < 16 = omega arith in
    passed_next c.loop-i.invariant h (ap (λ (r : Row). limits c.args.cells r (numbered c.args.settings.of c.loop-i.i)) (sym (row_of _ _ _ c.all_rows-table.ensures h))
    ∙ sym c.accepts_setting.ensures ∙ c.if-not-accepts_setting.false)

pub returns-then-not-accepts_setting : goal.returns-then-not-accepts_setting
returns-then-not-accepts_setting c = let h : c.loop-i.i < 16 = omega arith in
    sym (sym (listed_answer c.args.cells 16 _ (search (rules, laws.long))) ∙ passed_stop c.loop-i.invariant h (ap (λ (r : Row). limits c.args.cells r (numbered c.args.settings.of c.loop-i.i)) (sym (row_of _ _ _ c.all_rows-table.ensures h))
    ∙ sym c.accepts_setting.ensures ∙ c.if-not-accepts_setting.true))

pub returns : goal.returns
returns c = sym (sym (listed_answer c.args.cells 16 _ (search (rules, laws.long))) ∙ passed_end c.loop-i.invariant c.loop-i-test.false)
