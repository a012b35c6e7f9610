use mathlib.Core.Path.{sym, ◌∙◌}
use borrow.Author.Tests.{eq-eqb, ne_eqb}
use Rattle.limits.specs.Limits.{rule_set_answer}
use Rattle.limits.proofs.check_rules.Goals as goal

pub returns-then-not-is_cell_count : goal.returns-then-not-is_cell_count
unfolding rule_set_answer
returns-then-not-is_cell_count c = rw (sym c.is_cell_count.ensures ∙ c.if-not-is_cell_count.true)

pub returns-then-bytes-ne160 : goal.returns-then-bytes-ne160
unfolding rule_set_answer
returns-then-bytes-ne160 c = rw (sym c.is_cell_count.ensures ∙ c.if-not-is_cell_count.false, ne_eqb _ 160 c.if-bytes-ne160.true)

pub returns : goal.returns
unfolding rule_set_answer
returns c = rw (sym c.is_cell_count.ensures ∙ c.if-not-is_cell_count.false, eq-eqb _ 160 c.if-bytes-ne160.false) c.check_each.ensures
