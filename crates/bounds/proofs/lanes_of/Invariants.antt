use Rattle.lists.proofs.Laying.{Laying}
use Rattle.limits.specs.Limits.{setting_of}
use Rattle.rules.specs.Evaluation.{top}
use Rattle.rules.specs.Table.{row_at}
use mathlib.Core.Bool.{cond}
use Rattle.bounds.proofs.lanes_of.Given as goal

abbrev pub invariant-loop-i : goal.invariant-loop-i
invariant-loop-i l = record {
  tops : Laying 0 16 (λ j. top (setting_of l.settings.of j).time) l.tops l.i;
  every : Laying 0 16 (λ j. cond (row_at j).even 0 1) l.every l.i;
}
