use Rattle.rules.proofs.Rows.{row_of}
use native.Mathlib.Omega.{arith}
use borrow.Author.Tests.{eq-eqb}
use Rattle.bounds.proofs.Halves.{taken}
use mathlib.Core.Path.{◌∙◌}
use Rattle.bounds.proofs.Missing.{if_some, missing_start, missing_next, states_end, firsts_end}
use Rattle.bounds.proofs.miss.Goals as goal

pub loop-i-init : goal.loop-i-init
loop-i-init c = let s = c.split_at_mut-least.ensures in
    let f = c.split_at_mut-possible.ensures in
    missing_start _ _ _ _ _ _ s.front_len (omega (arith, s.back_len, c.if-states-ne32.false)) (omega (arith, f.back_len, c.if-firsts-ne32.false))

pub loop-i-preserved : goal.loop-i-preserved
loop-i-preserved c = let h = c.loop-i-test.true in
    missing_next _ _ _ _ _ _ _ _ _ c.loop-i.invariant h (row_of _ _ _ c.all_rows-table.ensures h) c.evaluations_in-n.ensures
    (c.after.ensures ∙ if_some c.evaluations_in-n.result _ _) c.greatest_missed.ensures c.top_tick.ensures c.note.ensures

pub returns : goal.returns
returns c = let s = c.split_at_mut-least.ensures in
    let f = c.split_at_mut-possible.ensures in
    let h = taken s.front s.back in record {
      states = rw (eq-eqb _ _ c.if-states-ne32.false, eq-eqb _ _ c.if-firsts-ne32.false) (states_end _ _ _ _ _ _ c.loop-i.invariant c.loop-i-test.false h);
      firsts = rw (eq-eqb _ _ c.if-states-ne32.false, eq-eqb _ _ c.if-firsts-ne32.false)
          (firsts_end _ _ _ _ _ _ c.loop-i.invariant c.loop-i-test.false h (taken f.front f.back) f.front_len);
    }
