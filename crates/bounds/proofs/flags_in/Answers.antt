use Rattle.bounds.specs.Steps.{flags_of_states}
use mathlib.Core.Path.{refl, ap₂, ◌∙◌}
use lib.ListN.{get_or}
use Rattle.fillings.specs.Bounds.{flags_between}
use Rattle.bounds.proofs.Halves.{taken}
use borrow.Author.Tests.{eq-eqb, ne_eqb}
use Rattle.lists.proofs.Laying.{laying_start, laying_next, laying_end}
use Rattle.rules.specs.Table.{row_at}
use Rattle.bounds.proofs.flags_in.Goals as goal

pub returns-then-states-ne32 : goal.returns-then-states-ne32
unfolding flags_of_states
returns-then-states-ne32 c = rw (ne_eqb _ _ c.if-states-ne32.true) refl

pub loop-i-init : goal.loop-i-init
loop-i-init c = laying_start _ 16 _ _ refl

pub loop-i-preserved : goal.loop-i-preserved
loop-i-preserved c = let h = taken c.split_at.ensures.front c.split_at.ensures.back in
    let i = c.loop-i.i in
    laying_next _ 16 _ _ c.loop-i.invariant c.loop-i-test.true
    (c.rule_flags.ensures (row_at i) ∙ ap₂ (flags_between (row_at i) (get_or c.args.lanes.now i 0)) (h.low_at i c.loop-i-test.true) (h.high_at i))

pub returns : goal.returns
unfolding flags_of_states
returns c = rw (eq-eqb _ _ c.if-states-ne32.false) (laying_end _ 16 _ c.loop-i.invariant c.loop-i-test.false)
