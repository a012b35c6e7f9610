use Rattle.bounds.specs.inner.Firsts.{half_noted}
use Rattle.std.specs.Bool.{then_some}
use Rattle.std.specs.Option.{unwrap_or}
use Rattle.std.specs.Prelude.{ℕ, Bool, Option}
use mathlib.Core.Path.{ap, ap₂, ◌∙◌}
use native.Mathlib.Omega.{arith}
use Rattle.bounds.specs.Firsts.{none, noted}
use Rattle.bounds.proofs.FirstLaws.{found_or_none}
use Rattle.lists.proofs.Laying.{laying_end}
use Rattle.bounds.proofs.Halves.{turning_start, turning_next}
use Rattle.bounds.proofs.firsts.note_states.Goals as goal

pub loop-i-init : goal.loop-i-init
loop-i-init c = turning_start _ _ c.requires.1

pub loop-i-preserved : goal.loop-i-preserved
loop-i-preserved c = turning_next _ _ _ c.loop-i.invariant c.loop-i-test.true
    (c.note.ensures
    ∙ ap₂ noted
    (ap (λ (o : Option ℕ). unwrap_or o none) (c.then_some-found.ensures ∙ ap (λ (b : Bool). then_some b c.args.tick) c.is_top.ensures) ∙ found_or_none _ c.args.tick)
    (c.loop-i.invariant.rest c.loop-i.i (omega arith)))

pub returns : goal.returns
unfolding half_noted
returns c = laying_end _ 16 _ c.loop-i.invariant.laid c.loop-i-test.false
