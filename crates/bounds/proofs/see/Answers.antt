use Rattle.bounds.specs.Steps.{readable, states_seen, Within32}
use Rattle.bounds.specs.Firsts.{rules_rise}
use Rattle.bounds.specs.inner.Marks.{trips_of}
use Rattle.bounds.proofs.Halves.{taken}
use Rattle.bounds.proofs.Seeing.{moved_long, within_32, states_seen_lem, risen, firsts_noted_lem, firsts_kept}
use Rattle.lists.specs.Lists.{some_below}
use mathlib.Core.Bool.{true}
use mathlib.Core.List.{◌++◌}
use mathlib.Core.Path.{◌≡◌, refl, ap, ap₂, ◌∙◌}
use Prim.Native.Nat.{ℕ, ◌*◌}
use lib.ListN.{length}
use borrow.Author.Tests.{eq-eqb, le-leb}
use Rattle.bounds.proofs.see.Goals as goal
use Rattle.bounds.proofs.see.Goals.{After-move_states}

-- what both returns share
ready : (c : After-move_states) → readable c.args.r c.args.states.now c.args.firsts.now ≡ true
ready c = rw (le-leb _ _ c.if-r-gt-GREATEST_SUM.false, eq-eqb _ _ c.if-states-ne32.false, eq-eqb _ _ c.if-firsts-ne32.false) refl

moved : (c : After-move_states) → c.move_states.new.least ++ c.move_states.new.greatest
    ≡ states_seen c.args.tests.now c.args.lanes.now c.args.idle c.args.tick c.args.r c.args.states.now
moved c = let s = c.split_at_mut-least.ensures in
    ap₂ ◌++◌ c.move_states.ensures.least c.move_states.ensures.greatest
    ∙ states_seen_lem c.args.r c.values_of.result c.values_of.ensures c.args.tests.now c.args.lanes.now c.args.idle c.args.tick c.marks_of-marks.result
    (c.marks_of-marks.ensures.trips ∙ ap (λ (f : ℕ). trips_of c.values_of.result (16 * f) c.args.tests.now) c.flow_of.ensures.0) c.marks_of-marks.ensures.clears (taken s.front s.back)

long : (c : After-move_states) → length c.move_states.new.least ≡ 16
long c = ap length c.move_states.ensures.least ∙ moved_long _ _ _ _

rises : (c : After-move_states) → c.move_states.result
    ≡ some_below 16 (rules_rise c.args.lanes.now c.args.states.now (c.move_states.new.least ++ c.move_states.new.greatest))
rises c = let s = c.split_at_mut-least.ensures in
    risen c.args.lanes.now c.args.tick c.args.states.now c.move_states.new.least c.move_states.new.greatest (long c) (taken s.front s.back) c.move_states.ensures.rises

within : (c : After-move_states) → Within32 c.args.r
within c = within_32 _ _ c.values_of.ensures c.marks_of-marks.ensures.within

pub returns-then-move_states : goal.returns-then-move_states
returns-then-move_states c = let d = (goal.at.returns-then-move_states c).After-move_states in
    let f = c.split_at_mut-held.ensures in record {
      states = rw (ready d) (moved d);
      firsts = rw (ready d)
          (ap₂ ◌++◌ c.note_states.ensures c.note_states-then-move_states.ensures
          ∙ firsts_noted_lem c.args.lanes.now c.args.tick c.args.states.now c.move_states.new.least c.move_states.new.greatest (long d) (rises d)
          c.if-move_states.true (taken f.front f.back));
      within = λ t. within d;
    }

pub returns-else-move_states : goal.returns-else-move_states
returns-else-move_states c = let d = (goal.at.returns-else-move_states c).After-move_states in record {
  states = rw (ready d) (moved d);
  firsts = rw (ready d)
      (firsts_kept c.args.lanes.now c.args.tick c.args.states.now c.move_states.new.least c.move_states.new.greatest (long d) c.args.firsts.now (rises d)
      c.if-move_states.false);
  within = λ t. within d;
}
