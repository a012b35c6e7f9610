use Rattle.bounds.specs.inner.Marks.{trips_of, clears_of}
use mir.Facts.{to_z-of_z}
use mir.Val.{SFits}
use mir.Syntax.{w32}
use lib.ListN.{get_or}
use lib.Signed.{lt_z}
use lib.IntN.{pos}
use mathlib.Core.Path.{refl, ap₂}
use borrow.Author.Rules.{rules}
use borrow.Author.Count.{below_more}
use native.Mathlib.Omega.{arith}
use Rattle.bounds.proofs.Numbers.{none_below, none_above}
use Rattle.lists.proofs.Laying.{laying_start, laying_next, laying_end}
use Rattle.bounds.proofs.marks.marks_of.Goals as goal

pub loop-i-init : goal.loop-i-init
loop-i-init c = record { trips = laying_start _ 16 _ _ refl; clears = laying_start _ 16 _ _ refl; within = λ j h. absurd (omega arith) }

pub loop-i-preserved : goal.loop-i-preserved
loop-i-preserved c = let v : SFits w32 (get_or c.args.values c.loop-i.i (pos 0)) = search rules in
    let h = c.loop-i-test.true in record {
      trips = laying_next _ 16 _ _ c.loop-i.invariant.trips h (ap₂ lt_z (to_z-of_z {w = w32} (search rules)) (to_z-of_z v));
      clears = laying_next _ 16 _ _ c.loop-i.invariant.clears h (ap₂ lt_z (to_z-of_z v) (to_z-of_z {w = w32} (search rules)));
      within = below_more _ c.loop-i.i c.loop-i.invariant.within (none_below _ v, none_above _ v);
    }

pub returns : goal.returns
unfolding trips_of clears_of
returns c = let h = c.loop-i-test.false in record {
  trips = laying_end _ 16 _ c.loop-i.invariant.trips h;
  clears = laying_end _ 16 _ c.loop-i.invariant.clears h;
  within = λ i l. c.loop-i.invariant.within i (omega arith);
}
