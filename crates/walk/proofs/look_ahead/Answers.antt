use mathlib.Core.Path.{sym, ap, ◌∙◌}
use Prim.Native.Nat.{◌+◌}
use Rattle.std.specs.Prelude.{Some}
use native.Mathlib.Omega.{arith}
use lib.ListN.{length}
use borrow.Author.Tests.{leb-true}
use Rattle.walk.specs.declared.Cursor.{Cursor}
use Rattle.walk.specs.declared.Ahead.TheVariants.{Unseen, Sample}
use Rattle.walk.proofs.Looking.{hole_holds, at_the_end, unseen_ahead, sample_ahead, none_ahead}
use Rattle.walk.proofs.look_ahead.Goals as goal

pub returns-then-to-c : goal.returns-then-to-c
returns-then-to-c c = at_the_end _ _ _ _ _ c.if-to-c.true

pub past_run-requires : goal.past_run-requires
past_run-requires c = let a = c.args in
    let (l, begun, lasts) = hole_holds a.holes.now a.c (sym c.hole_here.ensures ∙ c.if-hole_here.true) in
    omega (arith, l)

pub returns-then-hole_here : goal.returns-then-hole_here
returns-then-hole_here c = ap (λ (d : Cursor). Some (Unseen d)) c.past_run.ensures
    ∙ unseen_ahead _ _ _ _ _ c.if-to-c.false (sym c.hole_here.ensures ∙ c.if-hole_here.true)

pub past_sample-requires : goal.past_sample-requires
past_sample-requires c = let a = c.args in
    let l = leb-true (a.c.sample + a.width) (length a.samples.now) (sym c.lies_within.ensures ∙ c.if-lies_within.true) in
    (omega (arith, l), omega (arith, c.if-to-c.false))

pub returns-then-lies_within : goal.returns-then-lies_within
returns-then-lies_within c = ap (λ (d : Cursor). Some (Sample d)) c.past_sample.ensures
    ∙ sample_ahead _ _ _ _ _ c.if-to-c.false (sym c.hole_here.ensures ∙ c.if-hole_here.false) (sym c.lies_within.ensures ∙ c.if-lies_within.true)

pub returns : goal.returns
returns c = none_ahead _ _ _ _ _ c.if-to-c.false (sym c.hole_here.ensures ∙ c.if-hole_here.false) (sym c.lies_within.ensures ∙ c.if-lies_within.false)
