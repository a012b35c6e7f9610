use Prim.Native.Nat.{ℕ}
use mathlib.Core.Path.{ap}
use mathlib.Core.Bool.{Bool, ◌&&◌, ◌||◌}
use lib.ListN.{get_or}
use mir.Val.{Fits}
use mir.Syntax.{w64}
use Rattle.states.proofs.Moving.{moved_made}
use borrow.Author.Rules.{rules}
use Rattle.states.proofs.words.moved.Goals as goal

fits : (c : goal.After-with_state) (j : ℕ) → Fits w64 (get_or c.with_state.result j 0)
fits c j = search rules

pub returns : goal.returns
returns c = let a = c.args in
    let held = c.test-held in
    let low = c.below-low in
    let up = c.raised-counted in
    let kept = c.with_state-kept in
    let some = c.some in
    moved_made a.w low.result up.result kept.result c.with_state.result a.top
    (record { up = a.moves.up; restart = a.moves.restart; leave = a.moves.leave; stay = a.moves.stay }) some.result (a.moves.stay && held.result)
    (a.moves.restart && some.result || a.moves.leave && held.result)
    c.requires.0 c.requires.1 low.ensures up.ensures
    (ap (λ (x : Bool). a.moves.stay && x) held.ensures) kept.ensures some.ensures
    (ap (λ (x : Bool). a.moves.restart && some.result || a.moves.leave && x) held.ensures)
    c.with_state.ensures (search rules) (λ j. (fits c j).fits)
