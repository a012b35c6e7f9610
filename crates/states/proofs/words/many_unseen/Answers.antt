use Prim.Native.Nat.{ℕ}
use mathlib.Core.Path.{◌≡◌, ap}
use mathlib.Core.Bool.{not}
use lib.ListN.{get_or, length}
use mir.Val.{Fits}
use mir.Syntax.{w64}
use Rattle.states.proofs.ManyUnseen.{one_unseen, none_moves, some_move}
use borrow.Author.Rules.{rules}
use Rattle.states.proofs.words.many_unseen.Goals as goal

low_fits : (c : goal.After-with_state) (j : ℕ) → Fits w64 (get_or c.below-low.result j 0)
low_fits c j = search rules

low_long : (c : goal.After-with_state) → length c.below-low.result ≡ 5
low_long c = search rules

cut_fits : (c : goal.After-with_state) (j : ℕ) → Fits w64 (get_or c.below-cut.result j 0)
cut_fits c j = search rules

cut_long : (c : goal.After-with_state) → length c.below-cut.result ≡ 5
cut_long c = search rules

fits : (c : goal.After-with_state) (j : ℕ) → Fits w64 (get_or c.with_state.result j 0)
fits c j = search rules

fits_2 : (c : goal.After-with_state-2) (j : ℕ) → Fits w64 (get_or c.with_state-2.result j 0)
fits_2 c j = search rules

pub returns-then-n-eq1 : goal.returns-then-n-eq1
returns-then-n-eq1 c = one_unseen c.args.w c.moved.result c.args.top c.args.n c.args.recovers c.if-n-eq1.true c.moved.ensures

pub returns-then-some-recovers : goal.returns-then-some-recovers
returns-then-some-recovers c = let a = c.args in
    some_move a.w a.top a.recovers c.requires.1.0 c.requires.1.1
    c.below-low.result c.below-cut.result c.filled-up.result c.with_state.result a.n c.min-k.result
    c.some.result c.test-held.result (not c.same.result)
    c.below-low.ensures c.some.ensures c.test-held.ensures c.if-some-recovers.true c.min-k.ensures c.below-cut.ensures
    c.filled-up.ensures (ap not c.same.ensures) c.with_state.ensures
    (low_long c) (λ j. (low_fits c j).fits) (cut_long c) (λ j. (cut_fits c j).fits) (search (rules, c.with_state.type_inv)) (λ j. (fits c j).fits)

pub returns : goal.returns
returns c = let a = c.args in
    none_moves a.w a.top a.recovers c.requires.1.0 c.requires.1.1 c.below-low.result c.with_state-2.result a.n c.some.result c.test-held.result
    c.below-low.ensures c.some.ensures c.test-held.ensures c.if-some-recovers.false c.with_state-2.ensures (search rules) (λ j. (fits_2 c j).fits)
