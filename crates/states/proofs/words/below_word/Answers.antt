use Prim.Native.Nat.{◌%◌}
use native.Mathlib.Omega.{arith}
use lib.Pow.{pow_pos}
use borrow.Author.Tests.{lt-ltb, le-ltb, eq-eqb, ne_eqb}
use Rattle.states.specs.inner.Words.{below_word}
use Rattle.states.proofs.Bits.{one_shifted}
use Rattle.states.proofs.words.below_word.Goals as goal

pub returns-then-j-t : goal.returns-then-j-t
unfolding below_word
returns-then-j-t c = rw (lt-ltb _ _ c.if-j-t.true)

pub nonzero_rem-result-then-j-t-2 : goal.nonzero_rem-result-then-j-t-2
nonzero_rem-result-then-j-t-2 c = rw (one_shifted (c.args.t % 64) (omega arith)) (pow_pos (c.args.t % 64))

pub returns-then-j-t-2 : goal.returns-then-j-t-2
unfolding below_word
returns-then-j-t-2 c = rw (one_shifted (c.args.t % 64) (omega arith), le-ltb _ _ c.if-j-t.false, eq-eqb _ _ c.if-j-t-2.true)

pub returns : goal.returns
unfolding below_word
returns c = rw (le-ltb _ _ c.if-j-t.false, ne_eqb _ _ c.if-j-t-2.false)
