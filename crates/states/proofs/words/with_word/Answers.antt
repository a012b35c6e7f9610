use Prim.Native.Nat.{◌%◌}
use native.Mathlib.Omega.{arith}
use borrow.Author.Tests.{eq-eqb, ne_eqb}
use mathlib.Core.Bool.{and-false}
use Rattle.states.specs.inner.Words.{with_word}
use Rattle.states.proofs.Bits.{one_shifted}
use Rattle.states.proofs.words.with_word.Goals as goal

pub returns-then-on : goal.returns-then-on
unfolding with_word
returns-then-on c = rw (one_shifted (c.args.p % 64) (omega arith), c.if-on.true, eq-eqb _ _ c.if-j-p.true)

pub returns-then-j-p : goal.returns-then-j-p
unfolding with_word
returns-then-j-p c = rw c.if-on.false

pub returns : goal.returns
unfolding with_word
returns c = rw (ne_eqb _ _ c.if-j-p.false, and-false c.args.on)
