use Prim.Native.Nat.{ℕ}
use mathlib.Core.Path.{◌≡◌, refl, subst}
use native.Mathlib.Omega.{arith}
use borrow.Author.Rules.{rules}
use Rattle.states.specs.inner.Words.{WordsUp}
use Rattle.states.proofs.ShiftedWords.{words_up_start, words_up_next}
use Rattle.states.proofs.words.words_up.Goals as goal

pub loop-init : goal.loop-init
loop-init c = (search rules, words_up_start c.args.w)

pub loop-preserved : goal.loop-preserved
loop-preserved c = (refl, words_up_next _ _ _ c.loop.invariant.1)

pub returns : goal.returns
returns c = let e : c.loop.counter ≡ c.args.q = omega arith in subst (λ (x : ℕ). WordsUp c.args.w x c.loop.w) e c.loop.invariant.1
