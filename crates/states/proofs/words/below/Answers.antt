use borrow.Author.Rules.{rules}
use Rattle.states.proofs.FiveWords.{changed_start, changed_next, changed_end, below_bits}
use Rattle.states.proofs.words.below.Goals as goal

pub loop-j-init : goal.loop-j-init
loop-j-init c = changed_start _ _ (search rules)

pub loop-j-preserved : goal.loop-j-preserved
loop-j-preserved c = changed_next _ _ _ _ _ c.loop-j-test.true c.loop-j.invariant c.below_word.ensures

pub returns : goal.returns
returns c = below_bits _ _ _ (changed_end _ _ _ _ c.loop-j-test.false c.loop-j.invariant)
