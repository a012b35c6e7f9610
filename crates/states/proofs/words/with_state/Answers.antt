use borrow.Author.Rules.{rules}
use Rattle.states.proofs.FiveWords.{changed_start, changed_next, changed_end, with_bits_lem}
use Rattle.states.proofs.words.with_state.Goals as goal

pub loop-j-init : goal.loop-j-init
loop-j-init c = changed_start _ _ (search rules)

pub loop-j-preserved : goal.loop-j-preserved
loop-j-preserved c = changed_next _ _ _ _ _ c.loop-j-test.true c.loop-j.invariant c.with_word.ensures

pub returns : goal.returns
returns c = with_bits_lem _ _ _ _ (changed_end _ _ _ _ c.loop-j-test.false c.loop-j.invariant)
