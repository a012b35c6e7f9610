use borrow.Author.Rules.{rules}
use lib.ListN.{get_or}
use mir.Val.{Fits}
use mir.Syntax.{w64}
use Rattle.states.proofs.FiveWords.{up_start, up_more, up_end}
use Rattle.states.proofs.words.up_one.Goals as goal

pub loop-x-init : goal.loop-x-init
loop-x-init c = up_start c.args.w (search rules)

pub loop-x-preserved : goal.loop-x-preserved
loop-x-preserved c = up_more _ _ _ _ (λ j. let f : Fits w64 (get_or c.args.w j 0) = search rules in f.fits) c.loop-x-test.true c.loop-x.invariant

pub returns : goal.returns
returns c = up_end _ _ _ _ (λ j. let f : Fits w64 (get_or c.args.w j 0) = search rules in f.fits) c.loop-x-test.false c.loop-x.invariant
