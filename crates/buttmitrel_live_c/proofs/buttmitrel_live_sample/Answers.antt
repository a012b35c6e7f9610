use mir.Syntax.{w16}
use mir.ValLaws.{to_z-of_z}
use Rattle.buttmitrel_live_c.proofs.buttmitrel_live_sample.Goals as goal

pub returns-clause-answer : goal.returns-clause-answer
returns-clause-answer c = rw (to_z-of_z w16 c.args.current c.ranges.current, to_z-of_z w16 c.args.board c.ranges.board) at c.buttmitrel_live_sample.ensures.answer

pub returns-clause-words : goal.returns-clause-words
returns-clause-words c = rw (to_z-of_z w16 c.args.current c.ranges.current, to_z-of_z w16 c.args.board c.ranges.board) at c.buttmitrel_live_sample.ensures.words

pub returns-clause-totals : goal.returns-clause-totals
returns-clause-totals c = rw (to_z-of_z w16 c.args.current c.ranges.current, to_z-of_z w16 c.args.board c.ranges.board) at c.buttmitrel_live_sample.ensures.totals
