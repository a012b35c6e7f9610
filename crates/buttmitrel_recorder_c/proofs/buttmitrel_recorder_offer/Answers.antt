use mir.Syntax.{w16}
use mir.ValLaws.{to_z-of_z}
use Rattle.buttmitrel_recorder_c.proofs.buttmitrel_recorder_offer.Goals as goal

pub returns-clause-answer : goal.returns-clause-answer
returns-clause-answer c = rw (to_z-of_z w16 c.args.current c.ranges.current, to_z-of_z w16 c.args.board c.ranges.board) at c.buttmitrel_recorder_offer.ensures.answer

pub returns-clause-numbers : goal.returns-clause-numbers
returns-clause-numbers c = rw (to_z-of_z w16 c.args.current c.ranges.current, to_z-of_z w16 c.args.board c.ranges.board) at c.buttmitrel_recorder_offer.ensures.numbers

pub returns-clause-store : goal.returns-clause-store
returns-clause-store c = rw (to_z-of_z w16 c.args.current c.ranges.current, to_z-of_z w16 c.args.board c.ranges.board) at c.buttmitrel_recorder_offer.ensures.store
