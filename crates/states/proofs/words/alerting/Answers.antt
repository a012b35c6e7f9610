use native.Mathlib.Omega.{arith}
use lib.ListN.{get_or}
use mir.Val.{Fits}
use mir.Syntax.{w64}
use Rattle.states.proofs.SetFlags.{alerting_set}
use borrow.Author.Rules.{rules}
use Rattle.states.proofs.words.alerting.Goals as goal

pub overflow_mul-w : goal.overflow_mul-w
overflow_mul-w c = let f : Fits w64 (get_or c.args.w 0 0) = search rules in omega arith

pub returns : goal.returns
returns c = alerting_set c.args.w (search rules)
