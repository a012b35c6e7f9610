use Prim.Native.Nat.{ℕ}
use borrow.Author.Rules.{rules}
use lib.ListN.{get_or}
use mir.Val.{Fits}
use mir.Syntax.{w64}
use Rattle.states.proofs.FiveWords.{some_unless}
use Rattle.states.proofs.words.some.Goals as goal

fits : (c : goal.After-same) (j : ℕ) → Fits w64 (get_or c.args.w j 0)
fits c j = search rules

pub returns : goal.returns
returns c = some_unless c.args.w (search rules) (λ j. (fits c j).fits) c.same.result c.same.ensures
