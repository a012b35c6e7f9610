use mathlib.Core.Path.{◌≡◌}
use lib.ListN.{length}
use Rattle.states.specs.inner.Words.{WordsUp}
use Rattle.states.proofs.words.words_up.Given as goal

abbrev pub invariant-loop : goal.invariant-loop
invariant-loop l = (length l.w ≡ 5) × WordsUp l.fn.w l.counter l.w
