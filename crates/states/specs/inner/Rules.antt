-- What the inner functions on one rule do, of whose words they know no place.
use Rattle.std.specs.Prelude.{ℕ, suc, Bool, not, ◌&&◌, List, ltb}
use Rattle.lists.specs.Lists.{some_below}
use Rattle.rules.specs.declared.Row.{Row}
use Rattle.rules.specs.declared.Setting.{Setting}
use Rattle.rules.specs.declared.Readings.{Readings}
use Rattle.rules.specs.Evaluation.{trips, clears, top, alert, status}
use Rattle.flags.specs.declared.RuleFlags.{RuleFlags}
use Rattle.fillings.specs.PossibleStates.{found, next}
use Rattle.fillings.specs.Flags.{flag}
use Rattle.states.specs.Records.{at, states_of, words_of}

-- The words after a seen evaluation.
abbrev pub evaluated_words : Row → ℕ → Readings → Setting → List ℕ → List ℕ
evaluated_words row idle r s w = words_of (next (top s.time) (found (trips idle row s r) (clears row s r)) (states_of w (top s.time)))

-- The flags.
abbrev pub flags_of_words : Setting → List ℕ → RuleFlags
flags_of_words s w = record {
  alert = flag (top s.time) alert (states_of w (top s.time));
  status = flag (top s.time) (status (top s.time)) (states_of w (top s.time));
}

-- A state from 0 to m is possible, and none above m.
abbrev pub valid_words : ℕ → List ℕ → Bool
valid_words m w = some_below (suc m) (at w) && not (some_below 320 (λ p. ltb m p && at w p))
