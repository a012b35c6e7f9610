-- Paper 01, refusal 16: which records of words are records of possible states.
use Rattle.std.specs.Prelude.{ℕ, suc, Bool, not, ◌&&◌, List, ltb, eqb, length}
use Rattle.lists.specs.Lists.{some_below, every_below}
use Rattle.rules.specs.declared.Setting.{Setting}
use Rattle.rules.specs.Evaluation.{top}
use Rattle.states.specs.Records.{at, rule_words}
use Rattle.limits.specs.Limits.{setting_of}

-- Of rule i a state from 0 to the top is possible, and none above the top.
abbrev pub valid_set : Setting → ℕ → List ℕ → Bool
valid_set s i ws =
    some_below (suc (top s.time)) (at (rule_words ws i))
    && not (some_below 320 (λ p. ltb (top s.time) p && at (rule_words ws i) p))

-- Eighty words that are so for every rule.
unfoldable pub valid_record : List Setting → List ℕ → Bool
valid_record ss ws = eqb (length ws) 80 && every_below 16 (λ i. valid_set (setting_of ss i) i ws)
