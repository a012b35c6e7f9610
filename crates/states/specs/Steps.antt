-- What a seen tick and a run of unseen ticks do to the record of possible states.
use Rattle.std.specs.Prelude.{ℕ, suc, Bool, cond, ◌&&◌, List, ltb, eqb, length}
use Rattle.rules.specs.declared.Row.{Row}
use Rattle.rules.specs.declared.Setting.{Setting}
use Rattle.rules.specs.declared.Readings.{Readings}
use Rattle.rules.specs.Table.{row_at}
use Rattle.limits.specs.Limits.{setting_of}
use Rattle.rules.specs.Evaluation.{trips, clears, top, evaluated, evaluations}
use Rattle.fillings.specs.PossibleStates.{found, next, unseen_times}
use Rattle.states.specs.Records.{states_of, words_of, rule_words, record_with}

-- The set of rule i in a record.
abbrev pub set_of : Setting → ℕ → List ℕ → List Bool
set_of s i ws = states_of (rule_words ws i) (top s.time)

-- Whether a seen tick moves a rule of a row: it is switched on and evaluated there.
abbrev pub moves_by : Row → ℕ → Setting → Bool
moves_by row tick s = ltb 0 s.time && evaluated row tick

-- Whether it moves rule i.
abbrev pub moves_at : ℕ → Setting → ℕ → Bool
moves_at tick s i = moves_by (row_at i) tick s

-- The words of rule i after a seen evaluation by a row.
abbrev pub seen_by : Row → ℕ → Readings → Setting → ℕ → List ℕ → List ℕ
seen_by row idle r s i ws = words_of (next (top s.time) (found (trips idle row s r) (clears row s r)) (set_of s i ws))

-- The words of rule i after a seen evaluation.
abbrev pub seen_words : ℕ → Readings → Setting → ℕ → List ℕ → List ℕ
seen_words idle r s i ws = seen_by (row_at i) idle r s i ws

-- The record after a seen tick. A list that is not eighty words long is no record and stays as it is.
unfoldable pub after_seen : List Setting → ℕ → ℕ → Readings → List ℕ → List ℕ
after_seen ss idle tick r ws =
    cond (eqb (length ws) 80) (record_with (λ i. moves_at tick (setting_of ss i) i) (λ i. seen_words idle r (setting_of ss i) i ws) ws) ws

-- How often rule i is evaluated from one tick to another, both included.
abbrev pub evaluations_of : ℕ → ℕ → ℕ → ℕ
evaluations_of first last i = evaluations (row_at i) first (suc last)

-- Whether unseen ticks move rule i: it is switched on and evaluated there.
abbrev pub moves_between : ℕ → ℕ → Setting → ℕ → Bool
moves_between first last s i = ltb 0 s.time && ltb 0 (evaluations_of first last i)

-- The words of rule i after the unseen evaluations.
abbrev pub unseen_words : ℕ → ℕ → Setting → ℕ → List ℕ → List ℕ
unseen_words first last s i ws = words_of (unseen_times (evaluations_of first last i) (top s.time) (row_at i).recovers (set_of s i ws))

-- The record after the unseen ticks from first to last, both included.
unfoldable pub after_unseen : List Setting → ℕ → ℕ → List ℕ → List ℕ
after_unseen ss first last ws =
    cond (eqb (length ws) 80) (record_with (λ i. moves_between first last (setting_of ss i) i) (λ i. unseen_words first last (setting_of ss i) i ws) ws) ws
