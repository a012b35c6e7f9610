-- The least and the greatest possible state of a rule, each moved on its own. That they are those of the fillings is proved.
use Rattle.std.specs.Prelude.{ℕ, zero, suc, Bool, true, false, not, cond}
use Rattle.rules.specs.declared.Row.{Row}
use Rattle.rules.specs.Evaluation.{step, alert, status, evaluated}
use Rattle.flags.specs.declared.RuleFlags.{RuleFlags}
use Rattle.flags.specs.Flags.{flag_of}
use Rattle.fillings.specs.Fillings.{Rule, last, Shown, seen, unseen, evaluate}

-- The state after the evaluation at a tick, if an unseen one meets the threshold and the recovery as said.
abbrev pub evaluate_as : Bool → Bool → Rule → Shown → ℕ → ℕ
evaluate_as trip clear r (seen x) s = evaluate r x s
evaluate_as trip clear r unseen s = step (last r) trip clear s

-- The state once the first k ticks have passed, if every unseen evaluation meets the threshold and the recovery as said.
unfoldable pub after_as : Bool → Bool → Rule → (ℕ → Shown) → ℕ → ℕ
after_as trip clear r trace zero = 0
after_as trip clear r trace (suc k) =
    cond (evaluated r.row k) (evaluate_as trip clear r (trace k) (after_as trip clear r trace k)) (after_as trip clear r trace k)

-- The least possible state: every unseen evaluation meets the recovery, or neither test where the rule latches.
abbrev pub least_after : Rule → (ℕ → Shown) → ℕ → ℕ
least_after r trace k = after_as false r.row.recovers r trace k

-- The greatest possible state: every unseen evaluation meets the threshold.
abbrev pub greatest_after : Rule → (ℕ → Shown) → ℕ → ℕ
greatest_after r trace k = after_as true false r trace k

-- The alert and the status of a rule of a row with the top state m, from its least and its greatest possible state.
abbrev pub flags_between : Row → ℕ → ℕ → ℕ → RuleFlags
flags_between row m least greatest =
    record { alert = flag_of (alert greatest) (not (alert least)); status = flag_of (status m greatest) (not (status m least)) }
