-- Paper 01, 'Refusal numbers', and 17 of paper 02, item 1: the number and the place of each reason, and what a call answers in the paper's numbers.
use Rattle.std.specs.Prelude.{ℕ, Bool, true, false, Result, Ok, Err, List, ◌++◌, codes, decimal}
use Rattle.refusals.specs.declared.Refusal.{Refusal}
use Rattle.refusals.specs.declared.Refusal.TheVariants.{TooShort, Version, CellCount, IdleCurrent, PastEnd, RuleCount, Limits, Hole, Coverage, ReplyTick, LeftOver, ReportLength, VerdictLength, InputLength, BufferLength, State, HoleCount}

-- The number of a reason.
abbrev pub number_of : Refusal → ℕ
number_of TooShort = 1
number_of Version = 2
number_of CellCount = 3
number_of IdleCurrent = 4
number_of PastEnd = 5
number_of RuleCount = 6
number_of (Limits rule) = 7
number_of (Hole place) = 8
number_of (Coverage tick) = 9
number_of (ReplyTick reply) = 10
number_of LeftOver = 11
number_of ReportLength = 12
number_of VerdictLength = 13
number_of InputLength = 14
number_of BufferLength = 15
number_of State = 16
number_of HoleCount = 17

-- The place of a reason: the rule, the hole's index (live: the expected tick), the expected tick, the reply's index, else 0.
abbrev pub place_of : Refusal → ℕ
place_of (Limits rule) = rule
place_of (Hole place) = place
place_of (Coverage tick) = tick
place_of (ReplyTick reply) = reply
place_of TooShort = 0
place_of Version = 0
place_of CellCount = 0
place_of IdleCurrent = 0
place_of PastEnd = 0
place_of RuleCount = 0
place_of LeftOver = 0
place_of ReportLength = 0
place_of VerdictLength = 0
place_of InputLength = 0
place_of BufferLength = 0
place_of State = 0
place_of HoleCount = 0

-- The text of a refusal, as programs write it: its number and its place in decimal.
abbrev pub refusal_text : ℕ → ℕ → List ℕ
refusal_text number place = codes "refused " ++ decimal number ++ codes " at " ++ decimal place

-- What a call answers, in the paper's numbers: a value, or the number and the place of a refusal.
pub data Answer (A : Type 0) : Type 0 where
  answer : A → Answer A
  refused : ℕ → ℕ → Answer A

-- The answer of a call that refuses.
abbrev pub refusal : {A : Type 0} → Refusal → Answer A
refusal r = refused (number_of r) (place_of r)

-- What a call answers that hands out a value or refuses.
abbrev pub answer_of : {A : Type 0} → Result A Refusal → Answer A
answer_of (Ok a) = answer a
answer_of (Err why) = refusal why

-- The same, with the value in the paper's terms.
abbrev pub answer_as : {A B : Type 0} → (A → B) → Result A Refusal → Answer B
answer_as f (Ok a) = answer (f a)
answer_as f (Err why) = refusal why

-- What comes after an answer; a refusal ends it.
abbrev pub and_then : {A B : Type 0} → Answer A → (A → Answer B) → Answer B
and_then (answer a) k = k a
and_then (refused number place) k = refused number place

-- Whether a check passes.
abbrev pub passes : {A : Type 0} → Answer A → Bool
passes (answer a) = true
passes (refused number place) = false

-- A buffer or a state after a call: what an answer puts there, or what a refusal leaves.
abbrev pub or_kept : {A B : Type 0} → Answer A → (A → B) → B → B
or_kept (answer a) new old = new a
or_kept (refused number place) new old = old
