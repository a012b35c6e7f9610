-- Number and place determine a refusal.
use Prim.Native.Nat.{ℕ}
use mathlib.Core.Path.{◌≡◌, refl, sym, ap₂, ◌∙◌}
use mathlib.Core.Bool.{cond}
use lib.Dec.{eqb}
use Rattle.refusals.specs.declared.Refusal.{Refusal}
use Rattle.refusals.specs.declared.Refusal.TheVariants.{TooShort, Version, CellCount, IdleCurrent, PastEnd, RuleCount, Limits, Hole, Coverage, ReplyTick, LeftOver, ReportLength, VerdictLength, InputLength, BufferLength, State, HoleCount}
use Rattle.refusals.specs.Refusals.{number_of, place_of}

-- The refusal of a number and a place.
abbrev refusal_at : ℕ → ℕ → Refusal
refusal_at n p =
    cond (eqb n 1) TooShort
    (cond (eqb n 2) Version
    (cond (eqb n 3) CellCount
    (cond (eqb n 4) IdleCurrent
    (cond (eqb n 5) PastEnd
    (cond (eqb n 6) RuleCount
    (cond (eqb n 7) (Limits p)
    (cond (eqb n 8) (Hole p)
    (cond (eqb n 9) (Coverage p)
    (cond (eqb n 10) (ReplyTick p)
    (cond (eqb n 11) LeftOver
    (cond (eqb n 12) ReportLength
    (cond (eqb n 13) VerdictLength (cond (eqb n 14) InputLength (cond (eqb n 15) BufferLength (cond (eqb n 16) State HoleCount)))))))))))))))

back : (r : Refusal) → refusal_at (number_of r) (place_of r) ≡ r
back TooShort = refl
back Version = refl
back CellCount = refl
back IdleCurrent = refl
back PastEnd = refl
back RuleCount = refl
back (Limits rule) = refl
back (Hole place) = refl
back (Coverage tick) = refl
back (ReplyTick reply) = refl
back LeftOver = refl
back ReportLength = refl
back VerdictLength = refl
back InputLength = refl
back BufferLength = refl
back State = refl
back HoleCount = refl

pub determined : (r s : Refusal) → number_of r ≡ number_of s → place_of r ≡ place_of s → r ≡ s
determined r s n p = sym (back r) ∙ ap₂ refusal_at n p ∙ back s
