-- Paper 01, 'The sixteen rules': the limits of a rule's numbers, and a rule set lent as 160 bytes (refusals 3, 6 and 7).
use Rattle.std.specs.Prelude.{ℕ, suc, ◌+◌, ◌*◌, Bool, true, false, cond, ◌&&◌, ◌||◌, List, [], ◌∷◌, ℤ, pos, negsuc, leb, eqb, length, get_or, Result, Ok, Err}
use Rattle.std.specs.Int.Signed.{lt_z, le_z}
use Rattle.lists.specs.Lists.{tabulate}
use Rattle.refusals.specs.declared.Refusal.{Refusal}
use Rattle.refusals.specs.Refusals.{Answer, answer, refused, refusal, and_then}
use Rattle.bytes_le.specs.Numbers.{u16_at, i32_at}
use Rattle.rules.specs.declared.Side.{Side}
use Rattle.rules.specs.declared.Side.TheVariants.{High, Low}
use Rattle.rules.specs.declared.Row.{Row}
use Rattle.rules.specs.declared.Setting.{Setting}
use Rattle.rules.specs.declared.Settings.{Settings}
use Rattle.rules.specs.Samples.{cell_count}
use Rattle.rules.specs.Table.{rows}
use Rattle.rules.specs.Quantities.{least, most}

-- The number 0.
abbrev pub is_zero : ℤ → Bool
is_zero (pos k) = eqb k 0
is_zero (negsuc k) = false

-- Threshold and recovery of an enabled rule against the range [lo, hi] of its quantity: recovering high, recovering low, latched high, latched low.
unfoldable pub within : Bool → Side → ℤ → ℤ → Setting → Bool
within true High lo hi s = lt_z lo s.recovery && le_z s.recovery s.threshold && lt_z s.threshold hi
within true Low lo hi s = lt_z lo s.threshold && le_z s.threshold s.recovery && lt_z s.recovery hi
within false High lo hi s = le_z lo s.threshold && lt_z s.threshold hi && is_zero s.recovery
within false Low lo hi s = lt_z lo s.threshold && le_z s.threshold hi && is_zero s.recovery

-- A rule's numbers are accepted: it is switched off (time 0), or its time is at most 255 and the rest within the limits.
unfoldable pub limits : ℕ → Row → Setting → Bool
limits n row s =
    eqb s.time 0 || leb s.time 255 && within row.recovers row.side (least row.quantity) (most row.quantity n) s

-- The numbers of rule i in a rule set: threshold i32, recovery i32, time u16.
abbrev pub setting_at : List ℕ → ℕ → Setting
setting_at bytes i =
    record { threshold = i32_at bytes (10 * i); recovery = i32_at bytes (10 * i + 4); time = u16_at bytes (10 * i + 8) }

-- The numbers of all sixteen rules.
abbrev pub settings_of : List ℕ → List Setting
settings_of bytes = tabulate 16 (setting_at bytes)

-- Whether the settings of the rows from number i on are within their limits, or refusal 7 at the lowest rule that is not.
unfoldable pub limits_answer : ℕ → List Row → List Setting → ℕ → Answer (Unit {0})
limits_answer n [] ss i = answer tt
limits_answer n (row ∷ rows) [] i = answer tt
limits_answer n (row ∷ rows) (s ∷ ss) i = cond (limits n row s) (limits_answer n rows ss (suc i)) (refused 7 i)

-- The check of a rule set for n cells: refusal 3 unless n is 3 to 12, 6 unless it has 160 bytes, then 7.
unfoldable pub rule_set_answer : ℕ → List ℕ → Answer (Unit {0})
rule_set_answer n bytes =
    cond (cell_count n) (cond (eqb (length bytes) 160) (limits_answer n rows (settings_of bytes) 0) (refused 6 0)) (refused 3 0)

-- A rule that is switched off.
abbrev pub off : Setting
off = record { threshold = pos 0; recovery = pos 0; time = 0 }

-- The setting of rule i.
abbrev pub setting_of : List Setting → ℕ → Setting
setting_of ss i = get_or ss i off

-- What the check hands on where it passes.
abbrev pub with_settings : Answer (Unit {0}) → List Setting → Answer (List Setting)
with_settings a ss = and_then a (λ done. answer ss)

-- What the check of a rule set answers, in the paper's numbers.
abbrev pub answer_of_settings : Result Settings Refusal → Answer (List Setting)
answer_of_settings (Ok s) = answer s.of
answer_of_settings (Err why) = refusal why
