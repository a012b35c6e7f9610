-- Paper 01, 'Replies': the verdict on a reply, from the flags after its tick's evaluations. Verdict is paper 01's term.
use Rattle.std.specs.Prelude.{ℕ, ◌+◌, ◌*◌, ◌/◌, ◌%◌, Bool, true, false, not, cond, ◌&&◌, ◌||◌, List, ℤ, eqb, length, get_or}
use Rattle.std.specs.Int.Signed.{le_z}
use Rattle.std.specs.Int.{w16}
use Rattle.std.proofs.Common.{to_z}
use Rattle.refusals.specs.Refusals.{Answer, answer, refused}
use Rattle.pec.specs.Reply as reply
use Rattle.flags.specs.declared.Flag.{Flag}
use Rattle.flags.specs.declared.Flag.TheVariants.{Clear, Held, Unknown}
use Rattle.verdicts.specs.declared.Tick.{Tick}
use Rattle.verdicts.specs.declared.Tick.TheVariants.{Seen, Unseen}
use Rattle.verdicts.specs.declared.Alarms.{Alarms}
use Rattle.verdicts.specs.declared.Verdict.{Verdict}
use Rattle.verdicts.specs.declared.Verdict.TheVariants.{WrongAddress, WrongCode, OtherCommand, Agrees, Differs, CannotTell}

-- The number of a verdict.
abbrev pub number_of : Verdict → ℕ
number_of WrongAddress = 1
number_of WrongCode = 2
number_of OtherCommand = 3
number_of Agrees = 4
number_of Differs = 5
number_of CannotTell = 6

-- The word of a reply: low byte, high byte.
abbrev pub word_of : List ℕ → ℕ
word_of bytes = get_or bytes 3 0 + get_or bytes 4 0 * 256

-- Whether two integers are the same.
abbrev pub same_z : ℤ → ℤ → Bool
same_z a b = le_z a b && le_z b a

-- Voltage: agrees if the word equals the sum of cells, 6 at a hole's tick.
abbrev pub voltage_verdict : Tick → ℕ → ℕ
voltage_verdict (Seen sum current) word = cond (eqb word sum) 4 5
voltage_verdict Unseen word = 6

-- Current: agrees if the word is the sample's signed current, 6 at a hole's tick.
abbrev pub current_verdict : Tick → ℕ → ℕ
current_verdict (Seen sum current) word = cond (same_z (to_z w16 word) current) 4 5
current_verdict Unseen word = 6

-- A bit of the word, given as the power of two that it counts.
abbrev pub reads : ℕ → ℕ → Bool
reads bit word = eqb (word / bit % 2) 1

-- A held bit that reads 0.
abbrev pub missed : Flag → Bool → Bool
missed Held one = not one
missed Clear one = false
missed Unknown one = false

-- A clear bit that reads 1.
abbrev pub invented : Flag → Bool → Bool
invented Clear one = one
invented Held one = false
invented Unknown one = false

-- Unknown.
abbrev pub is_unknown : Flag → Bool
is_unknown Clear = false
is_unknown Held = false
is_unknown Unknown = true

-- BatteryStatus: 5 if a held bit of 4000h, 1000h, 0800h reads 0, or 1000h is clear and reads 1; else 6 if one of the three is unknown; else 4.
abbrev pub status_verdict : Alarms → ℕ → ℕ
status_verdict a word =
    cond (missed a.terminate_charge (reads 0x4000 word) || missed a.over_temp (reads 0x1000 word) || missed a.terminate_discharge (reads 0x0800 word) || invented a.over_temp (reads 0x1000 word)) 5
    (cond (is_unknown a.terminate_charge || is_unknown a.over_temp || is_unknown a.terminate_discharge) 6 4)

-- The verdict by the command: 09h, 0Ah, 16h, and 3 for any other.
abbrev pub command_verdict : Tick → Alarms → ℕ → ℕ → ℕ
command_verdict tick a command word =
    cond (eqb command 0x09) (voltage_verdict tick word)
    (cond (eqb command 0x0A) (current_verdict tick word) (cond (eqb command 0x16) (status_verdict a word) 3))

-- The verdict on six bytes: 1 and 2 come first.
abbrev pub verdict_of : Tick → Alarms → List ℕ → ℕ
verdict_of tick a bytes =
    cond (eqb (reply.check_verdict bytes) 0) (command_verdict tick a (get_or bytes 1 0) (word_of bytes)) (reply.check_verdict bytes)

-- The verdict on a reply, or refusal 15 for one that is not six bytes long.
unfoldable pub verdict_answer : Tick → Alarms → List ℕ → Answer ℕ
verdict_answer tick a bytes = cond (eqb (length bytes) 6) (answer (verdict_of tick a bytes)) (refused 15 0)
