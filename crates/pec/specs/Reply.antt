-- Paper 01, 'Replies': the six bytes 16h, command, 17h, low, high, PEC, and what the check answers of a reply.
use Rattle.std.specs.Prelude.{ℕ, ◌/◌, ◌%◌, cond, ◌&&◌, List, [], ◌∷◌, ◌++◌, eqb, length, get_or, take}
use Rattle.refusals.specs.Refusals.{Answer, answer, refused}
use Rattle.pec.specs.Code.{pec_of}
use Rattle.pec.specs.declared.Checked.{Checked}
use Rattle.pec.specs.declared.Checked.TheVariants.{Intact, WrongAddress, WrongCode}

-- The verdict that the check of a reply gives, as a number.
abbrev pub number_of : Checked → ℕ
number_of Intact = 0
number_of WrongAddress = 1
number_of WrongCode = 2

-- The bytes of a reply before its code.
abbrev pub body : ℕ → ℕ → List ℕ
body command word = 0x16 ∷ command ∷ 0x17 ∷ word % 256 ∷ word / 256 ∷ []

-- Sealing: refusal 15 for a buffer that is not six bytes long.
abbrev pub seal_answer : List ℕ → Answer (Unit {0})
seal_answer reply = cond (eqb (length reply) 6) (answer tt) (refused 15 0)

-- The buffer after sealing: the six bytes, or what it held where the call refuses.
unfoldable pub sealed : ℕ → ℕ → List ℕ → List ℕ
sealed command word reply = cond (eqb (length reply) 6) (body command word ++ (pec_of (body command word) ∷ [])) reply

-- The verdict of six bytes: 1 where the first or the third is wrong, 2 where the code is, else 0.
unfoldable pub check_verdict : List ℕ → ℕ
check_verdict reply =
    cond (eqb (get_or reply 0 0) 0x16 && eqb (get_or reply 2 0) 0x17) (cond (eqb (pec_of (take 5 reply)) (get_or reply 5 0)) 0 2) 1

-- The check: refusal 15 for a reply that is not six bytes long.
abbrev pub check_answer : List ℕ → Answer ℕ
check_answer reply = cond (eqb (length reply) 6) (answer (check_verdict reply)) (refused 15 0)
