-- What the C functions answer: one number, and in a lent list the bounds of a net charge, or what is read of voltages.
use Rattle.std.specs.Prelude.{ℕ, ◌+◌, ◌*◌, cond, List, [], ◌∷◌, ℤ, eqb, length}
use Rattle.refusals.specs.Refusals.{Answer, answer, refused}
use Rattle.samples.specs.declared.Voltages.{Voltages}
use Rattle.totals.specs.declared.NetCharge.{NetCharge}

-- The number and the place of a refusal as one number.
abbrev pub refusal_code : ℕ → ℕ → ℕ
refusal_code number place = number * 4294967296 + place

-- 0 for a call that was carried out; else its refusal.
abbrev pub code_of : {A : Type 0} → Answer A → ℕ
code_of (answer done) = 0
code_of (refused number place) = refusal_code number place

-- The value of a call, or its refusal.
abbrev pub value_code : Answer ℕ → ℕ
value_code (answer value) = value
value_code (refused number place) = refusal_code number place

-- The answer of a call that is lent a list for two numbers: 15 for another length, after its own refusals.
abbrev pub into_two : {A : Type 0} → List ℤ → Answer A → Answer A
into_two two (answer a) = cond (eqb (length two) 2) (answer a) (refused 15 0)
into_two two (refused number place) = refused number place

-- The list afterwards: least and greatest, or what it held.
abbrev pub two_after : List ℤ → Answer NetCharge → List ℤ
two_after two (answer b) = b.least ∷ b.greatest ∷ []
two_after two (refused number place) = two

-- The answer of a call that is lent a list for k numbers: 15 for another length, after its own refusals.
abbrev pub into : {A X : Type 0} → ℕ → List X → Answer A → Answer A
into k list (answer a) = cond (eqb (length list) k) (answer a) (refused 15 0)
into k list (refused number place) = refused number place

-- The three numbers of voltages: highest, lowest, sum.
abbrev pub voltages_list : Voltages → List ℕ
voltages_list v = v.highest ∷ v.lowest ∷ v.sum ∷ []
