-- Paper 01, 'Refusal numbers': the lines that the program writes, in ASCII.
use Rattle.std.specs.Prelude.{ℕ, zero, suc, ◌/◌, ◌%◌, cond, List, [], ◌∷◌, ◌++◌, map, ltb, leb, length}
use Rattle.io.specs.Digits.{hex_digit_ascii, last_digits}

-- 'accepted' and the end of the line
abbrev pub accepted_line : List ℕ
accepted_line = 97 ∷ 99 ∷ 99 ∷ 101 ∷ 112 ∷ 116 ∷ 101 ∷ 100 ∷ 10 ∷ []

-- Bytes as lower-case hex digits, two each.
unfoldable pub hex_digits : List ℕ → List ℕ
hex_digits [] = []
hex_digits (byte ∷ bytes) = last_digits 16 2 byte ++ hex_digits bytes

-- The line of a report.
abbrev pub hex_line : List ℕ → List ℕ
hex_line report = hex_digits report ++ (10 ∷ [])

-- Verdicts as their digits; of a number above nine, which no verdict is, the last digit.
abbrev pub verdict_digits : List ℕ → List ℕ
verdict_digits verdicts = map (λ v. hex_digit_ascii (v % 10)) verdicts

-- The three lines of an accepted trace: 'accepted', the report, the verdicts.
abbrev pub accepted_lines : List ℕ → List ℕ → List ℕ
accepted_lines report verdicts = accepted_line ++ hex_line report ++ verdict_digits verdicts ++ (10 ∷ [])

-- 'refused '
abbrev pub refused_word : List ℕ
refused_word = 114 ∷ 101 ∷ 102 ∷ 117 ∷ 115 ∷ 101 ∷ 100 ∷ 32 ∷ []

-- ' at '
abbrev pub at_word : List ℕ
at_word = 32 ∷ 97 ∷ 116 ∷ 32 ∷ []

-- A number of at most k + 1 digits in decimal: below ten its digit, else the decimal of its tenth and its last digit.
unfoldable pub decimal_up_to : ℕ → ℕ → List ℕ
decimal_up_to zero n = hex_digit_ascii (n % 10) ∷ []
decimal_up_to (suc k) n = cond (ltb n 10) (hex_digit_ascii (n % 10) ∷ []) (decimal_up_to k (n / 10) ++ (hex_digit_ascii (n % 10) ∷ []))

-- A number of 64 bits in decimal.
abbrev pub decimal : ℕ → List ℕ
decimal n = decimal_up_to 19 n

-- The line of a refusal: its number and its place in decimal.
abbrev pub refusal_line : ℕ → ℕ → List ℕ
refusal_line number place = (refused_word ++ decimal number) ++ (at_word ++ decimal place) ++ (10 ∷ [])

-- How many bytes of a line are put at the start of a buffer: all, or none where it does not fit.
abbrev pub put_length : List ℕ → List ℕ → ℕ
put_length buffer line = cond (leb (length line) (length buffer)) (length line) 0
