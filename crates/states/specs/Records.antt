-- Paper 01, 'The form for each place': the possible states of all rules in one record, a flat array of eighty words of 64 bits, five a rule.
use Rattle.std.specs.Prelude.{ℕ, suc, ◌+◌, ◌*◌, ◌^◌, ◌/◌, ◌%◌, ◌<◌, Bool, true, cond, List, [], ◌∷◌, eqb, get_or, take, drop}
use Rattle.lists.specs.Lists.{tabulate}
use Rattle.fillings.specs.PossibleStates.{start}

-- Bit r of a word.
unfoldable pub bit : ℕ → ℕ → Bool
bit w r = eqb (w / 2 ^ r % 2) 1

-- Bit p of a list of words, the lowest word first.
unfoldable pub at : List ℕ → ℕ → Bool
at ws p = bit (get_or ws (p / 64) 0) (p % 64)

-- Every word of a list fits 64 bits.
abbrev pub Fit64 : List ℕ → Type 0
Fit64 w = (j : ℕ) → get_or w j 0 < 2 ^ 64

-- The set of the states 0 to m that five words hold: state s is bit s.
unfoldable pub states_of : List ℕ → ℕ → List Bool
states_of ws m = tabulate (suc m) (at ws)

-- The number with these bits, the lowest first.
unfoldable pub word_of : List Bool → ℕ
word_of [] = 0
word_of (b ∷ bs) = cond b 1 0 + word_of bs * 2

-- The five words that hold a set, with no other bit.
unfoldable pub words_of : List Bool → List ℕ
words_of p = tabulate 5 (λ j. word_of (take 64 (drop (64 * j) p)))

-- The five words of rule i in a record.
abbrev pub rule_words : List ℕ → ℕ → List ℕ
rule_words ws i = take 5 (drop (5 * i) ws)

-- The record with new words for the rules that change; the words of the others stay.
unfoldable pub record_with : (ℕ → Bool) → (ℕ → List ℕ) → List ℕ → List ℕ
record_with changes new ws = tabulate 80 (λ k. cond (changes (k / 5)) (get_or (new (k / 5)) (k % 5) 0) (get_or ws k 0))

-- The record of sixteen sets.
abbrev pub packed : (ℕ → List Bool) → List ℕ
packed sets = record_with (λ i. true) (λ i. words_of (sets i)) []

-- Every rule at state 0 alone.
abbrev pub fresh : List ℕ
fresh = packed (λ i. start 0)
