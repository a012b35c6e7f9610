-- Paper 01, 'Marked cases': the fourteen cases and the flags of case 8, computed from the definitions, and what the paper says of them.
use Rattle.std.specs.Prelude.{ℕ, suc, Bool, true, false, List, [], ◌∷◌, pos, replicate, length, get_or}
use Rattle.rules.specs.Table.{row_at}
use Rattle.flags.specs.declared.Flag.{Flag}
use Rattle.flags.specs.declared.Flag.TheVariants.{Held, Unknown}
use Rattle.fillings.specs.Fillings.{Rule, Shown, seen, unseen}
use Rattle.fillings.specs.PossibleStates.{possible}
use Rattle.fillings.specs.Flags.{alert_flag, status_flag}

-- The states of a set, counted from i.
abbrev pub states_from : ℕ → List Bool → List ℕ
states_from i [] = []
states_from i (true ∷ p) = i ∷ states_from (suc i) p
states_from i (false ∷ p) = states_from (suc i) p

-- A sample whose three cells all read v, at a board temperature.
abbrev pub cells : ℕ → ℕ → Shown
cells v b = seen (record { current = pos 0; board = pos b; volts = replicate 3 v; temps = replicate 3 (pos 0) })

-- Rule i with its numbers.
abbrev pub rule_with : ℕ → ℕ → ℕ → ℕ → Rule
rule_with i threshold recovery time =
    record { cells = 3; idle = 0; row = row_at i; setting = record { threshold = pos threshold; recovery = pos recovery; time = time } }

-- The possible states of rule i, with its numbers, at the end of a list of ticks.
abbrev pub states_after : ℕ → ℕ → ℕ → ℕ → List Shown → List ℕ
states_after i threshold recovery time ticks =
    states_from 0 (possible (rule_with i threshold recovery time) (λ k. get_or ticks k unseen) (length ticks))

-- Highest cell 4,300: above the threshold.
abbrev pub S : Shown
S = cells 4300 0

-- Highest cell 4,150: neither.
abbrev pub N : Shown
N = cells 4150 0

-- Highest cell 4,000: below the recovery.
abbrev pub R : Shown
R = cells 4000 0

-- A one-tick hole.
abbrev pub H : Shown
H = unseen

-- Rule 0 with the cases' numbers.
abbrev pub rule0 : List Shown → List ℕ
rule0 = states_after 0 4200 4100 3

-- The fourteen cases from the definitions.
abbrev pub computed_cases : List (List ℕ)
computed_cases =
    rule0 (S ∷ S ∷ [])
    ∷ rule0 (S ∷ S ∷ S ∷ [])
    ∷ rule0 (S ∷ S ∷ S ∷ N ∷ [])
    ∷ rule0 (S ∷ S ∷ S ∷ R ∷ [])
    ∷ rule0 (S ∷ S ∷ S ∷ cells 4100 0 ∷ [])
    ∷ rule0 (S ∷ S ∷ cells 4200 0 ∷ [])
    ∷ rule0 (S ∷ S ∷ H ∷ [])
    ∷ rule0 (S ∷ S ∷ H ∷ S ∷ [])
    ∷ rule0 (S ∷ S ∷ H ∷ N ∷ [])
    ∷ rule0 (S ∷ S ∷ H ∷ R ∷ [])
    ∷ rule0 (S ∷ S ∷ S ∷ H ∷ H ∷ [])
    ∷ states_after 10 4200 0 3 (S ∷ S ∷ H ∷ R ∷ [])
    ∷ states_after 8 600 500 1 (cells 4000 250 ∷ H ∷ [])
    ∷ states_after 0 4200 4100 0 (H ∷ H ∷ H ∷ H ∷ H ∷ [])
    ∷ []

-- What the paper says.
abbrev pub marked_cases : List (List ℕ)
marked_cases =
    (2 ∷ [])
    ∷ (3 ∷ [])
    ∷ (3 ∷ [])
    ∷ (0 ∷ [])
    ∷ (3 ∷ [])
    ∷ (0 ∷ [])
    ∷ (0 ∷ 3 ∷ [])
    ∷ (1 ∷ 3 ∷ [])
    ∷ (0 ∷ 3 ∷ [])
    ∷ (0 ∷ [])
    ∷ (0 ∷ 1 ∷ 3 ∷ [])
    ∷ (0 ∷ 3 ∷ [])
    ∷ (0 ∷ [])
    ∷ (0 ∷ [])
    ∷ []

-- Alert and status of rule 0 with the cases' numbers, at the end of a list of ticks.
abbrev pub flags0 : List Shown → List Flag
flags0 ticks =
    alert_flag (rule_with 0 4200 4100 3) (λ k. get_or ticks k unseen) (length ticks)
    ∷ status_flag (rule_with 0 4200 4100 3) (λ k. get_or ticks k unseen) (length ticks)
    ∷ []

-- The flags of case 8 from the definitions.
abbrev pub case_flags : List Flag
case_flags = flags0 (S ∷ S ∷ H ∷ S ∷ [])

-- What the paper says: alert held, status unknown.
abbrev pub marked_flags : List Flag
marked_flags = Held ∷ Unknown ∷ []
