-- Paper 01, 'Three-way outputs': alert and status as flags over the possible states, and the report's first ticks.
use Rattle.std.specs.Prelude.{ℕ, zero, suc, Bool, true, false, not, cond, ◌&&◌, List}
use Rattle.lists.specs.Lists.{tabulate, some_below}
use Rattle.flags.specs.declared.Flag.{Flag}
use Rattle.flags.specs.declared.Flag.TheVariants.{Clear, Held, Unknown}
use Rattle.flags.specs.declared.RuleFlags.{RuleFlags}
use Rattle.flags.specs.Flags.{flag_of}
use Rattle.rules.specs.declared.Row.{Row}
use Rattle.rules.specs.Evaluation.{alert, status}
use Rattle.fillings.specs.Fillings.{Rule, last, Shown, Config, rule_of}
use Rattle.fillings.specs.PossibleStates.{has, possible}

-- The flag of a property of states over a set of the states 0 to m.
unfoldable pub flag : ℕ → (ℕ → Bool) → List Bool → Flag
flag m test p = flag_of (some_below (suc m) (λ s. has p s && test s)) (some_below (suc m) (λ s. has p s && not (test s)))

-- The alert and the status of a rule of a row over a set of the states 0 to m.
abbrev pub flags_of : Row → ℕ → List Bool → RuleFlags
flags_of row m p = record { alert = flag m alert p; status = flag m (status m) p }

-- The flags of a rule once the first k ticks have passed.
abbrev pub rule_flags : Rule → (ℕ → Shown) → ℕ → RuleFlags
rule_flags r trace k = flags_of r.row (last r) (possible r trace k)

-- Alert once the first k ticks have passed.
abbrev pub alert_flag : Rule → (ℕ → Shown) → ℕ → Flag
alert_flag r trace k = (rule_flags r trace k).alert

-- Status once the first k ticks have passed.
abbrev pub status_flag : Rule → (ℕ → Shown) → ℕ → Flag
status_flag r trace k = (rule_flags r trace k).status

-- The flags of all rules once the first k ticks have passed.
abbrev pub flags_at : Config → (ℕ → Shown) → ℕ → List RuleFlags
flags_at p trace k = tabulate 16 (λ i. rule_flags (rule_of p i) trace k)

-- Held or unknown.
abbrev pub not_clear : Flag → Bool
not_clear Clear = false
not_clear Held = true
not_clear Unknown = true

-- Held.
abbrev pub is_held : Flag → Bool
is_held Clear = false
is_held Held = true
is_held Unknown = false

-- The first of n ticks from i on at which a test holds, and FFFFFFFFh for none.
unfoldable pub first_from : ℕ → ℕ → (ℕ → Bool) → ℕ
first_from i zero test = 0xFFFFFFFF
first_from i (suc n) test = cond (test i) i (first_from (suc i) n test)

-- The first of n ticks at which status is held or unknown.
abbrev pub first_possible : Rule → (ℕ → Shown) → ℕ → ℕ
first_possible r trace n = first_from 0 n (λ t. not_clear (status_flag r trace (suc t)))

-- The first of n ticks at which status is held.
abbrev pub first_held : Rule → (ℕ → Shown) → ℕ → ℕ
first_held r trace n = first_from 0 n (λ t. is_held (status_flag r trace (suc t)))
