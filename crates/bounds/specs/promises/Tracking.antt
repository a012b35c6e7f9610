-- What the states and the first ticks have to do with a trace.
use Rattle.std.specs.Prelude.{ℕ, suc, ◌≤◌, ◌<◌, ◌≡◌, List}
use Rattle.rules.specs.Samples.{Sample, readings_of}
use Rattle.fillings.specs.Fillings.{Shown, seen, unseen, Config, rule_of}
use Rattle.fillings.specs.Flags.{flags_at, first_possible, first_held}
use Rattle.fillings.specs.Bounds.{least_after, greatest_after}
use Rattle.bounds.specs.Lanes.{paired}
use Rattle.bounds.specs.Plan.{tests_of, lanes_of}
use Rattle.bounds.specs.Steps.{Within32, states_seen, states_missed, flags_of_states}
use Rattle.bounds.specs.Firsts.{none, firsts_seen, firsts_missed}

-- The least states of the sixteen rules once the first k ticks have passed, then the greatest.
abbrev pub states_at : Config → (ℕ → Shown) → ℕ → List ℕ
states_at p trace k = paired (λ i. least_after (rule_of p i) trace k) (λ i. greatest_after (rule_of p i) trace k)

-- Their first ticks among the first k at which status is held, then those at which it is held or unknown.
abbrev pub firsts_at : Config → (ℕ → Shown) → ℕ → List ℕ
firsts_at p trace k = paired (λ i. first_held (rule_of p i) trace k) (λ i. first_possible (rule_of p i) trace k)

-- They begin at 0 and with no tick, each step keeps them, and the states give the flags.
pub record Tracked (p : Config) (trace : ℕ → Shown) : Type 0 where
  pub begins : paired (λ i. 0) (λ i. 0) ≡ states_at p trace 0
  pub begins_firsts : paired (λ i. none) (λ i. none) ≡ firsts_at p trace 0
  pub sees : (k : ℕ) (x : Sample) → trace k ≡ seen x → Within32 (readings_of x)
      → states_seen (tests_of p.settings) (lanes_of p.settings) p.idle k (readings_of x) (states_at p trace k) ≡ states_at p trace (suc k)
  pub sees_firsts : (k : ℕ) → k < none
      → firsts_seen (lanes_of p.settings) k (states_at p trace k) (states_at p trace (suc k)) (firsts_at p trace k) ≡ firsts_at p trace (suc k)
  pub misses : (first last : ℕ) → first ≤ last → ((t : ℕ) → first ≤ t → t ≤ last → trace t ≡ unseen)
      → states_missed (lanes_of p.settings) first last (states_at p trace first) ≡ states_at p trace (suc last)
  pub misses_firsts : (first last : ℕ) → first ≤ last → last < none → ((t : ℕ) → first ≤ t → t ≤ last → trace t ≡ unseen)
      → firsts_missed (lanes_of p.settings) first last (states_at p trace first) (firsts_at p trace first) ≡ firsts_at p trace (suc last)
  pub reads : (k : ℕ) → flags_of_states (lanes_of p.settings) (states_at p trace k) ≡ flags_at p trace k
