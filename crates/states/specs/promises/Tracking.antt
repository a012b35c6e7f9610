-- The record of a trace's possible states, and its flags: what the steps keep and the readings give.
use Rattle.std.specs.Prelude.{ℕ, suc, ◌≤◌, ◌<◌, ◌≡◌, List, T}
use Rattle.rules.specs.declared.Setting.{Setting}
use Rattle.rules.specs.Samples.{Sample, readings_of}
use Rattle.fillings.specs.Fillings.{Shown, seen, unseen, Config, rule_of}
use Rattle.fillings.specs.PossibleStates.{possible}
use Rattle.fillings.specs.Flags.{flags_at}
use Rattle.states.specs.Records.{Fit64, packed, fresh}
use Rattle.limits.specs.Limits.{setting_of}
use Rattle.states.specs.Steps.{set_of, after_seen, after_unseen}
use Rattle.states.specs.Readings.{all_flags}
use Rattle.states.specs.Validity.{valid_record}

-- The record of the possible states once the first k ticks have passed.
abbrev pub record_at : Config → (ℕ → Shown) → ℕ → List ℕ
record_at p trace k = packed (λ i. possible (rule_of p i) trace k)

-- No time is over 255.
abbrev pub ShortTimes : Config → Type 0
ShortTimes p = (i : ℕ) → (setting_of p.settings i).time ≤ 255

-- What the code's record has to do with a trace: it begins with the possible states, each step keeps them, and its flags are the trace's.
pub record Tracks (p : Config) (trace : ℕ → Shown) : Type 0 where
  pub begins : fresh ≡ record_at p trace 0
  pub sees : (k : ℕ) (x : Sample) → trace k ≡ seen x → after_seen p.settings p.idle k (readings_of x) (record_at p trace k) ≡ record_at p trace (suc k)
  pub misses : (first last : ℕ) → first ≤ last → ((t : ℕ) → first ≤ t → t ≤ last → trace t ≡ unseen)
      → after_unseen p.settings first last (record_at p trace first) ≡ record_at p trace (suc last)
  pub reads : (k : ℕ) → all_flags p.settings (record_at p trace k) ≡ flags_at p trace k

-- Valid records that allow the same states are the same record: no bit is spare.
abbrev pub Determined : Type 0
Determined = (ss : List Setting) (v w : List ℕ) → Fit64 v → Fit64 w → T (valid_record ss v) → T (valid_record ss w)
    → ((i : ℕ) → i < 16 → set_of (setting_of ss i) i v ≡ set_of (setting_of ss i) i w) → v ≡ w
