-- Demand 3 over any sequence of seen and unseen ticks: what is promised of a rule, of the outputs, and of the net charge.
use Rattle.std.specs.Prelude.{ℕ, suc, ◌≤◌, ◌<◌, ◌≡◌, ◌⊎◌, ◌↔◌, Bool, not, T}
use Rattle.std.specs.Int.Signed.{le_z}
use Rattle.rules.specs.declared.Row.{Row}
use Rattle.rules.specs.Samples.{Sample, readings_of}
use Rattle.rules.specs.Evaluation.{trips, clears, alert, status, evaluated, evaluations}
use Rattle.flags.specs.declared.Flag.TheVariants.{Clear, Held, Unknown}
use Rattle.fillings.specs.Fillings.{Rule, last, Shown, seen, unseen, Filling, after, Config}
use Rattle.fillings.specs.PossibleStates.{has, possible}
use Rattle.fillings.specs.Flags.{alert_flag, status_flag, first_possible, first_held}
use Rattle.fillings.specs.Outputs.{output, active}
use Rattle.fillings.specs.Charge.{net_charge, least_charge, greatest_charge}

-- Some filling gives state s once the first k ticks have passed: paper 01's 'a state is possible'.
abbrev pub Possible : Rule → (ℕ → Shown) → ℕ → ℕ → Type 0
Possible r trace k s = (f : ℕ → Sample) × Filling r.cells trace f × (after r trace f k ≡ s)

-- A test of the state holds under every filling.
abbrev pub Always : Rule → (ℕ → Shown) → ℕ → (ℕ → Bool) → Type 0
Always r trace k test = (f : ℕ → Sample) → Filling r.cells trace f → T (test (after r trace f k))

-- A test of the state holds under some filling.
abbrev pub Sometimes : Rule → (ℕ → Shown) → ℕ → (ℕ → Bool) → Type 0
Sometimes r trace k test = (f : ℕ → Sample) × Filling r.cells trace f × T (test (after r trace f k))

-- Every filling gives the rule the same state once the first k ticks have passed.
abbrev pub Sure : Rule → (ℕ → Shown) → ℕ → Type 0
Sure r trace k =
    (f g : ℕ → Sample) → Filling r.cells trace f → Filling r.cells trace g → after r trace f k ≡ after r trace g k

-- t is the first of n ticks with a property, or there is none and t is FFFFFFFFh.
abbrev pub First : ℕ → (ℕ → Type 0) → ℕ → Type 0
First n P t = ((t < n) × P t × ((u : ℕ) → u < t → ¬ P u)) ⊎ ((t ≡ 0xFFFFFFFF) × ((u : ℕ) → u < n → ¬ P u))

-- Every tick from a up to, but not with, k is seen, and its sample meets the threshold if the rule is evaluated there.
abbrev pub Tripping : Rule → (ℕ → Shown) → ℕ → ℕ → Type 0
Tripping r trace a k =
    (t : ℕ) → a ≤ t → t < k
    → (x : Sample) × (trace t ≡ seen x) × (T (evaluated r.row t) → T (trips r.idle r.row r.setting (readings_of x)))

-- What is promised of one rule over a sequence of ticks.
pub record Judged (r : Rule) (trace : ℕ → Shown) (ticks : ℕ) : Type 0 where
  -- a state is in the computed set exactly if some filling gives it
  pub exact : (k s : ℕ) → T (has (possible r trace k) s) ↔ Possible r trace k s
  -- once any number of ticks have passed alert and status read held exactly if held under every filling, clear exactly if under none, else unknown
  pub alert_held : (k : ℕ) → (alert_flag r trace k ≡ Held) ↔ Always r trace k alert
  pub alert_clear : (k : ℕ) → (alert_flag r trace k ≡ Clear) ↔ Always r trace k (λ s. not (alert s))
  pub alert_unknown : (k : ℕ) → (alert_flag r trace k ≡ Unknown) ↔ (Sometimes r trace k alert × Sometimes r trace k (λ s. not (alert s)))
  pub status_held : (k : ℕ) → (status_flag r trace k ≡ Held) ↔ Always r trace k (status (last r))
  pub status_clear : (k : ℕ) → (status_flag r trace k ≡ Clear) ↔ Always r trace k (λ s. not (status (last r) s))
  pub status_unknown : (k : ℕ) → (status_flag r trace k ≡ Unknown) ↔ (Sometimes r trace k (status (last r)) × Sometimes r trace k (λ s. not (status (last r) s)))
  -- the two first ticks
  pub first_some : First ticks (λ t. Sometimes r trace (suc t) (status (last r))) (first_possible r trace ticks)
  pub first_all : First ticks (λ t. Always r trace (suc t) (status (last r))) (first_held r trace ticks)
  -- sure at a seen evaluation that meets the recovery
  pub sure_recovered : (t : ℕ) (x : Sample) → T (evaluated r.row t) → trace t ≡ seen x → T (clears r.row r.setting (readings_of x)) → Sure r trace (suc t)
  -- sure once as many seen evaluations in a row as the top state have met the threshold
  pub sure_counted : (a t : ℕ) → Tripping r trace a (suc t) → last r ≤ evaluations r.row a (suc t) → Sure r trace (suc t)
  -- from a sure tick on, fillings that are alike at all later ticks agree in state, alert and status
  pub sure_onwards : (t : ℕ) → Sure r trace (suc t) → (f g : ℕ → Sample) → Filling r.cells trace f → Filling r.cells trace g
      → ((u : ℕ) → t < u → trace u ≡ unseen → f u ≡ g u)
      → (u : ℕ) → t ≤ u
      → (after r trace f (suc u) ≡ after r trace g (suc u))
      × (alert (after r trace f (suc u)) ≡ alert (after r trace g (suc u)))
      × (status (last r) (after r trace f (suc u)) ≡ status (last r) (after r trace g (suc u)))

-- What is promised of an output: what reads held or clear is so under every filling.
pub record OutputSound (drives : Row → Bool) (p : Config) (trace : ℕ → Shown) : Type 0 where
  pub when_held : (k : ℕ) (f : ℕ → Sample) → Filling p.cells trace f → output drives p trace k ≡ Held → T (active drives p trace f k)
  pub when_clear : (k : ℕ) (f : ℕ → Sample) → Filling p.cells trace f → output drives p trace k ≡ Clear → T (not (active drives p trace f k))

-- What is promised of the net charge: the bounds hold under every filling, and both are reached.
pub record ChargeBounded (n : ℕ) (trace : ℕ → Shown) (k : ℕ) : Type 0 where
  pub above : (f : ℕ → Sample) → Filling n trace f → T (le_z (least_charge trace k) (net_charge trace f k))
  pub below : (f : ℕ → Sample) → Filling n trace f → T (le_z (net_charge trace f k) (greatest_charge trace k))
  pub reached_least : (f : ℕ → Sample) × Filling n trace f × (net_charge trace f k ≡ least_charge trace k)
  pub reached_greatest : (f : ℕ → Sample) × Filling n trace f × (net_charge trace f k ≡ greatest_charge trace k)
