-- Paper 01, 'The sixteen rules': of an enabled rule within its limits every test can be met and none meets both.
use Rattle.std.specs.Prelude.{Bool, T}
use Rattle.rules.specs.Samples.{Sample, Carried, readings_of}
use Rattle.rules.specs.Evaluation.{trips, clears}
use Rattle.fillings.specs.Fillings.{Rule}

-- A sample meets the rule's threshold.
abbrev pub meets_threshold : Rule → Sample → Bool
meets_threshold r x = trips r.idle r.row r.setting (readings_of x)

-- A sample meets the rule's recovery.
abbrev pub meets_recovery : Rule → Sample → Bool
meets_recovery r x = clears r.row r.setting (readings_of x)

-- What the limits of a rule's numbers are for.
pub record TestsMet (r : Rule) : Type 0 where
  pub threshold : (x : Sample) × Carried r.cells x × T (meets_threshold r x)
  pub recovery : T r.row.recovers → (x : Sample) × Carried r.cells x × T (meets_recovery r x)
  pub not_both : (x : Sample) → ¬ (T (meets_threshold r x) × T (meets_recovery r x))
