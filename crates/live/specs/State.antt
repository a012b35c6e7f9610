-- Paper 01, 'Live feed': the state, and which states are good ones (refusal 16).
use Rattle.std.specs.Prelude.{ℕ, ◌+◌, ◌-◌, suc, Bool, ◌&&◌, List, leb}
use Rattle.refusals.specs.Refusals.{passes}
use Rattle.rules.specs.declared.Setting.{Setting}
use Rattle.rules.specs.Table.{rows}
use Rattle.rules.specs.Samples.{Sample, cell_count, readings_of}
use Rattle.limits.specs.Limits.{limits_answer}
use Rattle.fillings.specs.Charge.{inward, outward}
use Rattle.report.specs.declared.Totals.{Totals}
use Rattle.totals.specs.Totals.{countable}
use Rattle.states.specs.Records.{fresh}
use Rattle.states.specs.Steps.{after_seen, after_unseen}
use Rattle.states.specs.Validity.{valid_record}
use Rattle.live.specs.declared.Live.{Live}

-- The head and the rules of a state are within their limits.
abbrev pub good_rules : Live → Bool
good_rules s = cell_count s.cells && leb s.idle 32766 && passes (limits_answer s.cells rows s.settings.of 0)

-- In and out are at most 32,768 × ticks, unseen at most ticks.
abbrev pub good_totals : Totals → Bool
good_totals t = countable t.charge_in t.charge_out t.unseen t.ticks

-- A good state; any other is refusal 16.
unfoldable pub good : Live → Bool
good s = good_rules s && valid_record s.settings.of s.states.words && good_totals s.totals

-- The state at the beginning: every rule at state 0, nothing counted.
abbrev pub begun : ℕ → ℕ → List Setting → Live
begun n idle ss =
    record {
      cells = n;
      idle = idle;
      settings = record { of = ss };
      states = record { words = fresh };
      totals = record { charge_in = 0; charge_out = 0; unseen = 0; ticks = 0 };
    }

-- The state after a sample at the expected tick.
unfoldable pub with_sample : Live → Sample → Live
with_sample s x =
    record {
      cells = s.cells;
      idle = s.idle;
      settings = s.settings;
      states = record { words = after_seen s.settings.of s.idle s.totals.ticks (readings_of x) s.states.words };
      totals = record { charge_in = s.totals.charge_in + inward x.current; charge_out = s.totals.charge_out + outward x.current; unseen = s.totals.unseen; ticks = s.totals.ticks + 1 };
    }

-- The state after a hole from the expected tick up to its last tick.
unfoldable pub with_hole : Live → ℕ → Live
with_hole s last =
    record {
      cells = s.cells;
      idle = s.idle;
      settings = s.settings;
      states = record { words = after_unseen s.settings.of s.totals.ticks last s.states.words };
      totals = record { charge_in = s.totals.charge_in; charge_out = s.totals.charge_out; unseen = s.totals.unseen + (suc last - s.totals.ticks); ticks = last + 1 };
    }
