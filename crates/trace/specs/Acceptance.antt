-- Paper 01, 'Refusal numbers': the acceptance of a trace's bytes: 1 to 4; the sections with 5 and 6; 11; 7; 8; 9; 10.
use Rattle.std.specs.Prelude.{ℕ, ◌+◌, List, length}
use Rattle.refusals.specs.Refusals.{Answer, answer, refused, and_then}
use Rattle.rules.specs.declared.Setting.{Setting}
use Rattle.limits.specs.Limits.{settings_of}
use Rattle.limits.specs.Limits as limits
use Rattle.trace.specs.Records.{holes_in, replies_in, samples_in}
use Rattle.trace.specs.Sections.{walk_answer, rules_part, holes_part, replies_part, samples_part}
use Rattle.trace.specs.Coverage.{holes_answer, cover_answer, replies_answer}
use Rattle.trace.specs.declared.Layout.{Layout}
use Rattle.trace.specs.declared.Acceptance.{Acceptance}

-- Refusals 8, 9 and 10 of a trace whose sections are whole: the ticks that it covers.
abbrev pub records_answer : List ℕ → Layout → Answer ℕ
records_answer s l =
    and_then (holes_answer (holes_in (holes_part s l)) 0 0) (λ holes.
    and_then (cover_answer (length (holes_in (holes_part s l)) + length (samples_in l.cells (samples_part s l))) (holes_in (holes_part s l)) (samples_in l.cells (samples_part s l)) 0) (λ ticks.
    and_then (replies_answer ticks (replies_in (replies_part s l)) 0 0) (λ replies.
    answer ticks)))

-- What an accepted trace hands on.
pub record Parsed : Type 0 where
  pub layout : Layout
  pub settings : List Setting
  pub ticks : ℕ

-- The acceptance of a trace's bytes.
unfoldable pub accept_answer : List ℕ → Answer Parsed
accept_answer s =
    and_then (walk_answer s) (λ l.
    and_then (limits.rule_set_answer l.cells (rules_part s)) (λ rules.
    and_then (records_answer s l) (λ ticks.
    answer (record { layout = l; settings = settings_of (rules_part s); ticks = ticks }))))

-- What the code hands on.
abbrev pub parsed_of : Acceptance → Parsed
parsed_of a = record { layout = a.layout; settings = a.settings.of; ticks = a.ticks }

-- The ticks of an acceptance.
abbrev pub ticks_of : Answer Parsed → Answer ℕ
ticks_of (answer w) = answer w.ticks
ticks_of (refused number place) = refused number place
