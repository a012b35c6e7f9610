-- Paper 01, 'The trace': a trace once its bytes are taken apart, and what it shows at each tick. Hole and tick are paper 01's terms.
use Rattle.std.specs.Prelude.{ℕ, ◌+◌, ◌≡◌, Bool, false, cond, ◌&&◌, ◌||◌, List, [], ◌∷◌, leb, eqb, length}
use Rattle.refusals.specs.Refusals.{answer}
use Rattle.trace.specs.Records.{Hole, Reply, Stamped, holes_in, replies_in, samples_in}
use Rattle.trace.specs.Sections.{holes_part, replies_part, samples_part}
use Rattle.trace.specs.Coverage.{holes_answer, cover_answer, replies_answer}
use Rattle.trace.specs.Acceptance.{Parsed}
use Rattle.fillings.specs.Fillings.{Config, SoundConfig, Shown, seen, unseen}

-- A trace once its bytes are taken apart: head and rules, holes, replies, samples, and how many ticks it covers.
pub record Trace : Type 0 where
  pub config : Config
  pub holes : List Hole
  pub replies : List Reply
  pub samples : List Stamped
  pub ticks : ℕ

-- The trace of accepted bytes.
abbrev pub trace_of : List ℕ → Parsed → Trace
trace_of s w =
    record {
      config = record { cells = w.layout.cells; idle = w.layout.idle; settings = w.settings };
      holes = holes_in (holes_part s w.layout);
      replies = replies_in (replies_part s w.layout);
      samples = samples_in w.layout.cells (samples_part s w.layout);
      ticks = w.ticks;
    }

-- What samples show at a tick: the sample that bears it, or nothing.
unfoldable pub shown_in : List Stamped → ℕ → Shown
shown_in [] t = unseen
shown_in (x ∷ xs) t = cond (eqb x.tick t) (seen x.sample) (shown_in xs t)

-- What a trace shows at a tick.
abbrev pub shown : Trace → ℕ → Shown
shown tr = shown_in tr.samples

-- Whether a sample bears a tick.
abbrev pub has_sample : List Stamped → ℕ → Bool
has_sample [] t = false
has_sample (x ∷ xs) t = eqb x.tick t || has_sample xs t

-- Whether a tick is in a hole.
abbrev pub in_hole : List Hole → ℕ → Bool
in_hole [] t = false
in_hole (h ∷ hs) t = leb h.first t && leb t h.last || in_hole hs t

-- What the checks ensure of a trace (refusals 3, 4, 7, 8, 9 and 10).
pub record Accepted (tr : Trace) : Type 0 where
  pub rules : SoundConfig tr.config
  pub holes : holes_answer tr.holes 0 0 ≡ answer tt
  pub covered : cover_answer (length tr.holes + length tr.samples) tr.holes tr.samples 0 ≡ answer tr.ticks
  pub replies : replies_answer tr.ticks tr.replies 0 0 ≡ answer tt
