-- The live feed for a caller that keeps the state in lists of its own: the rules as 160 bytes, eighty words of possible states, and four totals.
use Rattle.std.specs.Prelude.{ℕ, Bool, cond, ◌&&◌, List, [], ◌∷◌, leb, eqb, length, get_or}
use Rattle.lists.specs.Lists.{tabulate}
use Rattle.refusals.specs.Refusals.{Answer, answer, refused}
use Rattle.rules.specs.Samples.{Sample}
use Rattle.limits.specs.Limits.{settings_of}
use Rattle.report.specs.declared.Totals.{Totals}
use Rattle.report.specs.Layout.{report_answer, reported}
use Rattle.buttmitrel.specs.Code.{code_of}
use Rattle.live.specs.declared.Live.{Live}
use Rattle.live.specs.State.{with_sample, with_hole}
use Rattle.live.specs.Calls.{sample_answer, hole_answer, of_good, flags_read}

-- The state in these lists. The totals are charge in, charge out, unseen ticks and ticks.
abbrev pub state_of : ℕ → ℕ → List ℕ → List ℕ → List ℕ → Live
state_of cells idle rules words totals =
    record {
      cells = cells;
      idle = idle;
      settings = record { of = settings_of rules };
      states = record { words = words };
      totals = record { charge_in = get_or totals 0 0; charge_out = get_or totals 1 0; unseen = get_or totals 2 0; ticks = get_or totals 3 0 };
    }

-- Whether lists can be a state at all: 160 bytes of rules and four totals, unseen ticks and ticks within a u32.
abbrev pub is_kept : List ℕ → List ℕ → Bool
is_kept rules totals = eqb (length rules) 160 && eqb (length totals) 4 && leb (get_or totals 2 0) 0xFFFFFFFF && leb (get_or totals 3 0) 0xFFFFFFFF

-- Refusal 16 for lists that are no state, before all else.
abbrev pub of_kept : {A : Type 0} → List ℕ → List ℕ → Answer A → Answer A
of_kept rules totals a = cond (is_kept rules totals) a (refused 16 0)

-- A list afterwards: what the new state has, or what it held where the call refuses.
abbrev pub list_after : Answer (Unit {0}) → List ℕ → List ℕ → List ℕ
list_after (answer taken) new old = new
list_after (refused number place) new old = old

-- Totals as a list.
abbrev pub totals_list : Totals → List ℕ
totals_list t = t.charge_in ∷ t.charge_out ∷ t.unseen ∷ t.ticks ∷ []

-- A beginning: 3, 4, 6, 7 as in the live feed, then 15 unless it is lent eighty words and four totals.
abbrev pub begun_answer : Answer (Unit {0}) → List ℕ → List ℕ → Answer (Unit {0})
begun_answer (answer begun) words totals = cond (eqb (length words) 80 && eqb (length totals) 4) (answer tt) (refused 15 0)
begun_answer (refused number place) words totals = refused number place

-- A report: 16, then 12.
abbrev pub reported_answer : Answer (Unit {0}) → List ℕ → Answer (Unit {0})
reported_answer (answer good) buffer = report_answer buffer
reported_answer (refused number place) buffer = refused number place

-- The report of a state, with no first ticks.
abbrev pub state_report : Live → List ℕ → List ℕ
state_report s buffer = reported (flags_read s) (tabulate 16 (λ i. record { possible = 0xFFFFFFFF; held = 0xFFFFFFFF })) s.totals buffer

-- What a caller keeps: the cell count, the idle current, and the three lists.
pub record Kept : Type 0 where
  pub cells : ℕ
  pub idle : ℕ
  pub rules : List ℕ
  pub words : List ℕ
  pub totals : List ℕ

abbrev pub kept : ℕ → ℕ → List ℕ → List ℕ → List ℕ → Kept
kept cells idle rules words totals = record { cells = cells; idle = idle; rules = rules; words = words; totals = totals }

-- The state that it keeps.
abbrev pub kept_state : Kept → Live
kept_state k = state_of k.cells k.idle k.rules k.words k.totals

-- A sample: the answer, and the lists afterwards.
abbrev pub sample_call : Kept → ℕ → Sample → Answer (Unit {0})
sample_call k tick x = of_kept k.rules k.totals (sample_answer (kept_state k) tick x)

abbrev pub sample_code : Kept → ℕ → Sample → ℕ
sample_code k tick x = code_of (sample_call k tick x)

abbrev pub sample_words : Kept → ℕ → Sample → List ℕ
sample_words k tick x = list_after (sample_call k tick x) (with_sample (kept_state k) x).states.words k.words

abbrev pub sample_totals : Kept → ℕ → Sample → List ℕ
sample_totals k tick x = list_after (sample_call k tick x) (totals_list (with_sample (kept_state k) x).totals) k.totals

-- A hole: the answer, and the lists afterwards.
abbrev pub hole_call : Kept → ℕ → Answer (Unit {0})
hole_call k last = of_kept k.rules k.totals (hole_answer (kept_state k) last)

abbrev pub hole_words : Kept → ℕ → List ℕ
hole_words k last = list_after (hole_call k last) (with_hole (kept_state k) last).states.words k.words

abbrev pub hole_totals : Kept → ℕ → List ℕ
hole_totals k last = list_after (hole_call k last) (totals_list (with_hole (kept_state k) last).totals) k.totals

-- A report: the answer, and the buffer afterwards.
abbrev pub report_call : Kept → List ℕ → Answer (Unit {0})
report_call k buffer = reported_answer (of_kept k.rules k.totals (of_good (kept_state k) tt)) buffer

abbrev pub report_after : Kept → List ℕ → List ℕ
report_after k buffer = list_after (report_call k buffer) (state_report (kept_state k) buffer) buffer
