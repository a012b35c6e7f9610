-- Paper 01, 'Three-way outputs': the trace cut at a tick: that tick is the last, a hole reaching past it ends at it, later records are left out.
use Rattle.std.specs.Prelude.{ℕ, suc, min, cond, List, [], ◌∷◌, leb}
use Rattle.trace.specs.Records.{Hole, Reply, Stamped}
use Rattle.ticks.specs.Traces.{Trace}

-- The holes up to a tick, the last one ended at it.
unfoldable pub cut_holes : ℕ → List Hole → List Hole
cut_holes t [] = []
cut_holes t (h ∷ hs) = cond (leb h.first t) (record { first = h.first; last = min h.last t } ∷ cut_holes t hs) (cut_holes t hs)

-- The replies up to a tick.
unfoldable pub cut_replies : ℕ → List Reply → List Reply
cut_replies t [] = []
cut_replies t (r ∷ rs) = cond (leb r.tick t) (r ∷ cut_replies t rs) (cut_replies t rs)

-- The samples up to a tick.
unfoldable pub cut_samples : ℕ → List Stamped → List Stamped
cut_samples t [] = []
cut_samples t (x ∷ xs) = cond (leb x.tick t) (x ∷ cut_samples t xs) (cut_samples t xs)

-- The trace cut at a tick.
abbrev pub cut_at : Trace → ℕ → Trace
cut_at tr t =
    record {
      config = tr.config;
      holes = cut_holes t tr.holes;
      replies = cut_replies t tr.replies;
      samples = cut_samples t tr.samples;
      ticks = suc t;
    }
