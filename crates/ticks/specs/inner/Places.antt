-- Where a walk over the records of an accepted trace stands.
use Rattle.std.specs.Prelude.{ℕ, suc, ◌≤◌, ◌<◌, ◌≡◌, List, [], ◌∷◌}
use Rattle.trace.specs.Records.{Hole, Stamped}

-- The next hole is still to come.
abbrev pub NotYet : List Hole → ℕ → Type 0
NotYet [] e = Unit {0}
NotYet (h ∷ hs) e = e < h.first

-- Where a walk over the records of a trace of m ticks stands: the records left, and the next tick, which may lie inside the next hole.
pub data Place (m : ℕ) : List Hole → List Stamped → ℕ → Type 0 where
  done : Place m [] [] m
  hole : {h : Hole} {hs : List Hole} {xs : List Stamped} {e : ℕ} → h.first ≤ e → e ≤ h.last → h.last < 0xFFFFFFFF → Place m hs xs (suc h.last) → Place m (h ∷ hs) xs e
  sample : {x : Stamped} {hs : List Hole} {xs : List Stamped} {e : ℕ} → x.tick ≡ e → e < 0xFFFFFFFF → NotYet hs e → Place m hs xs (suc e) → Place m hs (x ∷ xs) e
