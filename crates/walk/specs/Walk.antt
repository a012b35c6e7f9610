-- What comes next at a place of the walk over the ticks of a trace.
use Rattle.std.specs.Prelude.{ℕ, ◌+◌, Bool, cond, ◌&&◌, List, leb, length, Option, Some, None}
use Rattle.bytes_le.specs.Numbers.{u32_at}
use Rattle.walk.specs.declared.Cursor.{Cursor}
use Rattle.walk.specs.declared.Ahead.{Ahead}
use Rattle.walk.specs.declared.Ahead.TheVariants.{Unseen, Sample}

-- Where a walk begins.
abbrev pub start_of : Cursor
start_of = record { hole = 0; sample = 0; tick = 0 }

-- Whether the next hole holds the next tick.
abbrev pub hole_here : List ℕ → Cursor → Bool
hole_here holes c =
    leb (c.hole + 8) (length holes) && (leb (u32_at holes c.hole) c.tick && leb c.tick (u32_at holes (c.hole + 4)))

-- The place after the unseen ticks of the next hole, up to the tick `to`: inside the hole, or after it.
abbrev pub past_run : List ℕ → Cursor → ℕ → Cursor
past_run holes c to =
    cond (leb to (u32_at holes (c.hole + 4)))
    (record { hole = c.hole; sample = c.sample; tick = to })
    (record { hole = c.hole + 8; sample = c.sample; tick = u32_at holes (c.hole + 4) + 1 })

-- The place after the next sample.
abbrev pub past_sample : ℕ → Cursor → Cursor
past_sample width c = record { hole = c.hole; sample = c.sample + width; tick = c.tick + 1 }

-- What comes next before the tick `to`: unseen ticks, else a sample of a width, else the end.
unfoldable pub ahead : List ℕ → List ℕ → ℕ → Cursor → ℕ → Option Ahead
ahead holes samples width c to =
    cond (leb to c.tick) None
    (cond (hole_here holes c) (Some (Unseen (past_run holes c to)))
    (cond (leb (c.sample + width) (length samples)) (Some (Sample (past_sample width c))) None))
