-- Traces that are accepted, as bytes: demands 2 and 3 speak of something.
use Rattle.std.specs.Prelude.{ℕ, List, [], ◌∷◌, ◌++◌, map, replicate}
use Rattle.ticks.specs.Traces.{Trace}
use Rattle.demands.specs.Reading.{byte_of}

-- Three cells, idle 0, and sixteen rules that are off.
abbrev pub head_and_rules : List ℕ
head_and_rules = (1 ∷ 3 ∷ 0 ∷ 0 ∷ 16 ∷ 0 ∷ []) ++ replicate 160 0

-- No hole, no reply, one sample of zeros at tick 0.
abbrev pub without_hole : List ℕ
without_hole = head_and_rules ++ (0 ∷ 0 ∷ 0 ∷ 0 ∷ 1 ∷ 0 ∷ []) ++ replicate 20 0

-- One hole, of tick 0 alone, no reply, no sample.
abbrev pub with_hole : List ℕ
with_hole = head_and_rules ++ (1 ∷ 0 ∷ []) ++ replicate 8 0 ++ (0 ∷ 0 ∷ 0 ∷ 0 ∷ [])

-- Rules 0 to 2 on: highest cell, threshold 4,200, recovery 4,100, T = 3; lowest cell, 2,800, 3,000, T = 3; sum of cells, 12,600, 12,000, T = 1.
abbrev pub three_rules : List ℕ
three_rules =
    (104 ∷ 16 ∷ 0 ∷ 0 ∷ 4 ∷ 16 ∷ 0 ∷ 0 ∷ 3 ∷ 0 ∷ [])
    ++ (240 ∷ 10 ∷ 0 ∷ 0 ∷ 184 ∷ 11 ∷ 0 ∷ 0 ∷ 3 ∷ 0 ∷ [])
    ++ (56 ∷ 49 ∷ 0 ∷ 0 ∷ 224 ∷ 46 ∷ 0 ∷ 0 ∷ 1 ∷ 0 ∷ [])

-- A sample at a tick below 256: three cells of 4,300, all else 0.
abbrev pub high_cells : ℕ → List ℕ
high_cells tick = (tick ∷ 0 ∷ 0 ∷ 0 ∷ []) ++ replicate 4 0 ++ (204 ∷ 16 ∷ 204 ∷ 16 ∷ 204 ∷ 16 ∷ []) ++ replicate 6 0

-- Three cells, these rules on and the others off; samples at ticks 0, 1 and 3, a hole of tick 2, no reply.
abbrev pub with_rules : List ℕ
with_rules =
    (1 ∷ 3 ∷ 0 ∷ 0 ∷ 16 ∷ 0 ∷ [])
    ++ three_rules
    ++ replicate 130 0
    ++ (1 ∷ 0 ∷ 2 ∷ 0 ∷ 0 ∷ 0 ∷ 2 ∷ 0 ∷ 0 ∷ 0 ∷ [])
    ++ (0 ∷ 0 ∷ 3 ∷ 0 ∷ [])
    ++ high_cells 0
    ++ high_cells 1
    ++ high_cells 3

-- What the report of a trace says of alert and status of rules 0 to 2, and of C, D and fuse.
abbrev pub flag_bytes : Trace → List ℕ
flag_bytes tr = map (byte_of tr) (0 ∷ 1 ∷ 10 ∷ 11 ∷ 20 ∷ 21 ∷ 160 ∷ 161 ∷ 162 ∷ [])

-- Rule 0: alert held, status unknown (marked case 8). Rule 1: clear. Rule 2: held. C open is held, by rule 2; D open and fuse are clear.
abbrev pub flags_with_rules : List ℕ
flags_with_rules = 1 ∷ 2 ∷ 0 ∷ 0 ∷ 1 ∷ 1 ∷ 1 ∷ 0 ∷ 0 ∷ []
