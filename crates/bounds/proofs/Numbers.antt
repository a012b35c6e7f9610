-- Numbers of 32 bits, mirrored, the least and the greatest of them, and which way a current flows.
use Prim.Native.Nat.{ℕ, zero, suc, ◌-◌, ◌≤◌, ◌<◌}
use mathlib.Core.Path.{◌≡◌, refl, ap, sym, ◌∙◌}
use mathlib.Core.Bool.{Bool, true, false, cond}
use native.Mathlib.Omega.{arith}
use lib.IntN.{ℤ, pos, negsuc, neg_ℤ}
use lib.Dec.{eqb}
use lib.Signed.{lt_z}
use borrow.Author.Tests.{le-ltb}
use mir.Syntax.{w32}
use mir.Val.{to_z, of_z, SFits}
use mir.Facts.{to_z_pos, to_z-neg}
use Rattle.rules.specs.declared.Quantity.{Quantity}
use Rattle.rules.specs.declared.Quantity.TheVariants.{HighestCell, LowestCell, SumOfCells, Current, HighestTempCharging, HighestTempDischarging, Board, LowestTempDischarging, CellDifference}
use Rattle.rules.specs.declared.Readings.{Readings}
use Rattle.rules.specs.Quantities.{charging, discharging, qualified}
use Rattle.rules.specs.declared.Side.{Side}
use Rattle.rules.specs.declared.Side.TheVariants.{High, Low}
use Rattle.rules.specs.Evaluation.{beyond, opposite}
use Rattle.bounds.specs.Plan.{along, least32, greatest32, flow_of, counts}

pub mirror_is : (z : ℤ) → SFits w32 z → to_z w32 (4294967295 - of_z w32 z) ≡ along Low z
mirror_is (pos k) f =
    let l : k < 2147483648 = f.sfits in
    let e : 4294967295 - k ≡ 4294967296 - suc k = omega arith in
    ap (to_z w32) e ∙ to_z-neg w32 k l
mirror_is (negsuc k) f =
    let l : k < 2147483648 = f.sfits in
    let e : 4294967295 - (4294967296 - suc k) ≡ k = omega arith in
    ap (to_z w32) e ∙ to_z_pos w32 l

pub none_below : (z : ℤ) → SFits w32 z → lt_z z least32 ≡ false
none_below (pos k) f = refl
none_below (negsuc k) f = let l : k < 2147483648 = f.sfits in le-ltb 2147483647 k (omega arith)

pub none_above : (z : ℤ) → SFits w32 z → lt_z greatest32 z ≡ false
none_above (pos k) f = let l : k < 2147483648 = f.sfits in le-ltb 2147483647 k (omega arith)
none_above (negsuc k) f = refl

-- A number is beyond a limit on a side, and before one, as that side reads them.
pub beyond_along : (side : Side) (v limit : ℤ) → beyond side v limit ≡ lt_z (along side limit) (along side v)
beyond_along High v limit = refl
beyond_along Low (pos a) (pos b) = refl
beyond_along Low (pos a) (negsuc b) = refl
beyond_along Low (negsuc a) (pos b) = refl
beyond_along Low (negsuc a) (negsuc b) = refl

pub before_along : (side : Side) (v limit : ℤ) → beyond (opposite side) v limit ≡ lt_z (along side v) (along side limit)
before_along High v limit = refl
before_along Low (pos a) (pos b) = refl
before_along Low (pos a) (negsuc b) = refl
before_along Low (negsuc a) (pos b) = refl
before_along Low (negsuc a) (negsuc b) = refl

-- Who charges does not discharge.
one_way : (idle : ℕ) (z : ℤ) → lt_z (pos idle) z ≡ true → lt_z z (neg_ℤ (pos idle)) ≡ false
one_way idle (negsuc k) e = let n : ◌≡◌ {A = ℕ} 0 1 = cc in absurd (omega arith)
one_way zero (pos k) e = le-ltb k 0 (omega arith)
one_way (suc i) (pos k) e = refl

flows_in : (c d : Bool) → eqb (cond c 1 (cond d 2 0)) 1 ≡ c
flows_in true d = refl
flows_in false true = refl
flows_in false false = refl

flows_out : (c d : Bool) → (c ≡ true → d ≡ false) → eqb (cond c 1 (cond d 2 0)) 2 ≡ d
flows_out true d e = sym (e refl)
flows_out false true e = refl
flows_out false false e = refl

-- What counts while the current flows as it does is what is qualified.
pub counts_is : (idle : ℕ) (r : Readings) (q : Quantity) → counts (flow_of idle r) q ≡ qualified idle q r
unfolding counts qualified
counts_is idle r HighestCell = refl
counts_is idle r LowestCell = refl
counts_is idle r SumOfCells = refl
counts_is idle r Current = refl
counts_is idle r HighestTempCharging = flows_in (charging idle r) (discharging idle r)
counts_is idle r HighestTempDischarging = flows_out (charging idle r) (discharging idle r) (one_way idle r.current)
counts_is idle r Board = refl
counts_is idle r LowestTempDischarging = flows_out (charging idle r) (discharging idle r) (one_way idle r.current)
counts_is idle r CellDifference = refl

pub flow_low : (idle : ℕ) (r : Readings) → flow_of idle r ≤ 2
flow_low idle r = go (charging idle r) (discharging idle r)
  where
    go : (c d : Bool) → cond c 1 (cond d 2 0) ≤ 2
    go true d = omega arith
    go false true = omega arith
    go false false = omega arith
