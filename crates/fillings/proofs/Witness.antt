-- For every quantity and every value of its range: a sample that a trace can carry, at which the quantity has that value and is qualified.
use Prim.Native.Nat.{ℕ, zero, suc, ◌-◌, ◌*◌, ◌≤◌, ◌<◌, min, max}
use native.Mathlib.Nat.{not-suc-le-zero}
use native.Mathlib.Omega.{arith}
use mathlib.Core.Path.{◌≡◌, refl, ap, ◌∙◌}
use mathlib.Core.Bool.{Bool, true, false, cond}
use mathlib.Core.List.{List, [], ◌∷◌}
use lib.IntN.{ℤ, pos, negsuc, neg_ℤ, nat_abs}
use lib.Signed.{lt_z, le_z}
use lib.Dec.{T, leb→le, lt→ltb, lit<}
use lib.ListN.{length, replicate, length-replicate}
use Rattle.lists.specs.Lists.{Every}
use Rattle.lists.proofs.Bools.{is_true}
use Rattle.rules.specs.declared.Quantity.{Quantity}
use Rattle.rules.specs.declared.Quantity.TheVariants.{HighestCell, LowestCell, SumOfCells, Current, HighestTempCharging, HighestTempDischarging, Board, LowestTempDischarging, CellDifference}
use Rattle.rules.specs.Samples.{Sample, U16, I16, Carried, highest, lowest, sum, highest_z, lowest_z, readings_of}
use Rattle.rules.specs.Quantities.{value, qualified, least, most}

every_replicate {ℓ} : {A : Type ℓ} (P : A → Type 0) (n : ℕ) (a : A) → P a → Every P (replicate n a)
every_replicate P zero a h = tt
every_replicate P (suc n) a h = (h, every_replicate P n a h)

-- the highest of m and n times v, as m is at least v; and as it is at most v
highest_start : (n m v : ℕ) → v ≤ m → highest m (replicate n v) ≡ m
highest_start zero m v h = refl
highest_start (suc n) m v h = let e : max m v ≡ m = omega arith in ap (λ k. highest k (replicate n v)) e ∙ highest_start n m v h

highest_same : (n m v : ℕ) → 0 < n → m ≤ v → highest m (replicate n v) ≡ v
highest_same zero m v n0 h = absurd (not-suc-le-zero n0)
highest_same (suc n) m v n0 h =
    let e : max m v ≡ v = omega arith in ap (λ k. highest k (replicate n v)) e ∙ highest_start n v v (omega arith)

lowest_start : (n v : ℕ) → lowest v (replicate n v) ≡ v
lowest_start zero v = refl
lowest_start (suc n) v = let e : min v v ≡ v = omega arith in ap (λ k. lowest k (replicate n v)) e ∙ lowest_start n v

lowest_same : (n m v : ℕ) → 0 < n → v ≤ m → lowest m (replicate n v) ≡ v
lowest_same zero m v n0 h = absurd (not-suc-le-zero n0)
lowest_same (suc n) m v n0 h = let e : min m v ≡ v = omega arith in ap (λ k. lowest k (replicate n v)) e ∙ lowest_start n v

cond_same {ℓ} : {A : Type ℓ} (b : Bool) (a : A) → cond b a a ≡ a
cond_same true a = refl
cond_same false a = refl

highest_z_same : (n : ℕ) (v : ℤ) → highest_z v (replicate n v) ≡ v
highest_z_same zero v = refl
highest_z_same (suc n) v = ap (λ k. highest_z k (replicate n v)) (cond_same (le_z v v) v) ∙ highest_z_same n v

lowest_z_same : (n : ℕ) (v : ℤ) → lowest_z v (replicate n v) ≡ v
lowest_z_same zero v = refl
lowest_z_same (suc n) v = ap (λ k. lowest_z k (replicate n v)) (cond_same (le_z v v) v) ∙ lowest_z_same n v

highest_z_from : (n : ℕ) (m v : ℤ) → 0 < n → T (le_z m v) → highest_z m (replicate n v) ≡ v
highest_z_from zero m v n0 h = absurd (not-suc-le-zero n0)
highest_z_from (suc n) m v n0 h = ap (λ b. highest_z (cond b v m) (replicate n v)) (is_true (le_z m v) h) ∙ highest_z_same n v

lowest_z_from : (n : ℕ) (m v : ℤ) → 0 < n → T (le_z v m) → lowest_z m (replicate n v) ≡ v
lowest_z_from zero m v n0 h = absurd (not-suc-le-zero n0)
lowest_z_from (suc n) m v n0 h = ap (λ b. lowest_z (cond b v m) (replicate n v)) (is_true (le_z v m) h) ∙ lowest_z_same n v

shares : ℕ → ℕ → List ℕ
shares zero v = []
shares (suc n) v = min v 65535 ∷ shares n (v - min v 65535)

shares_length : (n v : ℕ) → length (shares n v) ≡ n
unfolding shares
shares_length zero v = refl
shares_length (suc n) v = ap suc (shares_length n (v - min v 65535))

shares_fit : (n v : ℕ) → Every U16 (shares n v)
unfolding shares
shares_fit zero v = tt
shares_fit (suc n) v = (omega arith, shares_fit n (v - min v 65535))

shares_sum : (n v : ℕ) → v ≤ 65535 * n → sum (shares n v) ≡ v
unfolding shares
shares_sum zero v h = omega arith
shares_sum (suc n) v h = omega (arith, shares_sum n (v - min v 65535) (omega arith))

apart : ℕ → ℕ → List ℕ
apart zero v = []
apart (suc n) v = v ∷ replicate n 0

apart_length : (n v : ℕ) → length (apart n v) ≡ n
unfolding apart
apart_length zero v = refl
apart_length (suc n) v = ap suc (length-replicate n 0)

apart_fit : (n v : ℕ) → U16 v → Every U16 (apart n v)
unfolding apart
apart_fit zero v h = tt
apart_fit (suc n) v h = (h, every_replicate U16 n 0 (lit< tt))

apart_value : (n v : ℕ) → 1 < n → v ≤ 65535 → highest 0 (apart n v) - lowest 65535 (apart n v) ≡ v
unfolding apart
apart_value zero v n1 h = absurd (not-suc-le-zero n1)
apart_value (suc n) v n1 h =
    let a : highest (max 0 v) (replicate n 0) ≡ max 0 v = highest_start n (max 0 v) 0 (omega arith) in
    let b : lowest (min 65535 v) (replicate n 0) ≡ 0 = lowest_same n (min 65535 v) 0 (omega arith) (omega arith) in
    omega arith

abbrev sample : ℤ → ℤ → List ℕ → List ℤ → Sample
sample c b vs ts = record { current = c; board = b; volts = vs; temps = ts }

-- A sample of n cells at which the quantity is v.
pub witness : Quantity → ℕ → ℤ → Sample
witness HighestCell n v = sample (pos 0) (pos 0) (replicate n (nat_abs v)) (replicate n (pos 0))
witness LowestCell n v = sample (pos 0) (pos 0) (replicate n (nat_abs v)) (replicate n (pos 0))
witness SumOfCells n v = sample (pos 0) (pos 0) (shares n (nat_abs v)) (replicate n (pos 0))
witness Current n v = sample v (pos 0) (replicate n 0) (replicate n (pos 0))
witness Board n v = sample (pos 0) v (replicate n 0) (replicate n (pos 0))
witness CellDifference n v = sample (pos 0) (pos 0) (apart n (nat_abs v)) (replicate n (pos 0))
witness HighestTempCharging n v = sample (pos 32767) (pos 0) (replicate n 0) (replicate n v)
witness HighestTempDischarging n v = sample (negsuc 32767) (pos 0) (replicate n 0) (replicate n v)
witness LowestTempDischarging n v = sample (negsuc 32767) (pos 0) (replicate n 0) (replicate n v)

-- the value is in the quantity's range
pub record InRange (q : Quantity) (n : ℕ) (v : ℤ) : Type 0 where
  pub lo : T (le_z (least q) v)
  pub hi : T (le_z v (most q n))

i16 : (v : ℤ) → T (le_z (negsuc 32767) v) → T (le_z v (pos 32767)) → I16 v
i16 (pos k) lo hi = omega (arith, leb→le k 32767 hi)
i16 (negsuc k) lo hi = omega (arith, leb→le k 32767 lo)

u16 : (v : ℤ) → T (le_z (pos 0) v) → T (le_z v (pos 65535)) → U16 (nat_abs v)
u16 (pos k) lo hi = omega (arith, leb→le k 65535 hi)
u16 (negsuc k) lo hi = absurd lo

-- a sample of n cells that all read the same
plain : (n : ℕ) (c b : ℤ) (v : ℕ) (t : ℤ) → I16 c → I16 b → U16 v → I16 t → Carried n (sample c b (replicate n v) (replicate n t))
plain n c b v t hc hb hv ht =
    record {
      current = hc;
      board = hb;
      cells = length-replicate n v;
      volts = every_replicate U16 n v hv;
      sensors = length-replicate n t;
      temps = every_replicate I16 n t ht;
    }

zero_fits : I16 (pos 0)
zero_fits = lit< tt

pub witness_carried : (q : Quantity) (n : ℕ) (v : ℤ) → InRange q n v → Carried n (witness q n v)
unfolding witness least most
witness_carried HighestCell n v h = plain n (pos 0) (pos 0) (nat_abs v) (pos 0) zero_fits zero_fits (u16 v h.lo h.hi) zero_fits
witness_carried LowestCell n v h = plain n (pos 0) (pos 0) (nat_abs v) (pos 0) zero_fits zero_fits (u16 v h.lo h.hi) zero_fits
witness_carried SumOfCells n v h =
    record {
      current = zero_fits;
      board = zero_fits;
      cells = shares_length n (nat_abs v);
      volts = shares_fit n (nat_abs v);
      sensors = length-replicate n (pos 0);
      temps = every_replicate I16 n (pos 0) zero_fits;
    }
witness_carried Current n v h = plain n v (pos 0) 0 (pos 0) (i16 v h.lo h.hi) zero_fits (lit< tt) zero_fits
witness_carried Board n v h = plain n (pos 0) v 0 (pos 0) zero_fits (i16 v h.lo h.hi) (lit< tt) zero_fits
witness_carried CellDifference n v h =
    record {
      current = zero_fits;
      board = zero_fits;
      cells = apart_length n (nat_abs v);
      volts = apart_fit n (nat_abs v) (u16 v h.lo h.hi);
      sensors = length-replicate n (pos 0);
      temps = every_replicate I16 n (pos 0) zero_fits;
    }
witness_carried HighestTempCharging n v h = plain n (pos 32767) (pos 0) 0 v (lit< tt) zero_fits (lit< tt) (i16 v h.lo h.hi)
witness_carried HighestTempDischarging n v h = plain n (negsuc 32767) (pos 0) 0 v (lit< tt) zero_fits (lit< tt) (i16 v h.lo h.hi)
witness_carried LowestTempDischarging n v h = plain n (negsuc 32767) (pos 0) 0 v (lit< tt) zero_fits (lit< tt) (i16 v h.lo h.hi)

-- a value that is not negative is its own size
size : (v : ℤ) → T (le_z (pos 0) v) → pos (nat_abs v) ≡ v
size (pos k) h = refl
size (negsuc k) h = absurd h

size_most : (v : ℤ) (m : ℕ) → T (le_z (pos 0) v) → T (le_z v (pos m)) → nat_abs v ≤ m
size_most (pos k) m lo hi = leb→le k m hi
size_most (negsuc k) m lo hi = absurd lo

pub witness_value : (q : Quantity) (n : ℕ) (v : ℤ) → 1 < n → InRange q n v → value q (readings_of (witness q n v)) ≡ v
unfolding witness least most value readings_of
witness_value HighestCell n v n1 h = ap pos (highest_same n 0 (nat_abs v) (omega arith) (omega arith)) ∙ size v h.lo
witness_value LowestCell n v n1 h =
    ap pos (lowest_same n 65535 (nat_abs v) (omega arith) (size_most v 65535 h.lo h.hi)) ∙ size v h.lo
witness_value SumOfCells n v n1 h = ap pos (shares_sum n (nat_abs v) (size_most v (65535 * n) h.lo h.hi)) ∙ size v h.lo
witness_value Current n v n1 h = refl
witness_value Board n v n1 h = refl
witness_value CellDifference n v n1 h = ap pos (apart_value n (nat_abs v) n1 (size_most v 65535 h.lo h.hi)) ∙ size v h.lo
witness_value HighestTempCharging n v n1 h = highest_z_from n (negsuc 32767) v (omega arith) h.lo
witness_value HighestTempDischarging n v n1 h = highest_z_from n (negsuc 32767) v (omega arith) h.lo
witness_value LowestTempDischarging n v n1 h = lowest_z_from n (pos 32767) v (omega arith) h.hi

charges : (idle : ℕ) → idle ≤ 32766 → T (lt_z (pos idle) (pos 32767))
charges idle h = lt→ltb idle 32767 (omega arith)

discharges : (idle : ℕ) → idle ≤ 32766 → T (lt_z (negsuc 32767) (neg_ℤ (pos idle)))
discharges zero h = tt
discharges (suc k) h = lt→ltb k 32767 (omega arith)

pub witness_qualified : (q : Quantity) (idle n : ℕ) (v : ℤ) → idle ≤ 32766 → T (qualified idle q (readings_of (witness q n v)))
unfolding witness qualified readings_of
witness_qualified HighestCell idle n v h = tt
witness_qualified LowestCell idle n v h = tt
witness_qualified SumOfCells idle n v h = tt
witness_qualified Current idle n v h = tt
witness_qualified Board idle n v h = tt
witness_qualified CellDifference idle n v h = tt
witness_qualified HighestTempCharging idle n v h = charges idle h
witness_qualified HighestTempDischarging idle n v h = discharges idle h
witness_qualified LowestTempDischarging idle n v h = discharges idle h

-- a sample of n cells that shows a current and nothing else
abbrev pub drawing : ℕ → ℤ → Sample
drawing n c = sample c (pos 0) (replicate n 0) (replicate n (pos 0))

pub drawing_carried : (n : ℕ) (c : ℤ) → I16 c → Carried n (drawing n c)
drawing_carried n c h = plain n c (pos 0) 0 (pos 0) h zero_fits (lit< tt) zero_fits

-- some sample that a trace of n cells can carry
pub blank : ℕ → Sample
blank n = drawing n (pos 0)

pub blank_carried : (n : ℕ) → Carried n (blank n)
unfolding blank
blank_carried n = drawing_carried n (pos 0) zero_fits
