-- Bytes put into a buffer one after the other.
use Prim.Native.Nat.{ℕ, ◌+◌, ◌≤◌, ◌<◌}
use mathlib.Core.Path.{◌≡◌, refl, ap, sym, ◌∙◌}
use mathlib.Core.List.{List, [], ◌∷◌, ◌++◌, append_assoc, append-nil}
use native.Mathlib.Omega.{arith}
use native.Mathlib.Numerals.{add-one}
use lib.ListN.{length, take, set, length-set, length-append}
use lib.Seq.{take-suc-set, length-take-le, take_at, sets, sets-eq, length-sets}
use Rattle.bytes_le.specs.Writing.{bytes_of, put_at}
use Rattle.bytes_le.proofs.ByteLists.{length_bytes}
use Rattle.bytes_le.proofs.Puts.{put_fits}
use Rattle.report.specs.inner.Bytes.{Put}

-- Nothing put.
pub put_none : (s : List ℕ) (a : ℕ) → Put s s a a []
put_none s a = record { holds = sym (append-nil (take a s)); long = refl }

-- One byte.
pub put_one : (s : List ℕ) (a x : ℕ) → a < length s → Put s (set s a x) a (a + 1) (x ∷ [])
put_one s a x h = record { holds = ap (λ (k : ℕ). take k (set s a x)) (add-one a) ∙ take-suc-set s a x h; long = length-set s a x }

-- The bytes of a number.
pub put_bytes : (s t : List ℕ) (a k v : ℕ) → a + k ≤ length s → t ≡ put_at s a (bytes_of k v) → Put s t a (a + k) (bytes_of k v)
put_bytes s t a k v h e =
    let bs : List ℕ = bytes_of k v in
    let l = length_bytes k v in
    let inside : a + length bs ≤ length s = omega arith in
    let is : t ≡ sets s a bs = e ∙ put_fits s a bs inside in
    let i : length (take a s ++ bs) ≡ a + k = omega (arith, length-append (take a s) bs, length-take-le a s (omega arith)) in
    record {
      holds = ap (take (a + k)) (is ∙ sets-eq bs s a inside) ∙ take_at (take a s ++ bs) _ (a + k) i;
      long = ap length is ∙ length-sets s a bs;
    }

-- One run after the other.
pub put_then : {s t u : List ℕ} {a b c : ℕ} {bs cs : List ℕ} → Put s t a b bs → Put t u b c cs → Put s u a c (bs ++ cs)
put_then {s} {t} {u} {a} {b} {c} {bs} {cs} p q = record {
  holds = q.holds ∙ ap (λ (x : List ℕ). x ++ cs) p.holds ∙ append_assoc (take a s) bs cs;
  long = q.long ∙ p.long;
}

-- The same, with its end written otherwise.
pub put_to : {s t : List ℕ} {a b c : ℕ} {bs : List ℕ} → Put s t a b bs → b ≡ c → Put s t a c bs
put_to {s} {t} {a} {b} {c} {bs} p e = record { holds = ap (λ (k : ℕ). take k t) (sym e) ∙ p.holds; long = p.long }

-- The same, with the bytes written otherwise.
pub put_as : {s t : List ℕ} {a b : ℕ} {bs cs : List ℕ} → Put s t a b bs → bs ≡ cs → Put s t a b cs
put_as {s} {t} {a} {b} {bs} {cs} p e = record { holds = p.holds ∙ ap (λ (x : List ℕ). take a s ++ x) e; long = p.long }

-- One byte, written otherwise.
pub put_number : {s t : List ℕ} {a b m n : ℕ} → Put s t a b (m ∷ []) → m ≡ n → Put s t a b (n ∷ [])
put_number p e = put_as p (ap (λ (k : ℕ). k ∷ []) e)
