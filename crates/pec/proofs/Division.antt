-- The division, a byte at a time: the code after one more byte is that of the one byte `code xor byte`.
use Prim.Native.Nat.{ℕ, zero, suc, ◌+◌, ◌-◌, ◌*◌, ◌/◌, ◌%◌, ◌<◌, ◌≤◌}
use mathlib.Core.Path.{◌≡◌, refl, sym, ap, ap₂, ◌∙◌}
use mathlib.Core.Bool.{Bool, true, false, cond}
use mathlib.Core.List.{List, [], ◌∷◌, ◌++◌, append_assoc, append-nil}
use mathlib.Core.Logic.{⊎_elim}
use native.Mathlib.Omega.{arith}
use lib.Dec.{eqb}
use lib.Bits.{bit_xor, xor_lt, xor_block, xor_comm, xor_shifted, xor_zero_l, xor_zero_r}
use borrow.Author.Tests.{lt-ltb, le-ltb}
use Rattle.lists.proofs.Bools.{below?}
use Rattle.pec.specs.Code.{generator, shifted, with_bit, with_bits, bits_of, bits_of_bytes, pec_of}
use Rattle.pec.proofs.Xor.{xor_assoc}

low : (x : ℕ) → x < 128 → shifted x ≡ x * 2
unfolding shifted
low x h = rw (lt-ltb x 128 h)

high : (x : ℕ) → 128 ≤ x → shifted x ≡ bit_xor (x * 2 - 256) generator
unfolding shifted
high x h = rw (le-ltb x 128 h)

doubled : (x y : ℕ) → bit_xor (x * 2) (y * 2) ≡ bit_xor x y * 2
doubled x y =
    let e : x * 2 + 0 ≡ x * 2 = omega arith in
    let g : y * 2 + 0 ≡ y * 2 = omega arith in
    let z : bit_xor x y * 2 + 0 ≡ bit_xor x y * 2 = omega arith in
    ap₂ bit_xor (sym e) (sym g) ∙ xor_block 1 x y 0 0 (omega arith) (omega arith) ∙ z

topped : (x y : ℕ) → x < 128 → y < 128 → bit_xor (128 + x) y ≡ 128 + bit_xor x y
topped x y h g =
    let e : 1 * 128 + x ≡ 128 + x = omega arith in
    let f : 0 * 128 + y ≡ y = omega arith in
    ap₂ bit_xor (sym e) (sym f) ∙ xor_block 7 1 0 x y h g

shifted_xor : (x w : ℕ) → x < 256 → w < 128 → shifted (bit_xor x w) ≡ bit_xor (shifted x) (w * 2)
shifted_xor x w h g = ⊎_elim below above (below? x 128)
  where
    below : x < 128 → shifted (bit_xor x w) ≡ bit_xor (shifted x) (w * 2)
    below l =
        low (bit_xor x w) (xor_lt 7 x w l g) ∙ sym (doubled x w) ∙ ap (λ (k : ℕ). bit_xor k (w * 2)) (sym (low x l))

    above : 128 ≤ x → shifted (bit_xor x w) ≡ bit_xor (shifted x) (w * 2)
    above l =
        let y : ℕ = bit_xor (x - 128) w in
        let e : 128 + (x - 128) ≡ x = omega arith in
        let t : bit_xor x w ≡ 128 + y = ap (λ (k : ℕ). bit_xor k w) (sym e) ∙ topped (x - 128) w (omega arith) g in
        let p : (128 + y) * 2 - 256 ≡ y * 2 = omega arith in
        let q : (x - 128) * 2 ≡ x * 2 - 256 = omega arith in
        ap shifted t
        ∙ high (128 + y) (omega arith)
        ∙ ap (λ (k : ℕ). bit_xor k generator) (p ∙ sym (doubled (x - 128) w) ∙ ap (λ (k : ℕ). bit_xor k (w * 2)) q)
        ∙ xor_assoc (x * 2 - 256) (w * 2) generator
        ∙ ap (bit_xor (x * 2 - 256)) (xor_comm (w * 2) generator)
        ∙ sym (xor_assoc (x * 2 - 256) generator (w * 2))
        ∙ ap (λ (k : ℕ). bit_xor k (w * 2)) (sym (high x l))

shifted_fits : (x : ℕ) → x < 256 → shifted x < 256
shifted_fits x h =
    ⊎_elim
    (λ l. rw (low x l) (omega arith))
    (λ l. rw (high x l) (xor_lt 8 (x * 2 - 256) generator (omega arith) (omega arith)))
    (below? x 128)

bit_fits : (b : Bool) → cond b 128 0 < 256
bit_fits true = omega arith
bit_fits false = omega arith

pub with_bit_fits : (r : ℕ) (b : Bool) → r < 256 → with_bit r b < 256
unfolding with_bit
with_bit_fits r b h = shifted_fits (bit_xor r (cond b 128 0)) (xor_lt 8 r (cond b 128 0) h (bit_fits b))

digit_bit : (d : ℕ) → d < 2 → cond (eqb d 1) 128 0 ≡ d * 128
digit_bit zero h = refl
digit_bit (suc zero) h = refl
digit_bit (suc (suc d)) h = absurd (omega arith)

-- The register takes the bit d of what is left, and the rest of it stands a place further to the left.
next : (r x d rest : ℕ) → r < 256 → d < 2 → rest < 128 → x ≡ d * 128 + rest
    → shifted (bit_xor r x) ≡ bit_xor (with_bit r (eqb d 1)) (rest * 2)
unfolding with_bit
next r x d rest h hd g e =
    let t : ℕ = cond (eqb d 1) 128 0 in
    let p : x ≡ bit_xor t rest = e ∙ sym (xor_shifted d 7 rest g) ∙ ap (λ (k : ℕ). bit_xor k rest) (sym (digit_bit d hd)) in
    ap shifted (ap (bit_xor r) p ∙ sym (xor_assoc r t rest))
    ∙ shifted_xor (bit_xor r t) rest (xor_lt 8 r t h (bit_fits (eqb d 1))) g

abbrev eight : ℕ → ℕ
eight x = shifted (shifted (shifted (shifted (shifted (shifted (shifted (shifted x)))))))

byte : (r x : ℕ) → r < 256 → x < 256 → eight (bit_xor r x) ≡ with_bits r (bits_of 8 x)
unfolding with_bits
byte r x h g =
    let r1 : ℕ = with_bit r (eqb (x / 128 % 2) 1) in
    let r2 : ℕ = with_bit r1 (eqb (x / 64 % 2) 1) in
    let r3 : ℕ = with_bit r2 (eqb (x / 32 % 2) 1) in
    let r4 : ℕ = with_bit r3 (eqb (x / 16 % 2) 1) in
    let r5 : ℕ = with_bit r4 (eqb (x / 8 % 2) 1) in
    let r6 : ℕ = with_bit r5 (eqb (x / 4 % 2) 1) in
    let r7 : ℕ = with_bit r6 (eqb (x / 2 % 2) 1) in
    let h1 : r1 < 256 = with_bit_fits r (eqb (x / 128 % 2) 1) h in
    let h2 : r2 < 256 = with_bit_fits r1 (eqb (x / 64 % 2) 1) h1 in
    let h3 : r3 < 256 = with_bit_fits r2 (eqb (x / 32 % 2) 1) h2 in
    let h4 : r4 < 256 = with_bit_fits r3 (eqb (x / 16 % 2) 1) h3 in
    let h5 : r5 < 256 = with_bit_fits r4 (eqb (x / 8 % 2) 1) h4 in
    let h6 : r6 < 256 = with_bit_fits r5 (eqb (x / 4 % 2) 1) h5 in
    let h7 : r7 < 256 = with_bit_fits r6 (eqb (x / 2 % 2) 1) h6 in
    ap (λ (k : ℕ). shifted (shifted (shifted (shifted (shifted (shifted (shifted k)))))))
    (next r x (x / 128 % 2) (x % 128) h (omega arith) (omega arith) (omega arith))
    ∙ ap (λ (k : ℕ). shifted (shifted (shifted (shifted (shifted (shifted k))))))
    (next r1 (x % 128 * 2) (x / 64 % 2) (x % 64 * 2) h1 (omega arith) (omega arith) (omega arith))
    ∙ ap (λ (k : ℕ). shifted (shifted (shifted (shifted (shifted k)))))
    (next r2 (x % 64 * 2 * 2) (x / 32 % 2) (x % 32 * 4) h2 (omega arith) (omega arith) (omega arith))
    ∙ ap (λ (k : ℕ). shifted (shifted (shifted (shifted k))))
    (next r3 (x % 32 * 4 * 2) (x / 16 % 2) (x % 16 * 8) h3 (omega arith) (omega arith) (omega arith))
    ∙ ap (λ (k : ℕ). shifted (shifted (shifted k)))
    (next r4 (x % 16 * 8 * 2) (x / 8 % 2) (x % 8 * 16) h4 (omega arith) (omega arith) (omega arith))
    ∙ ap (λ (k : ℕ). shifted (shifted k))
    (next r5 (x % 8 * 16 * 2) (x / 4 % 2) (x % 4 * 32) h5 (omega arith) (omega arith) (omega arith))
    ∙ ap shifted (next r6 (x % 4 * 32 * 2) (x / 2 % 2) (x % 2 * 64) h6 (omega arith) (omega arith) (omega arith))
    ∙ next r7 (x % 2 * 64 * 2) (x / 1 % 2) 0 h7 (omega arith) (omega arith) (omega arith)
    ∙ xor_zero_r (with_bit r7 (eqb (x / 1 % 2) 1))

-- The code of the empty message.
pub pec_none : pec_of [] ≡ 0
unfolding pec_of bits_of_bytes with_bits
pec_none = refl

-- The code of one byte.
pub pec_one : (x : ℕ) → pec_of (x ∷ []) ≡ with_bits 0 (bits_of 8 x)
unfolding pec_of bits_of_bytes with_bits
pec_one x = refl

-- One more byte after the code r.
pub pec_byte : (r x : ℕ) → r < 256 → x < 256 → pec_of (bit_xor r x ∷ []) ≡ with_bits r (bits_of 8 x)
pec_byte r x h g =
    pec_one (bit_xor r x)
    ∙ sym (byte 0 (bit_xor r x) (omega arith) (xor_lt 8 r x h g))
    ∙ ap eight (xor_zero_l (bit_xor r x))
    ∙ byte r x h g

with_bits_append : (r : ℕ) (a b : List Bool) → with_bits r (a ++ b) ≡ with_bits (with_bits r a) b
unfolding with_bits
with_bits_append r [] b = refl
with_bits_append r (x ∷ a) b = with_bits_append (with_bit r x) a b

with_bits_fits : (r : ℕ) (a : List Bool) → r < 256 → with_bits r a < 256
unfolding with_bits
with_bits_fits r [] h = h
with_bits_fits r (x ∷ a) h = with_bits_fits (with_bit r x) a (with_bit_fits r x h)

pub pec_fits : (s : List ℕ) → pec_of s < 256
unfolding pec_of
pec_fits s = with_bits_fits 0 (bits_of_bytes s) (omega arith)

bytes_append : (a b : List ℕ) → bits_of_bytes (a ++ b) ≡ bits_of_bytes a ++ bits_of_bytes b
unfolding bits_of_bytes
bytes_append [] b = refl
bytes_append (x ∷ a) b = ap (λ (l : List Bool). bits_of 8 x ++ l) (bytes_append a b) ∙ sym (append_assoc (bits_of 8 x) (bits_of_bytes a) (bits_of_bytes b))

-- The code of a message with one more byte.
pub pec_more : (s : List ℕ) (x : ℕ) → pec_of (s ++ (x ∷ [])) ≡ with_bits (pec_of s) (bits_of 8 x)
unfolding pec_of bits_of_bytes
pec_more s x =
    ap (with_bits 0) (bytes_append s (x ∷ []))
    ∙ with_bits_append 0 (bits_of_bytes s) (bits_of 8 x ++ [])
    ∙ ap (with_bits (with_bits 0 (bits_of_bytes s))) (append-nil (bits_of 8 x))

-- The entries 0, 1 and 128 of the table.
pub marked_entries : pec_of (0 ∷ []) ∷ pec_of (1 ∷ []) ∷ pec_of (128 ∷ []) ∷ [] ≡ 0x00 ∷ 0x07 ∷ 0x89 ∷ []
unfolding shifted with_bit with_bits bits_of_bytes pec_of
marked_entries = refl
