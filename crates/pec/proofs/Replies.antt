-- Replies: what `seal` writes, and that it is whole.
use Prim.Native.Nat.{ℕ, ◌/◌, ◌%◌, ◌<◌}
use mathlib.Core.Path.{◌≡◌, refl, sym, ◌∙◌}
use mathlib.Core.List.{List, [], ◌∷◌, ◌++◌}
use native.Mathlib.Omega.{arith}
use lib.ListN.{length, get_or, take, set}
use borrow.Author.Tests.{eq-eqb}
use Rattle.refusals.specs.Refusals.{answer}
use Rattle.pec.specs.Code.{pec_of}
use Rattle.pec.specs.Reply.{body, sealed, check_verdict, check_answer}

-- What holds of every six bytes holds of a list of that length.
six : (P : List ℕ → Type 0) → ((a b c d e f : ℕ) → P (a ∷ b ∷ c ∷ d ∷ e ∷ f ∷ [])) → (s : List ℕ) → length s ≡ 6 → P s
six P p (a ∷ b ∷ c ∷ d ∷ e ∷ f ∷ []) h = p a b c d e f
six P p [] h = absurd (omega arith)
six P p (a ∷ []) h = absurd (omega arith)
six P p (a ∷ b ∷ []) h = absurd (omega arith)
six P p (a ∷ b ∷ c ∷ []) h = absurd (omega arith)
six P p (a ∷ b ∷ c ∷ d ∷ []) h = absurd (omega arith)
six P p (a ∷ b ∷ c ∷ d ∷ e ∷ []) h = absurd (omega arith)
six P p (a ∷ b ∷ c ∷ d ∷ e ∷ f ∷ g ∷ s) h = absurd (omega arith)

module _ (s : List ℕ) (h : length s ≡ 6) where
  pub check_whole : get_or s 0 0 ≡ 0x16 → get_or s 2 0 ≡ 0x17 → pec_of (take 5 s) ≡ get_or s 5 0 → answer 0 ≡ check_answer s
  unfolding check_verdict
  check_whole a b p =
      rw (eq-eqb (length s) 6 h, eq-eqb (get_or s 0 0) 0x16 a, eq-eqb (get_or s 2 0) 0x17 b, eq-eqb (pec_of (take 5 s)) (get_or s 5 0) p)

  pub sealed_six : (command word : ℕ) → sealed command word s ≡ body command word ++ (pec_of (body command word) ∷ [])
  unfolding sealed
  sealed_six command word = rw (eq-eqb (length s) 6 h)

-- What `seal` writes `check` answers 0, for every command and word.
pub seal_check : (s : List ℕ) → length s ≡ 6 → (command word : ℕ) → check_answer (sealed command word s) ≡ answer 0
seal_check s h command word =
    rw (sealed_six s h command word) (sym (check_whole (body command word ++ (pec_of (body command word) ∷ [])) refl refl refl refl))

-- The buffer as `seal` leaves it: five bytes stored one by one, and their code over the sixth.
pub stored : {bytes : List ℕ} {code : ℕ} (s : List ℕ) (command word : ℕ) → length s ≡ 6 → word < 65536 → bytes ≡ word % 256 ∷ word / 256 % 256 ∷ []
    → code ≡ pec_of (0x16 ∷ command ∷ 0x17 ∷ get_or bytes 0 0 ∷ get_or bytes 1 0 ∷ [])
    → set (set (set (set (set (set s 0 0x16) 1 command) 2 0x17) 3 (get_or bytes 0 0)) 4 (get_or bytes 1 0)) 5 code ≡ sealed command word s
stored {bytes} {code} s command word h w b e =
    let high : word / 256 % 256 ≡ word / 256 = omega arith in
    let is_code : code ≡ pec_of (body command word) = e ∙ rw (b, high) in
    rw (is_code, b, high)
    (six (λ s. set (set (set (set (set (set s 0 0x16) 1 command) 2 0x17) 3 (word % 256)) 4 (word / 256)) 5 (pec_of (body command word)) ≡ sealed command word s)
    (λ a b c d e f. sym (sealed_six (a ∷ b ∷ c ∷ d ∷ e ∷ f ∷ []) refl command word)) s h)
