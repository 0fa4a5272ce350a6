-- A value more of the pool of ranks. Assumes nothing.
use mathlib.Core.Path.{◌≡◌, sym, ◌∙◌, ap, subst}
use mathlib.Core.List.{List, ◌++◌}
use Prim.Native.Nat.{ℕ, ◌+◌, ◌*◌, ◌/◌, ◌%◌, ◌≤◌, ◌<◌}
use native.Mathlib.Omega.{arith}
use lib.ListN.{length, get_or}
use Rattle.records.specs.Bytes.{word, value_at}
use Rattle.sorted.proofs.Parts.{last}
use Rattle.merge.specs.Write.{splice, word_bytes}
use Rattle.merge.proofs.Splices.{splice-before, splice-in, word_back}
use Rattle.ranked_screen.specs.Screen.{pool_value, RankedPool, write_value}

module _ (l : List ℕ) (k x : ℕ) (room : 8 * k + 8 ≤ length l) where
  abbrev bytes : List ℕ
  bytes = word_bytes (x % 4294967296) ++ word_bytes (x / 4294967296)

  abbrev out : List ℕ
  out = splice l (8 * k) bytes

  byte_at : (j i : ℕ) → j ≡ 8 * k + i → i < 8 → get_or out j 0 ≡ get_or bytes i 0
  byte_at j i e h = ap (λ (m : ℕ). get_or out m 0) e ∙ splice-in l (8 * k) bytes i (omega arith) h

  low_word : word out (8 * k) ≡ x % 4294967296
  unfolding word
  low_word =
      rw (
        byte_at (8 * k) 0 (omega arith) (omega arith),
        byte_at (8 * k + 1) 1 (omega arith) (omega arith),
        byte_at (8 * k + 2) 2 (omega arith) (omega arith),
        byte_at (8 * k + 3) 3 (omega arith) (omega arith),
      )
      (word_back (x % 4294967296) (omega arith))

  high_word : x < 18446744073709551616 → word out (8 * k + 4) ≡ x / 4294967296
  unfolding word
  high_word h =
      rw (
        byte_at (8 * k + 4) 4 (omega arith) (omega arith),
        byte_at (8 * k + 4 + 1) 5 (omega arith) (omega arith),
        byte_at (8 * k + 4 + 2) 6 (omega arith) (omega arith),
        byte_at (8 * k + 4 + 3) 7 (omega arith) (omega arith),
      )
      (word_back (x / 4294967296) (omega arith))

  pub value-new : x < 18446744073709551616 → value_at (write_value l k x) k ≡ x
  unfolding value_at write_value
  value-new h = rw (low_word, high_word h) (omega arith)

  byte_old : (j : ℕ) → j < 8 * k → get_or out j 0 ≡ get_or l j 0
  byte_old j h = splice-before l (8 * k) bytes j (omega arith) h

  word-old : (j : ℕ) → j + 3 < 8 * k → word out j ≡ word l j
  unfolding word
  word-old j h =
      rw (
        byte_old j (omega arith),
        byte_old (j + 1) (omega arith),
        byte_old (j + 2) (omega arith),
        byte_old (j + 3) (omega arith),
      )

  pub value-old : (j : ℕ) → j < k → value_at (write_value l k x) j ≡ value_at l j
  unfolding value_at write_value
  value-old j h = rw (word-old (8 * j) (omega arith), word-old (8 * j + 4) (omega arith))

-- ---- One value more.
pub pool-none : {p ranks : List ℕ} {used : ℕ} {pool : List ℕ} → RankedPool p ranks used 0 pool
pool-none = record { values = λ k h. absurd (omega arith) }

pub pool-more : (p ranks : List ℕ) (used n : ℕ) (pool out : List ℕ) (x : ℕ) → x < 18446744073709551616
    → 8 * n + 8 ≤ length pool → x ≡ pool_value p ranks used n → out ≡ write_value pool n x → RankedPool p ranks used n pool
    → RankedPool p ranks used (n + 1) out
pool-more p ranks used n pool out x low room ex eo h =
    record {
      values = λ k l.
          ap (λ s. value_at s k) eo
          ∙ last k n l (λ (g : k < n). value-old pool n x room k g ∙ h.values k g)
          (λ (g : k ≡ n). subst (λ j. value_at (write_value pool n x) j ≡ pool_value p ranks used j) (sym g)
          (value-new pool n x room low ∙ ex));
    }
