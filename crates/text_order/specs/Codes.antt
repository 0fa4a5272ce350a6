-- Numbers for the symbols of a text pool (02, 2.10), by a word for each start. `Codes` is what is promised.
use Rattle.std.specs.Prelude.{◌≡◌, true, cond, List, ltb, eqb, length, get_or}
use Prim.Native.Nat.{ℕ, zero, suc, ◌+◌, ◌*◌, ◌/◌, ◌%◌, ◌<◌, compare}
use Rattle.records.specs.Shape.{start_of, length_of, in_pool}
use Rattle.truth.specs.Halves.{ordering}
use Rattle.symbols.specs.Symbol.{symbol, cmp_bytes}

-- The word of a start: how many different starts are below it, how many bytes it has in common with the last of these, the first start
-- that has these bytes too, and the one before it.
abbrev pub rank_in : ℕ → ℕ
rank_in w = w % 8192

abbrev pub depth_in : ℕ → ℕ
depth_in w = w / 8192 % 32

abbrev pub link_in : ℕ → ℕ
link_in w = w / 262144 % 8192

abbrev pub before_in : ℕ → ℕ
before_in w = w / 2147483648 % 8192

-- From start s on, the rank of the first start that has its first l bytes.
unfoldable pub walk : ℕ → List ℕ → ℕ → ℕ → ℕ
walk zero C s l = rank_in (get_or C s 0)
walk (suc n) C s l = cond (ltb (depth_in (get_or C s 0)) l) (rank_in (get_or C s 0)) (walk n C (link_in (get_or C s 0)) l)

-- The number of a symbol. The empty one is below all others.
unfoldable pub code_of : List ℕ → ℕ → ℕ
code_of C v = cond (eqb (length_of v) 0) 0 (32 * walk 17 C (start_of v % 8192) (length_of v) + length_of v)

-- C gives the symbols of the text numbers that compare as they do.
pub record Codes (text C : List ℕ) : Type 0 where
  pub alike : (a b : ℕ) → in_pool (length text) a ≡ true → in_pool (length text) b ≡ true
      → ordering (compare (code_of C a) (code_of C b)) ≡ cmp_bytes (symbol text a) (symbol text b)
  pub below : (a : ℕ) → in_pool (length text) a ≡ true → code_of C a < 262144
