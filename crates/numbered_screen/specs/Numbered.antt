-- A screen with symbols told as one of numbers: type 4 becomes type 1, Int, and every bit stays. t is the column table, rs the
-- records.
use Rattle.std.specs.Prelude.{◌≡◌, cond, List, ℕ, ◌*◌, ◌%◌, ◌≤◌, ◌<◌, eqb, length, get_or}

unfoldable pub number_type : ℕ → ℕ
number_type ty = cond (eqb ty 4) 1 ty

-- Byte i of the records: byte 2 of each is its type, 0 where it has none.
unfoldable pub number_byte : ℕ → ℕ → ℕ
number_byte i byte = cond (eqb (i % 16) 2) (number_type byte) byte

-- `table` and the first `used` records of `records` are the screen's numbers.
pub record Numbered (t rs : List ℕ) (used : ℕ) (table records : List ℕ) : Type 0 where
  pub columns : length table ≡ length t
  pub types : (c : ℕ) → get_or table c 0 ≡ number_type (get_or t c 0)
  pub room : 16 * used ≤ length records
  pub bytes : (i : ℕ) → i < 16 * used → get_or records i 0 ≡ number_byte i (get_or rs i 0)
