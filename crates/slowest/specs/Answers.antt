-- What the builder answers and writes: 02, 2.13.
use Rattle.std.specs.Prelude.{Bool, cond, ◌&&◌, List, ℕ, ◌*◌, ◌/◌, leb}
use Rattle.merge.specs.Write.{splice}
use Rattle.slowest.specs.Screen.{slowest_table, slowest_bytes, slowest_used, slowest_root}
use Rattle.slowest.specs.SlowestAnswer.{SlowestAnswer}
use Rattle.slowest.specs.SlowestAnswer.{Refused, Built}

-- 19: 2 to 64 columns
abbrev pub known_count : ℕ → Bool
known_count n = leb 2 n && leb n 64

-- 11: a lent table of n bytes, and three whole records of 16 bytes a column
abbrev pub has_room : ℕ → ℕ → ℕ → Bool
has_room table records n = leb n table && leb n (records / 48)

unfoldable pub slowest_answer : ℕ → ℕ → ℕ → SlowestAnswer
slowest_answer n table records =
    cond (known_count n) (cond (has_room table records n) (Built (slowest_root n) (slowest_used n)) (Refused 11)) (Refused 19)

-- The bytes at exit: the screen in the front, and behind it what stood there.
unfoldable pub table_written : SlowestAnswer → ℕ → List ℕ → List ℕ
table_written (Refused k) n old = old
table_written (Built root used) n old = splice old 0 (slowest_table n)

unfoldable pub records_written : SlowestAnswer → ℕ → List ℕ → List ℕ
records_written (Refused k) n old = old
records_written (Built root used) n old = splice old 0 (slowest_bytes n)
