-- The builder's call: its number and the values of its out-parameters for each answer, and what it promises.
use Rattle.std.specs.Prelude.{◌≡◌, List, ℕ, ◌*◌, ◌<◌, take, drop}
use Rattle.slowest.specs.Promise.{TakesAllPasses}
use Rattle.slowest.specs.SlowestAnswer.{SlowestAnswer}
use Rattle.slowest.specs.SlowestAnswer.{Refused, Built}

-- 256: built
abbrev pub slowest_number : SlowestAnswer → ℕ
slowest_number (Refused k) = k
slowest_number (Built root used) = 256

-- the root that stands in `root` after the call, which found `old` there
abbrev pub built_root : SlowestAnswer → ℕ → ℕ
built_root (Refused k) old = old
built_root (Built root used) old = root

-- the same of `used`
abbrev pub built_used : SlowestAnswer → ℕ → ℕ
built_used (Refused k) old = old
built_used (Built root used) old = used

-- One call: table and records were lent, tableOut and recordsOut stand there after it. With 256 the screen's own table is
-- the front of the one lent. What is behind the screen keeps its bytes; a refusal writes nothing.
pub record SlowestPromise (n answer : ℕ) (table table_out records records_out : List ℕ) (root used : ℕ) : Type 0 where
  pub slowest : answer ≡ 256 → TakesAllPasses n (take n table_out) records_out used root
  pub table_kept : drop n table_out ≡ drop n table
  pub records-kept : drop (48 * n) records_out ≡ drop (48 * n) records
  pub refused : answer < 256 → (table_out ≡ table) × (records_out ≡ records)
