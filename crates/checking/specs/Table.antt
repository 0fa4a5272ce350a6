-- A table with one entry a record, filled from record 0 up.
use Rattle.std.specs.Prelude.{ℕ, List, cond, get_or, ltb}

-- the entries below n; there is nothing at n and above
abbrev pub below : List ℕ → ℕ → ℕ → ℕ
below table n x = cond (ltb x n) (get_or table x 0) 0
