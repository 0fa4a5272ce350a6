-- What columns read promises beyond being equal to its definition, in 01's own words.
use Rattle.std.specs.Prelude.{ℕ, ◌<◌, List, ◌≡◌}
use Rattle.std.specs.Int.Count.{ones}
use Rattle.checking.specs.Columns.{bit, reaches}

-- columns read answered 256: bit c of the word is set exactly if the root reaches column c, and the count is the number of
-- ones in the word
abbrev pub ColumnsPromise : List ℕ → ℕ → ℕ → ℕ → ℕ → Type 0
ColumnsPromise rs root answer word count =
    answer ≡ 256 → ((c : ℕ) → c < 64 → bit word c ≡ reaches rs c root) × (count ≡ ones word)
