-- What the merging asks of the arrays that it is lent for n conjuncts: each may enter two columns and is kept, or is an
-- equality, once.
use Rattle.std.specs.Prelude.{ℕ, ◌+◌, ◌≤◌, List, length}

abbrev pub Room : ℕ → List ℕ → List ℕ → List ℕ → List ℕ → List ℕ → Type 0
Room n order kept lefts rights equals =
    (n + n ≤ length order) × (n ≤ length kept) × (n ≤ length lefts) × (n ≤ length rights) × (n ≤ length equals)
