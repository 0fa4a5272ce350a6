-- Number 8 of 01: the tree of a record, shared records counted each time they are reached.
use Rattle.std.specs.Prelude.{ℕ, ◌+◌, ◌<◌, min, List, [], ◌∷◌, ◌≡◌, get_or}
use Rattle.records.specs.Course.{course}
use Rattle.records.specs.Record.{node, record_at, inputs}
use Rattle.records.specs.declared.record.Record.{Record}

-- the sum of counts at the numbers of a list
abbrev pub sum_at : (ℕ → ℕ) → List ℕ → ℕ
sum_at f [] = 0
sum_at f (x ∷ l) = f x + sum_at f l

-- a record counts one, and each of its inputs its own tree
abbrev pub tree_step : (ℕ → ℕ) → Record → ℕ
tree_step below r = 1 + sum_at below (inputs r)

-- the records in the tree of record n; an input that is not below its record counts nothing
abbrev pub tree_count : List ℕ → ℕ → ℕ
tree_count rs n = course (λ a. 0) (λ below i. tree_step below (record_at rs (node i))) n

-- a table with the tree counts of the records below n, each 4,097 if above 4,096
abbrev pub Counted : List ℕ → List ℕ → ℕ → Type 0
Counted rs trees n = (a : ℕ) → a < n → get_or trees a 0 ≡ min (tree_count rs a) 4097
