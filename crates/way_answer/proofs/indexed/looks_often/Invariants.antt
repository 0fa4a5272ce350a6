use Prim.Native.Nat.{ℕ, ◌+◌, ◌*◌, ◌≤◌, ◌<◌, ◌-◌}
use lib.ListN.{get_or}
use Rattle.column_constraints.specs.Abstraction.{starts_in, counts_in}
use Rattle.way_answer.proofs.indexed.looks_often.Given as goal

abbrev pub invariant-loop-j : goal.invariant-loop-j
invariant-loop-j l =
    (l.j ≤ 128) × (l.total ≤ l.j * 8192) × ((i : ℕ) → i < l.j → get_or (starts_in l.told) i 0 + get_or (counts_in l.told) i 0 ≤ 8192)
