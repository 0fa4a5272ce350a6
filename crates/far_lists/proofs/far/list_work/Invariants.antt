use Prim.Native.Nat.{ℕ, ◌+◌, ◌*◌, ◌≤◌, ◌<◌, ◌-◌}
use lib.ListN.{get_or}
use Rattle.column_constraints.specs.Abstraction.{starts_in, counts_in}
use Rattle.far_lists.proofs.far.list_work.Given as goal

abbrev pub invariant-loop-j : goal.invariant-loop-j
invariant-loop-j l = (l.j ≤ 128) × (l.lists ≤ l.j) × (l.total ≤ l.j * 16384) × ((i : ℕ) → i < l.j → get_or (starts_in l.told) i 0 + get_or (counts_in l.told) i 0 ≤ l.places)
