use mathlib.Core.Path.{◌≡◌}
use Prim.Native.Nat.{ℕ, ◌≤◌}
use lib.ListN.{length}
use Rattle.column_sets.specs.Index.{Sets}
use Rattle.column_constraints.specs.Abstraction.{starts_in, counts_in}
use Rattle.columns.proofs.index.put_lists.Given as goal

abbrev pub invariant-loop-j : goal.invariant-loop-j
invariant-loop-j l =
    (l.j ≤ 128) × (length l.index ≡ length l.initial.index) × ((s : ℕ) → Sets (starts_in l.told) (counts_in l.told) l.pool l.sorted l.index l.k l.m l.j s 0)
