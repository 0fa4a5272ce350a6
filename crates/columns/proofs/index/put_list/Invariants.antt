use mathlib.Core.Path.{◌≡◌}
use mathlib.Core.List.{List}
use Prim.Native.Nat.{ℕ, ◌≤◌}
use lib.ListN.{length}
use Rattle.column_sets.specs.Index.{Sets}
use Rattle.columns.proofs.index.put_list.Given as goal

abbrev pub invariant-loop-i : goal.invariant-loop-i
invariant-loop-i l =
    (l.i ≤ l.count) × (length l.index ≡ length l.initial.index) × ((ss : List ℕ) (cs : List ℕ) → Sets ss cs l.pool l.sorted l.initial.index
    l.k l.m l.j l.start 0 → Sets ss cs l.pool l.sorted l.index l.k l.m l.j l.start l.i)
