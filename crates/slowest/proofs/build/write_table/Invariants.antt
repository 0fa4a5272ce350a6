use mathlib.Core.Path.{◌≡◌}
use Prim.Native.Nat.{◌-◌, ◌≤◌}
use lib.ListN.{length, replicate}
use Rattle.merge.specs.Write.{splice}
use Rattle.slowest.proofs.build.write_table.Given as goal

abbrev pub invariant-loop-i : goal.invariant-loop-i
invariant-loop-i l =
    (l.i ≤ l.n) × (length l.table ≡ length l.initial.table) × (l.table ≡ splice l.initial.table 0 (replicate l.i 1))
