use mathlib.Core.Path.{◌≡◌}
use Prim.Native.Nat.{◌*◌, ◌-◌, ◌≤◌}
use lib.ListN.{length}
use Rattle.merge.specs.Write.{splice}
use Rattle.slowest.specs.Screen.{bytes_to}
use Rattle.slowest.proofs.build.write_records.Given as goal

abbrev pub invariant-loop-i : goal.invariant-loop-i
invariant-loop-i l =
    (l.i ≤ 3 * l.n) × (length l.records ≡ length l.initial.records) × (l.records ≡ splice l.initial.records 0 (bytes_to l.n l.i))
