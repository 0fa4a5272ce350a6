use Prim.Native.Nat.{◌*◌, ◌/◌, ◌≤◌}
use mathlib.Core.Path.{◌≡◌}
use lib.ListN.{length}
use Rattle.file_structure.specs.Read.{total_to}
use Rattle.file_structure.proofs.total_of.Given as goal

abbrev pub invariant-loop-i : goal.invariant-loop-i
invariant-loop-i l =
    (l.i ≤ l.n) × (l.n ≡ length l.f / 512) × (l.sum ≤ 496 * l.i) × (l.sum ≡ total_to l.kind l.f l.i)
