use Prim.Native.Nat.{◌-◌, ◌/◌, ◌≤◌}
use mathlib.Core.Path.{◌≡◌}
use lib.ListN.{length}
use Rattle.file_blocks.specs.Format.{overwrite}
use Rattle.file_structure.specs.Read.{held_to}
use Rattle.files.proofs.held.gather.Given as goal

abbrev pub invariant-loop-i : goal.invariant-loop-i
invariant-loop-i l =
    (l.i ≤ l.n) × (l.n ≡ length l.f / 512) × (length l.dst ≡ length l.initial.dst) × (l.at ≡ length (held_to l.kind l.f l.i)) × (l.dst ≡
    overwrite l.initial.dst 0 (held_to l.kind l.f l.i))
