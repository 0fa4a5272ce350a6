use Prim.Native.Nat.{◌*◌, ◌≤◌}
use mathlib.Core.Path.{◌≡◌}
use lib.ListN.{length}
use Rattle.file_blocks.specs.Format.{blocks_to, blocks_for, overwrite}
use Rattle.file_blocks.proofs.block.write_blocks.Given as goal

abbrev pub invariant-loop-j : goal.invariant-loop-j
invariant-loop-j l =
    (l.j ≤ l.blocks) × (l.blocks ≡ blocks_for l.content) × (length l.file ≡ length l.initial.file) × (l.file ≡ overwrite l.initial.file (512 *
    l.first) (blocks_to l.first l.kind l.content l.j))
