use Prim.Native.Nat.{◌-◌, ◌≤◌}
use mathlib.Core.Path.{◌≡◌}
use Rattle.checksum.specs.Checksum.{ones_sum}
use Rattle.checksum.specs.Checksum.{cleared}
use Rattle.checksum_bench.proofs.by_pairs.Given as goal

abbrev pub invariant-loop-k : goal.invariant-loop-k
invariant-loop-k l =
    (1 ≤ l.k) × (l.k ≤ 256) × (l.sum ≤ 65535) × (l.sum ≡ ones_sum (cleared l.block) l.k)
