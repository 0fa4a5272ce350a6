use Prim.Native.Nat.{◌-◌, ◌*◌, ◌≤◌}
use mathlib.Core.Path.{◌≡◌}
use Rattle.checksum.specs.Words.{word_sum}
use Rattle.checksum.proofs.word_sum.Given as goal

abbrev pub invariant-loop-k : goal.invariant-loop-k
invariant-loop-k l =
    (l.k ≤ 64) × (l.sum ≤ 8589934590 * l.k) × (l.sum ≡ word_sum l.block l.k)
