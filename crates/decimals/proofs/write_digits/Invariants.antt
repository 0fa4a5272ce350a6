use Prim.Native.Nat.{◌+◌, ◌≤◌}
use mathlib.Core.Path.{◌≡◌}
use lib.ListN.{length}
use Rattle.merge.specs.Write.{splice}
use Rattle.decimals.specs.Decimal.{decimal}
use Rattle.decimals.proofs.write_digits.Given as goal

abbrev pub invariant-loop-rest : goal.invariant-loop-rest
invariant-loop-rest l =
    (l.i ≡ l.at + length (decimal l.rest)) × (l.i ≤ length l.s) × (length l.s ≡ length l.initial.s) × (splice l.s l.at (decimal l.rest) ≡
    splice l.initial.s l.at (decimal l.n))

abbrev pub decreases-loop-rest : goal.decreases-loop-rest
decreases-loop-rest l =
    l.rest
