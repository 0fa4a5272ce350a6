use mathlib.Core.Path.{◌≡◌}
use Prim.Native.Nat.{◌+◌, ◌-◌, ◌≤◌}
use lib.ListN.{length}
use Rattle.rewrite.specs.Written.{chain_at, acc_at, ands_to}
use Rattle.rewrite.proofs.write.write_ands.Given as goal

abbrev pub invariant-loop-i : goal.invariant-loop-i
invariant-loop-i l =
    (1 ≤ l.i)
    × (l.i - 1 ≤ l.total - 1)
    × (l.u ≡ l.at + (l.i - 1))
    × (length l.rs ≡ length l.initial.rs)
    × (l.acc ≡ acc_at (chain_at l.nodes l.kept l.used) l.at (l.i - 1))
    × (l.rs ≡ ands_to (chain_at l.nodes l.kept l.used) l.at (l.i - 1) l.initial.rs)
