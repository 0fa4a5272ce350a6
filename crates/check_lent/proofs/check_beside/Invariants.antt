use mathlib.Core.Path.{◌≡◌}
use mathlib.Core.Bool.{false, cond}
use Prim.Native.Nat.{◌≤◌}
use lib.ListN.{length}
use Rattle.check_lent.proofs.check_beside.Given as goal

abbrev pub invariant-loop-symbols : goal.invariant-loop-symbols
invariant-loop-symbols l =
    (l.symbols ≡ false → l.text ≤ 8192) × (length l.types ≡ length l.initial.types) × (length l.trees ≡ length l.initial.trees)

abbrev pub decreases-loop-symbols : goal.decreases-loop-symbols
decreases-loop-symbols l =
    cond l.symbols 0 1
