use mathlib.Core.Path.{◌≡◌}
use mathlib.Core.Bool.{false}
use Prim.Native.Nat.{◌≤◌, ◌-◌}
use Rattle.merge.specs.Collect.{is_in}
use Rattle.read_operands.specs.Walk.{first_of}
use Rattle.write_places.proofs.has_entered.Given as goal

abbrev pub invariant-loop-i : goal.invariant-loop-i
invariant-loop-i l =
    (l.i ≤ l.n) × (is_in l.c (first_of l.order l.i) ≡ false)
