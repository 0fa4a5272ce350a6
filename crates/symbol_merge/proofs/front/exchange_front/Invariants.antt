use mathlib.Core.Path.{◌≡◌}
use Prim.Native.Nat.{◌-◌, ◌≤◌}
use Rattle.symbol_merge.specs.Fronts.{fronted}
use Rattle.symbol_merge.proofs.front.exchange_front.Given as goal

abbrev pub invariant-loop-i : goal.invariant-loop-i
invariant-loop-i l =
    (l.i ≤ l.size) × (l.rs ≡ fronted l.i l.initial.src l.initial.rs) × (l.src ≡ fronted l.i l.initial.rs l.initial.src)
