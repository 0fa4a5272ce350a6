use Prim.Native.Nat.{ℕ, ◌≤◌}
use mathlib.Core.Path.{◌≡◌}
use lib.ListN.{get_or}
use lib.Dec.{eqb}
use Rattle.row_list.specs.Numbers.{count}
use Rattle.row_list.proofs.count_class.Given as goal

abbrev pub invariant-loop-i : goal.invariant-loop-i
invariant-loop-i l =
    (l.i ≤ l.fn.rows) × (l.n ≤ l.i) × (l.n ≡ count (λ (j : ℕ). eqb (get_or l.classes j 0) l.class) l.i)
