use Rattle.rewrite.proofs.Emitting.{bits_in}
use Rattle.merge.specs.Write.{write_comparisons}
use Rattle.column_constraints.specs.Steps.{placed_to}
use Rattle.column_constraints.specs.Abstraction.{Conjuncts, numbered}
use lib.ListN.{length}
use Prim.Native.Nat.{◌≤◌, ◌+◌, ◌*◌, ◌-◌}
use mathlib.Core.Path.{◌≡◌}
use Rattle.column_constraints.specs.Abstraction.{kinds_in, values_in}
use Rattle.rewrite.proofs.emit.write_column.Given as goal

abbrev pub invariant-loop-p : goal.invariant-loop-p
invariant-loop-p l =
    (l.p ≤ l.places) × (l.at ≤ l.u + 3 * l.p) × (length l.rs ≡ length l.initial.rs) × ((s : Conjuncts) → s.kinds ≡ (kinds_in l.told) → s.values
    ≡ (values_in l.told) → l.at ≡ l.u + 3 * length (placed_to s (numbered l.marks l.c) l.p)) × ((s : Conjuncts) → s.kinds ≡ (kinds_in l.told) → s.values ≡ (values_in l.told) → l.rs ≡ write_comparisons l.t l.u (bits_in l.a.0 (placed_to s (numbered l.marks l.c) l.p)) l.initial.rs)
