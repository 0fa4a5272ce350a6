use mathlib.Core.Path.{◌≡◌}
use lib.ListN.{length}
use Prim.Native.Nat.{ℕ, ◌+◌, ◌≤◌, ◌*◌, ◌-◌}
use Rattle.column_constraints.specs.Abstraction.{Conjuncts, numbered}
use Rattle.merge.specs.Reasons.{shown_in}
use mathlib.Core.List.{List}
use Rattle.column_reasons.proofs.Places.{text_to}
use Rattle.column_constraints.specs.Abstraction.{kinds_in, values_in}
use Rattle.column_reasons.proofs.column_length.Given as goal

abbrev pub invariant-loop-p : goal.invariant-loop-p
invariant-loop-p l =
    (l.p ≤ l.places) × (l.size ≤ 8589934640 * l.p) × ((s : Conjuncts) → s.kinds ≡ (kinds_in l.told) → s.values ≡ (values_in l.told) → (text :
    List ℕ) → l.size ≡ 0 + length (text_to (shown_in l.t text) l.a.0 s (numbered l.marks l.c) l.p))
