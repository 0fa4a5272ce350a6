use mathlib.Core.Path.{◌≡◌}
use lib.ListN.{length}
use Prim.Native.Nat.{◌+◌, ◌≤◌, ◌-◌}
use Rattle.column_constraints.specs.Abstraction.{Conjuncts, numbered}
use Rattle.merge.specs.Reasons.{shown_in}
use Rattle.merge.specs.Write.{splice}
use Rattle.column_reasons.proofs.Places.{text_to}
use Rattle.column_constraints.specs.Abstraction.{kinds_in, values_in}
use Rattle.column_reasons.proofs.write_column_reasons.Given as goal

abbrev pub invariant-loop-p : goal.invariant-loop-p
invariant-loop-p l =
    (l.p ≤ l.places) × (length l.out ≡ length l.initial.out) × ((s : Conjuncts) → s.kinds ≡ (kinds_in l.told) → s.values ≡ (values_in l.told) → l.next
    ≡ l.at + length (text_to (shown_in l.t l.text) l.a.0 s (numbered l.marks l.c) l.p)) × ((s : Conjuncts) → s.kinds ≡ (kinds_in l.told)
    → s.values ≡ (values_in l.told) → l.out ≡ splice l.initial.out l.at (text_to (shown_in l.t l.text) l.a.0 s (numbered l.marks l.c) l.p))
