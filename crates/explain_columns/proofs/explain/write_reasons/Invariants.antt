use mathlib.Core.Path.{◌≡◌}
use Prim.Native.Nat.{◌+◌, ◌-◌, ◌≤◌}
use lib.ListN.{length}
use Rattle.column_constraints.specs.Abstraction.{Conjuncts}
use Rattle.column_reasons.specs.ColumnText.{table_text}
use Rattle.merge.specs.Reasons.{shown_in}
use Rattle.merge.specs.Write.{splice}
use Rattle.read_operands.specs.Walk.{first_of}
use Rattle.column_table.specs.Words.{columns_of}
use Rattle.column_table.specs.State.{shown}
use Rattle.column_constraints.specs.Abstraction.{kinds_in, values_in}
use Rattle.explain_columns.proofs.explain.write_reasons.Given as goal

abbrev pub invariant-loop-w : goal.invariant-loop-w
invariant-loop-w l =
    (l.w ≤ l.columns) × (length l.out ≡ length l.initial.out) × ((s : Conjuncts) → s.kinds ≡ (kinds_in l.told) → s.values ≡ (values_in l.told) → l.next
    ≡ 0 + length (table_text (shown_in l.t l.text) (first_of l.order l.w) (shown s (columns_of l.cells) l.marks))) × ((s :
    Conjuncts) → s.kinds ≡ (kinds_in l.told) → s.values ≡ (values_in l.told) → l.out ≡ splice l.initial.out 0 (table_text (shown_in l.t l.text)
    (first_of l.order l.w) (shown s (columns_of l.cells) l.marks)))
