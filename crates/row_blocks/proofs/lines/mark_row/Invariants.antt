use Rattle.std.proofs.Common.{◌≡◌, ◌≤◌, length}
use Rattle.row_blocks.proofs.Telling.{MarkedTo}
use Rattle.row_blocks.proofs.lines.mark_row.Given as goal

abbrev pub invariant-loop-c : goal.invariant-loop-c
invariant-loop-c l =
    (l.c ≤ l.columns) × (length l.words ≡ length l.initial.words) × MarkedTo l.marks l.i l.initial.words l.words l.c
