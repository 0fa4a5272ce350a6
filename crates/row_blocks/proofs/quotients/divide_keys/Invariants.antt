use Rattle.std.proofs.Common.{◌≡◌, ◌≤◌, length}
use Rattle.masks.proofs.Blocks.{KeptBelow}
use Rattle.row_blocks.proofs.Dividing.{Divided, Untouched}
use Rattle.row_blocks.proofs.quotients.divide_keys.Given as goal

abbrev pub invariant-loop-i : goal.invariant-loop-i
invariant-loop-i l =
    (l.i ≤ l.rows) × (length l.keys ≡ length l.initial.keys) × Divided l.code l.rows l.initial.keys l.at l.one l.two l.x l.y l.keys l.marks l.i × Untouched
    l.code l.rows l.initial.keys l.at l.one l.two l.x l.y l.keys l.i × KeptBelow l.initial.keys l.keys l.at
