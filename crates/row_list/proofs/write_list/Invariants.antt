use Prim.Native.Nat.{ℕ, ◌*◌, ◌≤◌}
use mathlib.Core.Path.{◌≡◌}
use lib.ListN.{get_or, length}
use lib.Dec.{eqb}
use Rattle.file_blocks.specs.Format.{overwrite}
use Rattle.row_list.specs.Numbers.{numbers, bytes_of}
use Rattle.row_list.proofs.write_list.Given as goal

abbrev pub invariant-loop-i : goal.invariant-loop-i
invariant-loop-i l =
    (l.i ≤ l.rows) × (l.at ≤ 2 * l.i) × (length l.list ≡ length l.initial.list) × (l.at ≡ length (bytes_of (numbers (λ (j : ℕ). eqb
    (get_or l.classes j 0) 2) l.i))) × (l.list ≡ overwrite l.initial.list 0 (bytes_of (numbers (λ (j : ℕ). eqb (get_or l.classes j 0)
    2) l.i)))
