use Prim.Native.Nat.{◌+◌, ◌-◌, ◌≤◌}
use mathlib.Core.Path.{◌≡◌}
use lib.ListN.{length}
use Rattle.checking.specs.Columns.{columns_word}
use Rattle.record_check.proofs.Filling.{Filled}
use Rattle.checking.proofs.reads.fill_words.Given as goal

abbrev pub invariant-loop-i : goal.invariant-loop-i
invariant-loop-i l =
    (l.i ≤ l.fn.root.0 + 1) × (length l.words ≡ length l.initial.words) × Filled (columns_word l.rs) l.words l.i
