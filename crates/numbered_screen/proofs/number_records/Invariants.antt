use mathlib.Core.Path.{◌≡◌}
use Prim.Native.Nat.{◌≤◌}
use lib.ListN.{length, get_or}
use Rattle.record_check.proofs.Filling.{Filled}
use Rattle.numbered_screen.specs.Numbered.{number_byte}
use Rattle.numbered_screen.proofs.number_records.Given as goal

abbrev pub invariant-loop-i : goal.invariant-loop-i
invariant-loop-i l =
    (l.i ≤ l.n) × (length l.records ≡ length l.initial.records) × Filled (λ k. number_byte k (get_or l.rs k 0)) l.records l.i
