use mathlib.Core.Path.{◌≡◌}
use mathlib.Core.Bool.{cond}
use Prim.Native.Nat.{◌-◌, ◌≤◌}
use lib.ListN.{length}
use Rattle.records.specs.Shape.{in_pool}
use Rattle.record_check.proofs.Filling.{Filled}
use Rattle.symbol_screens.specs.Placed.{word_at}
use Rattle.ranked_screen.proofs.places.fill_values.Given as goal

-- `fill_values` meets its contract. Assumes nothing.
abbrev pub invariant-loop-i : goal.invariant-loop-i
invariant-loop-i l =
    (l.i ≤ l.n) × (length l.values ≡ length l.initial.values) × Filled (λ k. cond (in_pool l.size (word_at l.rs l.p l.used k)) (word_at l.rs
    l.p l.used k) 0) l.values l.i
