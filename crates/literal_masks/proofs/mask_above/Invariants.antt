use Prim.Native.Nat.{ℕ, ◌+◌, ◌-◌, ◌≤◌}
use mathlib.Core.Path.{◌≡◌}
use lib.Dec.{ltb}
use Rattle.truth.specs.Halves.{bias_of}
use Rattle.masks.specs.Masks.{mask_to}
use Rattle.masks.specs.Block.{cell_of, Wide}
use Rattle.literal_masks.proofs.mask_above.Given as goal

abbrev pub invariant-loop-i : goal.invariant-loop-i
invariant-loop-i l =
    (l.i ≤ l.rows) × (l.m ≡ mask_to (λ (j : ℕ). ltb (bias_of l.v) (bias_of (cell_of l.columns l.values l.c l.base (l.i + j)))) (l.rows -
    l.i)) × Wide l.columns l.values l.c l.base l.i l.rows
