use Prim.Native.Nat.{ℕ, ◌+◌, ◌≤◌}
use mathlib.Core.Path.{◌≡◌}
use lib.ListN.{length, get_or}
use Rattle.truth.specs.FromBytes.{null_marked}
use Rattle.masks.specs.Masks.{mask_to}
use Rattle.masks.specs.Block.{chain_value}
use Rattle.masks.proofs.Blocks.{ShownTo, KeptBelow}
use Rattle.masks.proofs.block.fill_column.Given as goal

abbrev pub invariant-loop-i : goal.invariant-loop-i
invariant-loop-i l =
    (l.i ≤ l.rows) × (length l.keys ≡ length l.initial.keys) × (l.marks ≡ mask_to (λ (j : ℕ). null_marked (get_or l.nulls (l.base + j) 0)
    l.c) l.i) × ShownTo (λ (j : ℕ). null_marked (get_or l.nulls (l.base + j) 0) l.c) (λ (j : ℕ). chain_value l.columns l.values l.nulls
    l.c (l.base + j)) l.keys l.at l.i × KeptBelow l.initial.keys l.keys l.at
