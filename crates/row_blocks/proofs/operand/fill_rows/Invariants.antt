use Rattle.std.proofs.Common.{◌≡◌, ℕ, ◌+◌, ◌≤◌, length}
use Rattle.truth.specs.Evaluate.{null_test}
use Rattle.masks.specs.Masks.{mask_to}
use Rattle.masks.specs.Block.{chain_worth}
use Rattle.masks.proofs.Blocks.{ShownTo, KeptBelow}
use Rattle.row_blocks.proofs.operand.fill_rows.Given as goal

abbrev pub invariant-loop-i : goal.invariant-loop-i
invariant-loop-i l =
    (l.i ≤ l.rows) × (length l.keys ≡ length l.initial.keys) × (l.marks ≡ mask_to (λ (j : ℕ). null_test (chain_worth l.records l.pool
    l.columns l.values l.nulls l.n.0 (l.base + j))) l.i) × ShownTo (λ (j : ℕ). null_test (chain_worth l.records l.pool l.columns
    l.values l.nulls l.n.0 (l.base + j))) (λ (j : ℕ). chain_worth l.records l.pool l.columns l.values l.nulls l.n.0 (l.base + j))
    l.keys l.at l.i × KeptBelow l.initial.keys l.keys l.at
