use Rattle.std.proofs.Common.{◌≡◌, ℕ, ◌+◌, ◌*◌, ◌≤◌, cond, eqb}
use Rattle.records.specs.Bytes.{all, value_at}
use Rattle.truth.specs.FromBytes.{null_marked}
use Rattle.chain_rows.proofs.fitting.null_values.Given as goal

abbrev pub invariant-loop-c : goal.invariant-loop-c
invariant-loop-c l =
    (l.c ≤ l.columns) × (eqb l.m 0 ≡ all (λ (j : ℕ). eqb (cond (null_marked l.nulls j) (value_at l.values (l.columns * l.row +
    j)) 0) 0) l.c)
