use Rattle.std.proofs.Common.{◌≡◌, ℕ, ◌+◌, ◌*◌, ◌%◌, ◌^◌, ◌≤◌, eqb, get_or}
use lib.Bits.{bit_and}
use Rattle.records.specs.Bytes.{all, value_at}
use Rattle.chain_rows.specs.Limits.{WideRow}
use Rattle.chain_rows.proofs.fitting.outside.Given as goal

abbrev pub invariant-loop-c : goal.invariant-loop-c
invariant-loop-c l =
    (l.c ≤ l.columns) × (eqb l.m 0 ≡ all (λ (j : ℕ). eqb (bit_and ((value_at l.values (l.columns * l.row + j) + get_or l.limits j
    0) % 2 ^ 64) (get_or l.limits (64 + j) 0)) 0) l.c) × WideRow l.columns l.values l.row l.c
