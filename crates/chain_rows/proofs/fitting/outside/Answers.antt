use Rattle.std.proofs.Common.{ℕ, ◌+◌, ◌*◌, ◌%◌, ◌^◌, get_or, refl, ap, ◌∙◌, arith, rules}
use lib.Bits.{bit_and}
use Rattle.records.specs.Bytes.{value_at}
use Rattle.chain_rows.proofs.RowChecks.{or_all, all_start, all_end, wide-none, wide-more, wide-done, value-within, place-small}
use Rattle.chain_rows.proofs.fitting.outside.Goals as goal

pub loop-c-init : goal.loop-c-init
loop-c-init c = (search rules, all_start _, wide-none _ _ _)

pub overflow_mul-columns : goal.overflow_mul-columns
overflow_mul-columns c =
    let B = place-small _ _ _ c.loop-c-test.true c.requires.columns_bound c.requires.row_bound in
    omega (arith, B)

pub overflow_add-columns : goal.overflow_add-columns
overflow_add-columns c =
    let B = place-small _ _ _ c.loop-c-test.true c.requires.columns_bound c.requires.row_bound in
    omega (arith, B)

pub value_in-v-requires : goal.value_in-v-requires
value_in-v-requires c = value-within _ _ _ _ c.loop-c-test.true c.requires.columns_in_bounds

pub loop-c-preserved : goal.loop-c-preserved
loop-c-preserved c = (
  search rules,
  or_all (λ (j : ℕ). bit_and ((value_at c.args.values.now (c.args.columns * c.args.row + j) + get_or c.args.limits.now j 0) % 2 ^ 64) (get_or c.args.limits.now (64 + j) 0)) c.loop-c.c c.loop-c.m _ _
      c.loop-c.invariant.1 (ap (λ z. bit_and z (get_or c.args.limits.now (64 + c.loop-c.c) 0)) (c.wrapping_add_u64.ensures.value ∙
      ap (λ z. (z + get_or c.args.limits.now c.loop-c.c 0) % 2 ^ 64) c.value_in-v.ensures)) refl,
  wide-more _ _ _
      _ _ (search rules) c.value_in-v.ensures c.loop-c.invariant.2,
)

pub returns : goal.returns
returns c =
    record { result_value = all_end _ _ _ _ (omega arith) c.loop-c.invariant.1; wide_row = wide-done _ _ _ _ _ (omega arith) c.loop-c.invariant.2 }
