use Rattle.std.proofs.Common.{ℕ, ◌+◌, ◌*◌, cond, refl, ap, ◌∙◌, arith, rules}
use Rattle.records.specs.Bytes.{value_at}
use Rattle.truth.specs.FromBytes.{null_marked}
use Rattle.chain_rows.proofs.RowChecks.{or_all, all_start, all_end, value-within, place-small}
use Rattle.chain_rows.proofs.fitting.null_values.Goals as goal

pub loop-c-init : goal.loop-c-init
loop-c-init c = (search rules, all_start _)

pub overflow_mul-columns : goal.overflow_mul-columns
overflow_mul-columns c =
    let B = place-small _ _ _ c.loop-c-test.true c.requires.columns_bound c.requires.row_bound in
    omega (arith, B)

pub overflow_add-columns : goal.overflow_add-columns
overflow_add-columns c =
    let B = place-small _ _ _ c.loop-c-test.true c.requires.columns_bound c.requires.row_bound in
    omega (arith, B)

pub value_in-v-requires : goal.value_in-v-requires
value_in-v-requires c = value-within _ _ _ _ c.loop-c-test.true c.requires.columns_in_bounds

pub loop-c-preserved : goal.loop-c-preserved
loop-c-preserved c = (
  search rules,
  or_all (λ (j : ℕ). cond (null_marked c.args.nulls j) (value_at c.args.values.now (c.args.columns * c.args.row + j)) 0) c.loop-c.c c.loop-c.m _ _ c.loop-c.invariant.1 (c.value_if-m.ensures ∙ ap (λ b. cond b c.value_in-v.result 0) c.null_marked.ensures ∙ ap (λ z. cond (null_marked c.args.nulls c.loop-c.c) z 0) c.value_in-v.ensures) refl,
)

pub returns : goal.returns
returns c = all_end _ _ _ _ (omega arith) c.loop-c.invariant.1
