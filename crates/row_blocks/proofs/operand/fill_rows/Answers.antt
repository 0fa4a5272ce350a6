use Rattle.std.proofs.Common.{◌≡◌, ℕ, ◌+◌, ◌<◌, length, refl, ap, ◌∙◌, arith, length-set, rules}
use Rattle.truth.specs.Evaluate.{null_test}
use Rattle.masks.specs.Block.{chain_worth}
use Rattle.masks.proofs.Bits.{mask_none}
use Rattle.masks.proofs.Blocks.{shown-none, shown-more, shown-done, kept-all, kept_more, kept-told, mark_more}
use Rattle.masks.proofs.Operands.{row-end, worth_row, key-worth, row-ready}
use Rattle.row_blocks.proofs.operand.fill_rows.Goals as goal

pub overflow_mul-width : goal.overflow_mul-width
overflow_mul-width c =
    let h = c.requires.ready.narrow in
    omega (arith, h)

pub loop-i-init : goal.loop-i-init
loop-i-init c = (search rules, refl, mask_none _, shown-none _ _ _ _, kept-all _ _)

pub overflow_add-r : goal.overflow_add-r
overflow_add-r c =
    let w = c.requires.ready.within in
    let s = c.requires.ready.short in
    omega (arith, w, s, c.loop-i-test.true)

pub overflow_mul-start : goal.overflow_mul-start
overflow_mul-start c =
    let h = row-end _ _ _ _ _ _ _ _ c.requires.ready _ c.loop-i-test.true in
    omega (arith, h)

pub overflow_add-end : goal.overflow_add-end
overflow_add-end c =
    let h = row-end _ _ _ _ _ _ _ _ c.requires.ready _ c.loop-i-test.true in
    omega (arith, h)

pub slice_bounds-value_at-end : goal.slice_bounds-value_at-end
slice_bounds-value_at-end c =
    let h = row-end _ _ _ _ _ _ _ _ c.requires.ready _ c.loop-i-test.true in
    omega (arith, h)

pub offset_bounds-nulls-r : goal.offset_bounds-nulls-r
offset_bounds-nulls-r c =
    let w = c.requires.ready.within in
    let s = c.requires.ready.short in
    omega (arith, w, s, c.loop-i-test.true)

pub bounds-nulls-r : goal.bounds-nulls-r
bounds-nulls-r c =
    let w = c.requires.ready.within in
    omega (arith, w, c.loop-i-test.true)

pub value_at-v-requires : goal.value_at-v-requires
value_at-v-requires c = row-ready _ _ _ _ _ _ _ _ c.requires.ready _ c.loop-i-test.true _ _ _ refl refl refl

pub overflow_add-keys : goal.overflow_add-keys
overflow_add-keys c =
    let f = c.requires.ready.few in
    omega (arith, f, c.loop-i-test.true, c.requires.at_in_bounds)

pub offset_bounds-keys-at : goal.offset_bounds-keys-at
offset_bounds-keys-at c =
    let f = c.requires.ready.few in
    omega (arith, f, c.loop-i-test.true, c.requires.at_in_bounds)

pub bounds-keys-at : goal.bounds-keys-at
bounds-keys-at c =
    let f = c.requires.ready.few in
    omega (arith, f, c.loop-i-test.true, c.requires.at_in_bounds, c.loop-i.invariant.1)

pub overflow_cast-i : goal.overflow_cast-i
overflow_cast-i c =
    let f = c.requires.ready.few in
    omega (arith, f, c.loop-i-test.true)

pub with_bit-marks-requires : goal.with_bit-marks-requires
with_bit-marks-requires c =
    let f = c.requires.ready.few in
    omega (arith, f, c.loop-i-test.true)

pub loop-i-preserved : goal.loop-i-preserved
loop-i-preserved c =
    let f = c.requires.ready.few in
    let room : c.args.at + c.loop-i.i < length c.loop-i.keys = omega (arith, f, c.loop-i-test.true, c.requires.at_in_bounds, c.loop-i.invariant.1) in
    let e = worth_row _ _ _ _ _ _ _ _ _ _ refl refl refl c.value_at-v.ensures in (
      search rules,
      simp length-set c.loop-i.invariant.1,
      mark_more (λ (j : ℕ). null_test (chain_worth c.args.records.now c.args.pool.now c.args.columns c.args.values.now c.args.nulls.now c.args.n.0 (c.args.base + j))) _ _ _ _ (c.is_null.ensures ∙ ap null_test e) c.loop-i.invariant.2 c.with_bit-marks.ensures,
      shown-more _ _ _ _ _ _ room c.loop-i.invariant.3 (key-worth _ _ _ e c.value_key.ensures),
      kept_more _ _ _ _ _ c.loop-i.invariant.4,
    )

pub returns : goal.returns
returns c =
    let e : c.loop-i.i ≡ c.args.rows = omega arith in
    record { shown = shown-done _ _ _ _ _ _ _ e c.loop-i.invariant.2 c.loop-i.invariant.3; by_index = kept-told _ _ _ c.loop-i.invariant.4 }
