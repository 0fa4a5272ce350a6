use Prim.Native.Nat.{ℕ, ◌+◌, ◌*◌, ◌≤◌, ◌<◌}
use mathlib.Core.Path.{◌≡◌, refl}
use lib.ListN.{length, length-set, get_or}
use native.Mathlib.Omega.{arith}
use Rattle.truth.specs.FromBytes.{null_marked}
use Rattle.masks.proofs.Bits.{mask_none}
use Rattle.masks.proofs.Blocks.{value-end, row-shown, shown-none, shown-more, shown-done, kept-all}
use Rattle.masks.proofs.Blocks.{kept_more, kept-told, mark_more}
use borrow.Author.Rules.{rules}
use Rattle.masks.proofs.block.fill_column.Goals as goal

pub loop-i-init : goal.loop-i-init
loop-i-init c = (
  search rules,
  refl,
  mask_none (λ (j : ℕ). null_marked (get_or c.args.nulls.now (c.args.base + j) 0)
      c.args.c),
  shown-none _ _ _ _,
  kept-all _ _,
)

pub overflow_mul-columns : goal.overflow_mul-columns
overflow_mul-columns c =
    let hr : c.args.base + c.loop-i.i < length c.args.nulls.now = omega (
      arith,
      c.loop-i-test.true,
      c.requires.rows_in_bounds,
    ) in
    let B : c.args.columns * (c.args.base + c.loop-i.i) + c.args.c + 1 ≤ c.args.columns * length c.args.nulls.now = value-end _ _ _ _ c.requires.c_lt_columns hr in
    omega (arith, B, c.requires.values_len)

pub overflow_add-columns : goal.overflow_add-columns
overflow_add-columns c =
    let hr : c.args.base + c.loop-i.i < length c.args.nulls.now = omega (
      arith,
      c.loop-i-test.true,
      c.requires.rows_in_bounds,
    ) in
    let B : c.args.columns * (c.args.base + c.loop-i.i) + c.args.c + 1 ≤ c.args.columns * length c.args.nulls.now = value-end _ _ _ _ c.requires.c_lt_columns hr in
    omega (arith, B, c.requires.values_len)

pub value_in-v-requires : goal.value_in-v-requires
value_in-v-requires c =
    let hr : c.args.base + c.loop-i.i < length c.args.nulls.now = omega (
      arith,
      c.loop-i-test.true,
      c.requires.rows_in_bounds,
    ) in
    let B : c.args.columns * (c.args.base + c.loop-i.i) + c.args.c + 1 ≤ c.args.columns * length c.args.nulls.now = value-end _ _ _ _ c.requires.c_lt_columns hr in
    omega (arith, B, c.requires.values_len)

pub loop-i-preserved : goal.loop-i-preserved
loop-i-preserved c =
    let room : c.args.at + c.loop-i.i < length c.loop-i.keys = omega (
      arith,
      c.loop-i-test.true,
      c.requires.rows_bound,
      c.requires.at_in_bounds,
      c.loop-i.invariant.1,
    ) in (
      search rules,
      simp length-set c.loop-i.invariant.1,
      mark_more (λ (j : ℕ). null_marked (get_or c.args.nulls.now
          (c.args.base + j) 0) c.args.c) _ _ _ _ c.null_marked.ensures c.loop-i.invariant.2 c.with_bit-marks.ensures,
      shown-more _ _ _ _ _ _ room c.loop-i.invariant.3 (row-shown _ _ _ _ _ _ _ c.requires.c_lt_columns (omega arith) c.value_in-v.ensures c.biased.ensures),
      kept_more _ _ _ _ _ c.loop-i.invariant.4,
    )

pub returns : goal.returns
returns c =
    let e : c.loop-i.i ≡ c.args.rows = omega arith in
    record { shown = shown-done _ _ _ _ _ _ _ e c.loop-i.invariant.2 c.loop-i.invariant.3; by_index = kept-told _ _ _ c.loop-i.invariant.4 }
