use Prim.Native.Nat.{ℕ, ◌-◌}
use lib.Dec.{ltb}
use native.Mathlib.Omega.{arith}
use Rattle.truth.specs.Halves.{bias_of}
use Rattle.masks.specs.Block.{cell_of}
use Rattle.masks.proofs.Literals.{mask_start, mask_whole, mask_room, cell_end, cell_small, wide-none, wide-more, wide-all, push_cell}
use borrow.Author.Rules.{rules}
use Rattle.literal_masks.proofs.mask_below.Goals as goal

pub loop-i-init : goal.loop-i-init
loop-i-init c = (
  search rules,
  mask_start (λ (j : ℕ). ltb (bias_of (cell_of c.args.columns c.args.values.now c.args.c c.args.base j)) (bias_of c.args.v)) c.args.rows,
  wide-none _ _ _ _ _,
)

pub overflow_mul-columns : goal.overflow_mul-columns
overflow_mul-columns c =
    let B = cell_small _ _ _ (c.loop-i.i - 1) _ c.requires.c_lt_columns c.requires.columns_bound (omega (
      arith,
      c.loop-i-test.true,
      c.loop-i.invariant.0,
    )) c.requires.rows_bound_2 in
    omega (arith, B)

pub overflow_add-columns : goal.overflow_add-columns
overflow_add-columns c =
    let B = cell_small _ _ _ (c.loop-i.i - 1) _ c.requires.c_lt_columns c.requires.columns_bound (omega (
      arith,
      c.loop-i-test.true,
      c.loop-i.invariant.0,
    )) c.requires.rows_bound_2 in
    omega (arith, B)

pub value_in-x-requires : goal.value_in-x-requires
value_in-x-requires c =
    cell_end _ _ _ (c.loop-i.i - 1) _ _ c.requires.c_lt_columns (omega (arith, c.loop-i-test.true, c.loop-i.invariant.0)) c.requires.rows_in_bounds

pub pushed-m-requires : goal.pushed-m-requires
pushed-m-requires c = mask_room _ _ _ _ c.loop-i-test.true c.requires.rows_bound c.loop-i.invariant.1

pub loop-i-preserved : goal.loop-i-preserved
loop-i-preserved c = (
  search rules,
  push_cell ltb _ _ _ _ (c.loop-i.i - 1) c.loop-i.i _ _ _ _ _ _ c.args.v (omega (
    arith,
    c.loop-i-test.true,
  )) c.loop-i.invariant.0 c.value_in-x.ensures c.biased.ensures c.biased-in-loop-i.ensures c.loop-i.invariant.1 c.pushed-m.ensures,
  wide-more _ _ _ _ (c.loop-i.i - 1) c.loop-i.i _ _ (omega (arith, c.loop-i-test.true)) (search rules) c.value_in-x.ensures c.loop-i.invariant.2,
)

pub returns : goal.returns
returns c =
    record {
      value = mask_whole (λ (j : ℕ). ltb (bias_of (cell_of c.args.columns c.args.values.now c.args.c c.args.base j)) (bias_of c.args.v)) c.loop-i.i _ _ (omega arith) c.loop-i.invariant.1;
      wide = wide-all _ _ _ _ c.loop-i.i _
          (omega arith) c.loop-i.invariant.2;
    }
