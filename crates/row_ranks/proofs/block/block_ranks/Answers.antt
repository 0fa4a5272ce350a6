use mathlib.Core.Path.{◌≡◌, refl, ◌∙◌}
use Prim.Native.Nat.{◌+◌, ◌*◌}
use native.Mathlib.Omega.{arith}
use lib.ListN.{length}
use Rattle.row_ranks.proofs.Rows.{rows_end, block_none, block_more}
use Rattle.row_ranks.proofs.block.block_ranks.Goals as goal

pub loop-i-init : goal.loop-i-init
loop-i-init c = (omega arith, refl, block_none)

pub put_row-requires : goal.put_row-requires
put_row-requires c =
    let w = 8 * length c.args.table.now in
    let h = c.loop-i-test.true in
    let b = c.requires.count_in_bounds in
    let v = c.loop-i.invariant.1 in
    let x = rows_end w (length c.args.nulls.now) (c.args.base + c.loop-i.i) (omega (arith, h, b.0)) in
    let y = rows_end w c.args.count c.loop-i.i h in
    record {
      in_bounds = c.requires.in_bounds;
      r_bound = (omega (arith, h, b.0, b.1), omega (arith, x, c.requires.values_len));
      i_bound = (
        omega (
          arith,
          h,
          b.0,
          b.1,
        ),
        omega (arith, y, v, c.requires.count_in_bounds_2),
      );
    }

pub loop-i-preserved : goal.loop-i-preserved
loop-i-preserved c = (
  omega arith,
  c.put_row.auto.block ∙ c.loop-i.invariant.1,
  block_more c.loop-i.invariant.2 c.put_row.ensures.rows_before
      c.put_row.ensures.row_ranks,
)

pub shape_of-block : goal.shape_of-block
shape_of-block c = c.loop-i.invariant.1

pub returns : goal.returns
returns c =
    let w : c.loop-i.i ≡ c.args.count = omega arith in
    rw w at c.loop-i.invariant.2
