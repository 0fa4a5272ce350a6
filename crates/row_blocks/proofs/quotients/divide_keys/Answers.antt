use Rattle.std.proofs.Common.{◌≡◌, ◌+◌, ◌<◌, length, refl, arith, length-set, rules}
use Rattle.masks.proofs.Blocks.{kept-all, kept_more, kept-told}
use Rattle.row_blocks.proofs.Dividing.{divided-none, divided-more, divided-done, untouched-all, untouched-more}
use Rattle.row_blocks.proofs.quotients.divide_keys.Goals as goal

pub loop-i-init : goal.loop-i-init
loop-i-init c = (search rules, refl, divided-none _ _ _ _ _ _ _ _, untouched-all _ _ _ _ _ _ _ _, kept-all _ _)

pub loop-i-preserved : goal.loop-i-preserved
loop-i-preserved c =
    let room : c.args.at + c.loop-i.i < length c.loop-i.keys = omega (
      arith,
      c.loop-i-test.true,
      c.requires.rows_bound,
      c.requires.at_le_one,
      c.requires.one_in_bounds,
      c.loop-i.invariant.1,
    ) in (
      search rules,
      simp length-set c.loop-i.invariant.1,
      divided-more _ _ _ _ _ _ _ _ c.loop-i.keys _ c.loop-i.i _ _ _ c.requires.at_le_one c.requires.at_le_two room c.loop-i.invariant.3 c.part_key.ensures c.has_none.ensures c.with_bit-marks.ensures
          c.loop-i.invariant.2,
      untouched-more _ _ _ _ _ _ _ _ _ _ _ c.loop-i.invariant.3,
      kept_more _ _ _ _ _ c.loop-i.invariant.4,
    )

pub returns : goal.returns
returns c =
    let e : c.loop-i.i ≡ c.args.rows = omega arith in
    record {
      by_index = λ value second s t. divided-done _ _ _ _ _ _ _ _ _ _ _ _ e refl c.loop-i.invariant.2 value second s t;
      by_index_2 = kept-told _
          _ _ c.loop-i.invariant.4;
    }
