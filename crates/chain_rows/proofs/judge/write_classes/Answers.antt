use Rattle.std.proofs.Common.{◌≡◌, ℕ, ◌+◌, ◌<◌, cond, length, refl, arith, length-set, rules}
use Rattle.checking.specs.Columns.{bit}
use Rattle.masks.proofs.Blocks.{kept-all, kept_more, kept-told}
use Rattle.masks.proofs.Operands.{keys_none, keys_more, keys_done}
use Rattle.chain_rows.proofs.Rows.{classes_told}
use Rattle.chain_rows.proofs.judge.write_classes.Goals as goal

pub loop-i-init : goal.loop-i-init
loop-i-init c = (search rules, refl, keys_none _ _ _, kept-all _ _)

pub loop-i-preserved : goal.loop-i-preserved
loop-i-preserved c =
    let room : c.args.base + c.loop-i.i < length c.loop-i.classes = omega (arith, c.loop-i-test.true, c.requires.rows_in_bounds, c.loop-i.invariant.1)
    in (
      search rules,
      simp length-set c.loop-i.invariant.1,
      keys_more (λ (j : ℕ). cond (bit c.args.m.truths j) 2
          (cond (bit c.args.m.unknowns j) 1 0)) _ _ _ _ room c.loop-i.invariant.2 c.class_at.ensures,
      kept_more _ _ _ _
          _ c.loop-i.invariant.3,
    )

pub returns : goal.returns
returns c =
    let e : c.loop-i.i ≡ c.args.rows = omega arith in
    record { by_index = classes_told c.loop-i.classes c.args.base c.args.rows c.args.m c.requires.rows_bound (keys_done _ _ _ _ _ e c.loop-i.invariant.2); by_index_2 = kept-told _ _ _ c.loop-i.invariant.3 }
