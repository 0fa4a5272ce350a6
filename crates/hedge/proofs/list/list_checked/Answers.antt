use mathlib.Core.Path.{refl}
use Prim.Native.Nat.{◌≤◌}
use lib.ListN.{length}
use native.Mathlib.Omega.{arith}
use borrow.Author.Tests.{not-false}
use Rattle.records.proofs.Loops.{flag_no, flag_yes}
use Rattle.row_test.proofs.Ready.{columns-small}
use Rattle.chain_rows.specs.Chain.{answer_at}
use Rattle.hedge.proofs.Answers.{values-small, tree-refused, rows-refused, places-refused, values-refused, row-refused, rows-listed}
use mathlib.Core.Path.{ap}
use mathlib.Core.Bool.{not}
use Rattle.hedge.proofs.list.list_checked.Goals as goal

pub returns-then-tree-gt4096 : goal.returns-then-tree-gt4096
returns-then-tree-gt4096 c =
    record { value = tree-refused _ _ _ _ _ _ _ _ _ _ c.requires.tree_value c.if-tree-gt4096.true; list_after = refl }

pub returns-then-nulls-gt1024 : goal.returns-then-nulls-gt1024
returns-then-nulls-gt1024 c =
    record { value = rows-refused _ _ _ _ _ _ _ _ _ _ c.requires.tree_value c.if-tree-gt4096.false c.if-nulls-gt1024.true; list_after = refl }

pub returns-then-list-nulls : goal.returns-then-list-nulls
returns-then-list-nulls c =
    record { value = places-refused _ _ _ _ _ _ _ _ _ _ c.requires.tree_value c.if-tree-gt4096.false c.if-nulls-gt1024.false c.if-list-nulls.true; list_after = refl }

pub overflow_mul-table : goal.overflow_mul-table
overflow_mul-table c =
    let h : length c.args.table.now ≤ 64 = columns-small _ _ _ _ _ c.requires.checked in
    omega arith

pub overflow_mul-table-2 : goal.overflow_mul-table-2
overflow_mul-table-2 c =
    let h : length c.args.table.now ≤ 64 = columns-small _ _ _ _ _ c.requires.checked in
    let m = values-small (length c.args.table.now) (length c.args.nulls.now) h c.if-nulls-gt1024.false in
    omega (arith, m)

pub returns-then-values-table : goal.returns-then-values-table
returns-then-values-table c =
    record { value = values-refused _ _ _ _ _ _ _ _ _ _ c.requires.tree_value c.if-tree-gt4096.false c.if-nulls-gt1024.false c.if-list-nulls.false c.if-values-table.true; list_after = refl }

pub judge_rows-requires : goal.judge_rows-requires
judge_rows-requires c =
    record { checked = c.requires.checked; tree_value = c.requires.tree_value; tree_bound = c.if-tree-gt4096.false; values_len = c.if-values-table.false; nulls_len_bound = c.if-nulls-gt1024.false; nulls_in_bounds = omega (arith, c.requires.in_bounds, c.if-nulls-gt1024.false) }

pub returns-then-not-judge_rows : goal.returns-then-not-judge_rows
returns-then-not-judge_rows c =
    record {
      value = row-refused _ _ _ _ _ _ _ _ _ _ c.requires.tree_value c.if-tree-gt4096.false c.if-nulls-gt1024.false c.if-list-nulls.false c.if-values-table.false (flag_no
          c.judge_rows.ensures.value (ap not c.if-not-judge_rows.true));
      list_after = refl;
    }

pub returns : goal.returns
returns c =
    let A = answer_at c.args.table.now c.args.records.now c.args.pool.now c.args.used c.args.root.0 c.args.values.now c.args.nulls.now in
    let j = c.judge_rows.ensures.judged (not-false _ (ap not c.if-not-judge_rows.false)) in
    record {
      value = rows-listed _ _ _ _ _ _ _ _ _ _ c.requires.tree_value c.if-tree-gt4096.false c.if-nulls-gt1024.false c.if-list-nulls.false c.if-values-table.false _ (flag_yes
          c.judge_rows.ensures.value (ap not c.if-not-judge_rows.false)) (c.list_rows.ensures.by_index A j);
      list_after = c.list_rows.ensures.by_index_2 A j;
    }
