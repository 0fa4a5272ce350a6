use borrow.Author.Rules.{rules}
use mathlib.Core.Path.{refl}
use Prim.Native.Nat.{◌≤◌}
use lib.ListN.{length}
use native.Mathlib.Omega.{arith}
use borrow.Author.Tests.{not-false}
use mathlib.Core.List.{[]}
use Rattle.records.proofs.Loops.{flag_no, flag_yes}
use Rattle.checking.proofs.Accepted.{checked-lent_in}
use Rattle.hedge.proofs.Answers.{values-small}
use Rattle.symbol_row_test.proofs.AnswersWith.{columns-small}
use Rattle.symbol_reduction.proofs.Constants.{reduced_none}
use Rattle.symbol_chain.specs.ChainWith.{answer_at_with}
use Rattle.symbol_hedge.proofs.HedgeAnswers.{tree-refused, rows-refused, places-refused, values-refused, row-refused, rows-listed}
use mathlib.Core.Path.{ap}
use mathlib.Core.Bool.{not}
use Rattle.symbol_hedge.proofs.list_checked_with.Goals as goal

pub returns-then-tree-gt4096 : goal.returns-then-tree-gt4096
returns-then-tree-gt4096 c =
    record { value = tree-refused _ _ _ _ _ _ _ _ _ _ _ c.requires.tree_value c.if-tree-gt4096.true; list_after = refl }

pub returns-then-nulls-gt1024 : goal.returns-then-nulls-gt1024
returns-then-nulls-gt1024 c =
    record { value = rows-refused _ _ _ _ _ _ _ _ _ _ _ c.requires.tree_value c.if-tree-gt4096.false (omega arith); list_after = refl }

pub returns-then-list-nulls : goal.returns-then-list-nulls
returns-then-list-nulls c =
    record { value = places-refused _ _ _ _ _ _ _ _ _ _ _ c.requires.tree_value c.if-tree-gt4096.false (omega arith) c.if-list-nulls.true; list_after = refl }

pub overflow_mul-table : goal.overflow_mul-table
overflow_mul-table c =
    let h : length c.args.table.now ≤ 64 = columns-small c.args.text.now c.args.table.now c.args.records.now c.args.pool.now c.args.used c.args.root.0 c.requires.checked_in in
    omega arith

pub overflow_mul-table-2 : goal.overflow_mul-table-2
overflow_mul-table-2 c =
    let h : length c.args.table.now ≤ 64 = columns-small c.args.text.now c.args.table.now c.args.records.now c.args.pool.now c.args.used c.args.root.0 c.requires.checked_in in
    let m = values-small (length c.args.table.now) (length c.args.nulls.now) h (omega arith) in
    omega (arith, m)

pub returns-then-values-table : goal.returns-then-values-table
returns-then-values-table c =
    record { value = values-refused _ _ _ _ _ _ _ _ _ _ _ c.requires.tree_value c.if-tree-gt4096.false (omega arith) c.if-list-nulls.false c.if-values-table.true; list_after = refl }

pub copy_front-requires : goal.copy_front-requires
copy_front-requires c =
    record { count_in_bounds = checked-lent_in _ _ _ _ _ _ c.requires.checked_in; count_in_bounds_2 = c.requires.used_in_bounds }

pub judge_symbols-requires : goal.judge_symbols-requires
judge_symbols-requires c =
    record {
      checked_in = c.requires.checked_in;
      root_bound = omega (arith, c.requires.tree_value, c.if-tree-gt4096.false);
      used_in_bounds = search rules;
      reduced = reduced_none c.args.text.now
          c.args.table.now c.args.records.now c.args.pool.now [] 0 c.args.used _ c.copy_front.ensures;
      values_len = c.if-values-table.false;
      nulls_len_bound = omega arith;
      nulls_in_bounds = omega (arith, c.requires.in_bounds);
    }

pub returns-then-not-judge_symbols : goal.returns-then-not-judge_symbols
returns-then-not-judge_symbols c =
    record {
      value = row-refused _ _ _ _ _ _ _ _ _ _ _ c.requires.tree_value c.if-tree-gt4096.false (omega arith) c.if-list-nulls.false c.if-values-table.false (flag_no
          c.judge_symbols.ensures.value (ap not c.if-not-judge_symbols.true));
      list_after = refl;
    }

pub list_rows-requires : goal.list_rows-requires
list_rows-requires c =
    record { rows_in_bounds = omega (arith, c.requires.in_bounds, c.judge_symbols.auto.classes); rows_bound = omega arith; rows_in_bounds_2 = omega (arith, c.if-list-nulls.false) }

pub returns : goal.returns
returns c =
    let A = answer_at_with c.args.text.now c.args.table.now c.args.records.now c.args.pool.now c.args.used c.args.root.0 c.args.values.now c.args.nulls.now in
    let j = c.judge_symbols.ensures.judged (not-false _ (ap not c.if-not-judge_symbols.false)) in
    record {
      value = rows-listed _ _ _ _ _ _ _ _ _ _ _ c.requires.tree_value c.if-tree-gt4096.false (omega arith) c.if-list-nulls.false c.if-values-table.false _
          (flag_yes c.judge_symbols.ensures.value (ap not c.if-not-judge_symbols.false)) (c.list_rows.ensures.by_index A j);
      list_after = c.list_rows.ensures.by_index_2 A j;
    }
