use borrow.Author.Rules.{rules}
use native.Mathlib.Omega.{arith}
use mathlib.Core.Path.{sym, refl}
use Rattle.std.proofs.lemmas.Result.{err_from_is_err_and}
use Rattle.refusal.proofs.Numbers.{number-positive}
use Rattle.checking.proofs.Accepted.{checked-lent_in}
use Rattle.symbol_screens.specs.Rewriting.{lent}
use Rattle.symbol_reduction.proofs.Constants.{reduced_none}
use Rattle.symbol_row_test.proofs.AnswersWith.{columns-small, text-small, row-refused, row-tested}
use Rattle.symbol_row_test.proofs.test_checked_with.Goals as goal

pub row_fault_with-requires : goal.row_fault_with-requires
row_fault_with-requires c =
    record {
      table_len_bound = columns-small c.args.text.now c.args.table.now c.args.records.now c.args.pool.now
          c.args.used c.args.root.0 c.requires.checked_in;
      text_len_bound = text-small c.args.text.now c.args.table.now
          c.args.records.now c.args.pool.now c.args.used c.args.root.0 c.requires.checked_in;
    }

pub returns-in_err-row_fault_with : goal.returns-in_err-row_fault_with
returns-in_err-row_fault_with c =
    let p = err_from_is_err_and c.from_residual.result c.from_residual.ensures.1 in
    rw (p.1, p.2) (row-refused c.args.text.now c.args.table.now c.args.records.now c.args.pool.now c.args.row.now c.args.nulls c.args.used c.args.root.0 _ c.requires.tree_value (omega arith) _
    c.in_err-row_fault_with.ensures (number-positive _))

pub copy_front-requires : goal.copy_front-requires
copy_front-requires c =
    record { count_in_bounds = checked-lent_in (lent c.args.text.now) c.args.table.now c.args.records.now c.args.pool.now c.args.used c.args.root.0 c.requires.checked_in; count_in_bounds_2 = c.requires.used_in_bounds }

pub reduced_truth-requires : goal.reduced_truth-requires
reduced_truth-requires c =
    record {
      checked_in = c.requires.checked_in;
      nulls_value = sym c.in_ok-row_fault_with.ensures;
      used_in_bounds = search rules;
      reduced = reduced_none c.args.text.now
          c.args.table.now c.args.records.now c.args.pool.now c.args.row.now c.args.nulls
          c.args.used _ c.copy_front.ensures;
    }

pub returns : goal.returns
returns c =
    row-tested c.args.text.now c.args.table.now c.args.records.now c.args.pool.now c.args.row.now c.args.nulls c.args.used c.args.root.0 _ c.requires.tree_value (omega arith) _
    c.in_ok-row_fault_with.ensures refl _ c.reduced_truth.ensures.value
