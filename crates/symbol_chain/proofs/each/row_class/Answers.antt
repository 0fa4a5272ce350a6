use mathlib.Core.Path.{sym, ◌∙◌}
use Rattle.refusal.proofs.Numbers.{fault-positive, fault-zero}
use Rattle.symbol_row_test.proofs.AnswersWith.{columns-small, text-small}
use Rattle.symbol_chain.proofs.RowClasses.{class_refused, class_tested, reduced_again}
use Rattle.symbol_chain.proofs.each.row_class.Goals as goal

pub row_fault_with-requires : goal.row_fault_with-requires
row_fault_with-requires c =
    record {
      table_len_bound = columns-small c.args.text.now c.args.table.now c.args.records.now c.args.pool.now
          c.args.used c.args.root.0 c.requires.checked_in;
      text_len_bound = text-small c.args.text.now c.args.table.now
          c.args.records.now c.args.pool.now c.args.used c.args.root.0 c.requires.checked_in;
    }

pub returns-then-is_err : goal.returns-then-is_err
returns-then-is_err c =
    record {
      value = class_refused c.args.text.now c.args.table.now c.args.records.now c.args.pool.now
          c.args.row.now c.args.nulls c.args.used c.args.root.0 c.requires.checked_in c.requires.root_bound _
          c.row_fault_with.ensures (fault-positive _ (sym c.is_err.ensures.value ∙ c.if-is_err.true));
      reduced_2 = c.requires.reduced;
    }

pub reduced_truth-requires : goal.reduced_truth-requires
reduced_truth-requires c =
    record {
      checked_in = c.requires.checked_in;
      nulls_value = sym c.row_fault_with.ensures ∙ fault-zero _ (sym c.is_err.ensures.value ∙ c.if-is_err.false);
      used_in_bounds = c.requires.used_in_bounds;
      reduced = reduced_again _ _ _ _ _ _ _ _ _
          _ _ c.requires.reduced;
    }

pub returns : goal.returns
returns c =
    record {
      value = c.class_of.ensures ∙ class_tested c.args.text.now c.args.table.now c.args.records.now c.args.pool.now c.args.row.now c.args.nulls c.args.used c.args.root.0 c.requires.checked_in
          c.requires.root_bound _ c.row_fault_with.ensures (fault-zero _ (sym c.is_err.ensures.value ∙ c.if-is_err.false)) _ c.reduced_truth.ensures.value;
      reduced_2 = reduced_again _ _ _ _
          _ _ _ _ _ _ _ c.reduced_truth.ensures.reduced_2;
    }
