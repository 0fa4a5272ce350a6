use borrow.Author.Rules.{rules}
use native.Mathlib.Omega.{arith}
use Rattle.column_table.proofs.Lending.{row_ends, row-part, part_length, fine-lent, fine-wider}
use Rattle.explain_columns.proofs.explain.write_row_reasons.Goals as goal

pub overflow_mul-at : goal.overflow_mul-at
overflow_mul-at c =
    let r = row_ends c.args.marks.now c.args.x c.requires.x_bound.0 in
    search (rules, r)

pub overflow_add-end : goal.overflow_add-end
overflow_add-end c =
    let r = row_ends c.args.marks.now c.args.x c.requires.x_bound.0 in
    search (rules, r)

pub slice_bounds-write_column_reasons-end : goal.slice_bounds-write_column_reasons-end
slice_bounds-write_column_reasons-end c =
    let r = row_ends c.args.marks.now c.args.x c.requires.x_bound.0 in
    search (rules, r)

pub write_column_reasons-requires : goal.write_column_reasons-requires
write_column_reasons-requires c =
    let p = part_length c.args.marks.now c.args.x c.requires.x_bound.0 in (
      fine-wider _ _ _ _ (omega (arith, p, c.requires.x_bound.1)) (fine-lent c.args.marks.now c.args.x _ c.requires.x_bound.0 c.requires.x_bound.2),
      λ s e f. rw (← row-part c.args.marks.now c.args.x) (c.requires.c_in_bounds s e
          f),
    )

pub returns : goal.returns
returns c =
    record {
      value = (λ s e f. rw (row-part c.args.marks.now c.args.x) (c.write_column_reasons.ensures.value s e f));
      out_after = (λ
          s e f. rw (row-part c.args.marks.now c.args.x) (c.write_column_reasons.ensures.out_after s e f));
    }
