use borrow.Author.Rules.{rules}
use Rattle.column_table.proofs.Lending.{row_ends, row-part, part_length, fine-lent, fine-wider}
use native.Mathlib.Omega.{arith}
use Rattle.column_table.proofs.rows.write_row.Goals as goal

pub overflow_mul-at : goal.overflow_mul-at
overflow_mul-at c = let r = row_ends c.args.marks.now c.args.x c.requires.x_bound.0 in search (rules, r)

pub overflow_add-end : goal.overflow_add-end
overflow_add-end c = let r = row_ends c.args.marks.now c.args.x c.requires.x_bound.0 in search (rules, r)

pub slice_bounds-write_column-end : goal.slice_bounds-write_column-end
slice_bounds-write_column-end c = let r = row_ends c.args.marks.now c.args.x c.requires.x_bound.0 in search (rules, r)

pub write_column-requires : goal.write_column-requires
write_column-requires c =
    let p = part_length c.args.marks.now c.args.x c.requires.x_bound.0 in (
      fine-wider _ _ _ _ (omega
          (arith, p, c.requires.x_bound.1)) (fine-lent c.args.marks.now c.args.x _ c.requires.x_bound.0 c.requires.x_bound.2),
      c.requires.u_bound.0,
      λ s e f. rw (← row-part c.args.marks.now c.args.x) (c.requires.u_bound.1 s e f),
    )

pub returns : goal.returns
returns c =
    record {
      value = (λ s e f. rw (row-part c.args.marks.now c.args.x) (c.write_column.ensures.value s e f));
      rs_after = (λ s e f.
          rw (row-part c.args.marks.now c.args.x) (c.write_column.ensures.rs_after s e f));
    }
