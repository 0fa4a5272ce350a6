use borrow.Author.Rules.{rules}
use Rattle.column_table.proofs.Lending.{row_ends, row-part, part_length, fine-lent, fine-wider}
use native.Mathlib.Omega.{arith}
use Rattle.column_table.proofs.rows.count_row.Goals as goal

pub overflow_mul-at : goal.overflow_mul-at
overflow_mul-at c = let r = row_ends c.args.marks.now c.args.x c.requires.0 in search (rules, r)

pub overflow_add-end : goal.overflow_add-end
overflow_add-end c = let r = row_ends c.args.marks.now c.args.x c.requires.0 in search (rules, r)

pub slice_bounds-comparison_count-end : goal.slice_bounds-comparison_count-end
slice_bounds-comparison_count-end c = let r = row_ends c.args.marks.now c.args.x c.requires.0 in search (rules, r)

pub comparison_count-requires : goal.comparison_count-requires
comparison_count-requires c =
    let p = part_length c.args.marks.now c.args.x c.requires.0 in fine-wider _ _ _ _ (omega (
      arith,
      p,
      c.requires.1,
    )) (fine-lent c.args.marks.now c.args.x _ c.requires.0 c.requires.2)

pub returns : goal.returns
returns c = λ t e. rw (row-part c.args.marks.now c.args.x) (c.comparison_count.ensures t e)
