use borrow.Author.Rules.{rules}
use native.Mathlib.Omega.{arith}
use Rattle.column_table.proofs.Lending.{row_ends, row-part, part_length, fine-lent, fine-wider}
use Rattle.explain_columns.proofs.explain.row_length.Goals as goal

pub overflow_mul-at : goal.overflow_mul-at
overflow_mul-at c =
    let r = row_ends c.args.marks.now c.args.x c.requires.0 in
    search (rules, r)

pub overflow_add-end : goal.overflow_add-end
overflow_add-end c =
    let r = row_ends c.args.marks.now c.args.x c.requires.0 in
    search (rules, r)

pub slice_bounds-column_length-end : goal.slice_bounds-column_length-end
slice_bounds-column_length-end c =
    let r = row_ends c.args.marks.now c.args.x c.requires.0 in
    search (rules, r)

pub column_length-requires : goal.column_length-requires
column_length-requires c =
    let p = part_length c.args.marks.now c.args.x c.requires.0 in
    fine-wider _ _ _ _ (omega (arith, p, c.requires.1)) (fine-lent c.args.marks.now c.args.x _ c.requires.0 c.requires.2)

pub returns : goal.returns
returns c =
    record { value = (λ s e f text. rw (row-part c.args.marks.now c.args.x) (c.column_length.ensures.value s e f text)); upper_bound = c.column_length.ensures.upper_bound }
