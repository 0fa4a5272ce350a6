use borrow.Author.Rules.{rules}
use mathlib.Core.Path.{◌≡◌, refl}
use lib.ListN.{length}
use Rattle.column_table.specs.Rows.{stride}
use Rattle.column_table.proofs.Lending.{row_ends, row-part, row_back, part_length, fine-lent, fine_back}
use Rattle.column_table.proofs.rows.add_in_row.Goals as goal

pub overflow_mul-at : goal.overflow_mul-at
overflow_mul-at c = let r = row_ends c.args.marks.now c.args.x c.requires.x_bound.0 in search (rules, r)

pub overflow_add-end : goal.overflow_add-end
overflow_add-end c = let r = row_ends c.args.marks.now c.args.x c.requires.x_bound.0 in search (rules, r)

pub slice_bounds-add_says-end : goal.slice_bounds-add_says-end
slice_bounds-add_says-end c = let r = row_ends c.args.marks.now c.args.x c.requires.x_bound.0 in search (rules, r)

pub add_says-requires : goal.add_says-requires
add_says-requires c =
    let p = part_length c.args.marks.now c.args.x c.requires.x_bound.0 in (
      fine-lent c.args.marks.now c.args.x _ c.requires.x_bound.0 c.requires.x_bound.1,
      rw p c.requires.x_bound.2,
      c.requires.told,
    )

pub returns : goal.returns
returns c =
    let ms = c.args.marks.now in
    let ys = c.add_says.new.marks in
    let p = part_length ms c.args.x c.requires.x_bound.0 in
    let l : length ys ≡ stride ms = search (rules, p) in
    let b = row_back ms c.args.x _ _ ys c.requires.x_bound.0 refl refl l in
    record {
      result_after = rw (
        b.0,
        row-part ms c.args.x,
      ) c.add_says.ensures.result_after;
      fine = fine_back ms _ ys c.args.x _ c.requires.x_bound.0 b c.add_says.ensures.fine;
      rows_kept = b.1;
    }
