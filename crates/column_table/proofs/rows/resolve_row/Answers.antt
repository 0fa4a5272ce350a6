use borrow.Author.Rules.{rules}
use mathlib.Core.Path.{◌≡◌, refl}
use lib.ListN.{length}
use Rattle.column_table.specs.Rows.{stride}
use Rattle.column_table.proofs.Lending.{row_ends, row-part, row_back, part_length, fine-lent, fine_back}
use Rattle.column_table.proofs.rows.resolve_row.Goals as goal

pub overflow_mul-at : goal.overflow_mul-at
overflow_mul-at c = let r = row_ends c.args.marks.now c.args.x c.requires.0 in search (rules, r)

pub overflow_add-end : goal.overflow_add-end
overflow_add-end c = let r = row_ends c.args.marks.now c.args.x c.requires.0 in search (rules, r)

pub slice_bounds-resolve_deferred-end : goal.slice_bounds-resolve_deferred-end
slice_bounds-resolve_deferred-end c = let r = row_ends c.args.marks.now c.args.x c.requires.0 in search (rules, r)

pub resolve_deferred-requires : goal.resolve_deferred-requires
resolve_deferred-requires c =
    let p = part_length c.args.marks.now c.args.x c.requires.0 in
    record { fine = (fine-lent c.args.marks.now c.args.x _ c.requires.0 c.requires.2, rw p c.requires.1); indexed = c.requires.3 }

pub returns : goal.returns
returns c =
    let ms = c.args.marks.now in
    let ys = c.resolve_deferred.new.own in
    let p = part_length ms c.args.x c.requires.0 in
    let l : length ys ≡ stride ms = search (rules, p) in
    let b = row_back ms c.args.x _ _ ys c.requires.0 refl refl l in
    record {
      result_after = rw (b.0, row-part ms c.args.x)
          c.resolve_deferred.ensures.result_value;
      fine = fine_back ms _ ys c.args.x _ c.requires.0 b c.resolve_deferred.ensures.fine_2;
      rows_kept = b.1;
    }
