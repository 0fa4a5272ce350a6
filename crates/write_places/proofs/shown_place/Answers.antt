use borrow.Author.Rules.{rules}
use Rattle.row_shown.specs.Shown.{value_place}
use Rattle.column_table.proofs.Lending.{row_ends, row-part}
use Rattle.write_places.proofs.Writing.{place-null, place-value}
use Rattle.write_places.proofs.shown_place.Goals as goal

pub returns-then-null : goal.returns-then-null
returns-then-null c = place-null c.args.null _ _ _ c.if-null.true c.null_place.ensures

pub overflow_mul-at : goal.overflow_mul-at
overflow_mul-at c =
    let r = row_ends c.args.marks.now c.args.x c.requires in
    search (rules, r)

pub overflow_add-end : goal.overflow_add-end
overflow_add-end c =
    let r = row_ends c.args.marks.now c.args.x c.requires in
    search (rules, r)

pub slice_bounds-value_place-end : goal.slice_bounds-value_place-end
slice_bounds-value_place-end c =
    let r = row_ends c.args.marks.now c.args.x c.requires in
    search (rules, r)

pub returns : goal.returns
returns c =
    place-value c.args.null _ _ _ c.if-null.false (rw (row-part c.args.marks.now c.args.x)
    c.value_place.ensures)
