use borrow.Author.Rules.{rules}
use mathlib.Core.Path.{◌≡◌, refl, sym, ◌∙◌, ap}
use lib.ListN.{length}
use native.Mathlib.Omega.{arith}
use Rattle.column_constraints.specs.Abstraction.{conjuncts, numbered, column_of}
use Rattle.column_constraints.proofs.Pigeon.{few}
use Rattle.column_table.specs.Rows.{stride}
use Rattle.column_table.proofs.Lending.{row_ends, row-part, row_back, part, part_length, fine-lent, fine_back, column-copied, fine-copied, merged_as}
use Rattle.column_table.proofs.rows.merge_rows.Goals as goal

pub overflow_mul-from : goal.overflow_mul-from
overflow_mul-from c = let r = row_ends c.args.marks.now c.args.y c.requires.x_bound.1 in search (rules, r)

pub overflow_add-to : goal.overflow_add-to
overflow_add-to c = let r = row_ends c.args.marks.now c.args.y c.requires.x_bound.1 in search (rules, r)

pub slice_bounds-copied-end : goal.slice_bounds-copied-end
slice_bounds-copied-end c = let r = row_ends c.args.marks.now c.args.y c.requires.x_bound.1 in search (rules, r)

pub copied-other-requires : goal.copied-other-requires
copied-other-requires c =
    let p = part_length c.args.marks.now c.args.y c.requires.x_bound.1 in
    let n = few _ _ _ c.requires.fine_2 in (omega (arith, p, n), omega (arith, n, c.requires.x_bound.2))

pub overflow_mul-at : goal.overflow_mul-at
overflow_mul-at c = let r = row_ends c.args.marks.now c.args.x c.requires.x_bound.0 in search (rules, r)

pub overflow_add-end : goal.overflow_add-end
overflow_add-end c = let r = row_ends c.args.marks.now c.args.x c.requires.x_bound.0 in search (rules, r)

pub slice_bounds-merge_from-end : goal.slice_bounds-merge_from-end
slice_bounds-merge_from-end c = let r = row_ends c.args.marks.now c.args.x c.requires.x_bound.0 in search (rules, r)

pub merge_from-requires : goal.merge_from-requires
merge_from-requires c =
    let ms = c.args.marks.now in
    let p = part_length ms c.args.x c.requires.x_bound.0 in
    record {
      fine = (
        fine-lent ms c.args.x _ c.requires.x_bound.0 c.requires.fine,
        rw p (fine-copied _ c.copied-other.result (part ms c.args.y) _ c.copied-other.ensures
            (rw (row-part ms c.args.y) at c.requires.fine_2)),
      );
      indexed = (c.requires.x_bound.3, rw p c.requires.x_bound.2);
    }

pub returns : goal.returns
returns c =
    let ms = c.args.marks.now in
    let ys = c.merge_from.new.own in
    let p = part_length ms c.args.x c.requires.x_bound.0 in
    let l : length ys ≡ stride ms = search (rules, p) in
    let b = row_back ms c.args.x _ _ ys c.requires.x_bound.0 refl refl l in
    let t = conjuncts c.args.told.now c.args.pool.now in
    let e = ap (λ k. column_of t (numbered k c.args.c)) (sym (row-part ms c.args.x)) in
    let f = column-copied t c.copied-other.result (part ms c.args.y) c.args.d c.copied-other.ensures ∙ ap (λ k.
    column_of t (numbered k c.args.d)) (sym (row-part ms c.args.y)) in
    record {
      fact = rw b.0 (merged_as _ _ _ _ _
          _ _ e f c.merge_from.ensures.fact);
      fine_3 = fine_back ms _ ys c.args.x _ c.requires.x_bound.0 b c.merge_from.ensures.fine_2;
      rows_kept = b.1;
    }
