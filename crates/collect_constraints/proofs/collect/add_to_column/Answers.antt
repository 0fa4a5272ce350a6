use mathlib.Core.Path.{◌∙◌}
use mathlib.Core.List.{map}
use native.Mathlib.Omega.{arith}
use Rattle.constraints.specs.Lined.{on_line}
use Rattle.constraints.specs.Mapped.{map_constraint}
use Rattle.read_operands.specs.Read.{says_in}
use Rattle.column_table.specs.Rows.{row_of}
use Rattle.collect_constraints.proofs.Collecting.{added}
use Rattle.column_table.proofs.Encoding.{columns-size}
use Rattle.collect_constraints.proofs.NullLines.{null_added}
use Rattle.collect_constraints.proofs.collect.add_to_column.Goals as goal

pub add_in_row-d-requires : goal.add_in_row-d-requires
add_in_row-d-requires c =
    record {
      x_bound = (
        omega (arith, c.slot-x.ensures),
        rw c.load-c.ensures (c.requires.fits.0.fine _ (omega (arith, c.slot-x.ensures))),
        c.requires.fits.2,
      );
      told = c.requires.told;
    }

pub store-requires : goal.store-requires
store-requires c = (omega (arith, c.slot-x.ensures), c.requires.fits.0.size)

pub returns : goal.returns
returns c =
    let n = c.with_null_line-r.ensures.len_value in
    record {
      added = (λ T S. added _ _ _ _ _ T _ _ _ _ _ S c.requires.fits.1 c.slot-x.ensures c.load-c.ensures
          (c.with_null_line-r.ensures.result_value _ _ ∙ c.add_in_row-d.ensures.result_after) (rw n c.add_in_row-d.ensures.fine)
          c.add_in_row-d.ensures.rows_kept c.store.ensures.cells_after);
      cells_len_unchanged = c.store.ensures.cells_len_unchanged;
      marks_len_unchanged = c.add_in_row-d.ensures.rows_kept.size;
      null_kept = null_added _ _ _ _ _ _ _ _ (row_of c.args.marks.now c.slot-x.result) _
          (map (map_constraint (on_line c.args.j)) (says_in c.args.pool.now c.args.s)) (columns-size _) c.requires.fits.1 c.slot-x.ensures c.load-c.ensures
          (c.with_null_line-r.ensures.result_value _ _ ∙ c.add_in_row-d.ensures.result_after) c.with_null_line-r.ensures.since_value c.store.ensures.cells_after;
    }
