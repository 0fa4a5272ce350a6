use native.Mathlib.Omega.{arith}
use Rattle.collect_constraints.proofs.Collecting.{added}
use Rattle.contradiction.proofs.told.tell_column.Goals as goal

pub add_in_row-r-requires : goal.add_in_row-r-requires
add_in_row-r-requires c =
    record {
      x_bound = (
        omega (arith, c.slot-x.ensures),
        rw c.load-c.ensures (c.requires.fits.0.fine _ (omega (arith, c.slot-x.ensures))),
        c.requires.fits.2,
      );
      told = c.requires.told;
    }

pub store-requires : goal.store-requires
store-requires c = (omega (arith, c.slot-x.ensures), c.requires.fits.0.size)

pub returns : goal.returns
returns c =
    record { added = (λ T S. added _ _ _ _ _ T _ _ _ _ _ S c.requires.fits.1 c.slot-x.ensures c.load-c.ensures c.add_in_row-r.ensures.result_after c.add_in_row-r.ensures.fine c.add_in_row-r.ensures.rows_kept c.store.ensures.cells_after); cells_len_unchanged = c.store.ensures.cells_len_unchanged; marks_len_unchanged = c.add_in_row-r.ensures.rows_kept.size }
