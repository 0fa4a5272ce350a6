use Rattle.column_table.proofs.Arrays.{fits-set}
use Rattle.propagate_equalities.proofs.Edges.{column-taken}
use Rattle.propagate_equalities.proofs.propagate.take_in.Goals as goal

pub merge_rows-m-requires : goal.merge_rows-m-requires
merge_rows-m-requires c =
    record { x_bound = (c.requires.1, c.requires.2, c.requires.0.narrow, c.requires.3); fine = rw c.load-c.ensures (c.requires.0.fine _ c.requires.1); fine_2 = rw c.load-d.ensures (c.requires.0.fine _ c.requires.2) }

pub store-requires : goal.store-requires
store-requires c = (c.requires.1, c.requires.0.size)

pub returns : goal.returns
returns c =
    record {
      taken_in = (λ T S. column-taken _ _ _ _ _ T _ _ _ _ _ _ _ S c.requires.1 c.requires.2 c.load-c.ensures c.load-d.ensures
          c.merge_rows-m.ensures.fact c.merge_rows-m.ensures.fine_3 c.merge_rows-m.ensures.rows_kept c.store.ensures.cells_after);
      fits = fits-set _ _ _ _ _ _ c.requires.0 c.requires.1 c.merge_rows-m.ensures.rows_kept c.merge_rows-m.ensures.fine_3
          c.store.ensures.cells_after c.store.ensures.cells_len_unchanged;
    }
