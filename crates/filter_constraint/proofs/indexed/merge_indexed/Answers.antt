use Prim.Native.Nat.{ℕ}
use lib.ListN.{length-replicate}
use Rattle.far_lists.proofs.Sizes.{zero-array}
use Rattle.filter_constraint.proofs.indexed.merge_indexed.Goals as goal

pub make_index-requires : goal.make_index-requires
make_index-requires c =
    record { by_index = (c.requires.n_bound.4, length-replicate {A = ℕ} 24576 0); by_index_2 = λ q. zero-array 24576 q }

pub merge_filter_constraints-requires : goal.merge_filter_constraints-requires
merge_filter_constraints-requires c =
    record { n_bound = (c.requires.n_bound.0, c.requires.n_bound.1, c.requires.n_bound.2, c.requires.n_bound.3, c.make_index.ensures); room = c.requires.room; by_index = c.requires.by_index; by_index_2 = c.requires.by_index_2; counts = c.requires.counts; bits_value = c.requires.bits_value }
