use Prim.Native.Nat.{ℕ}
use lib.ListN.{length-replicate}
use Rattle.far_lists.proofs.Sizes.{zero-array}
use Rattle.way_answer.proofs.indexed.judge_indexed.Goals as goal

pub make_index-requires : goal.make_index-requires
make_index-requires c =
    record { by_index = (c.requires.n_bound.3, length-replicate {A = ℕ} 24576 0); by_index_2 = λ q. zero-array 24576 q }
