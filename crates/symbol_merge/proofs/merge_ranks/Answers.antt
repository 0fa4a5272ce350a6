use Prim.Native.Nat.{ℕ}
use native.Mathlib.Omega.{arith}
use lib.ListN.{length-replicate}
use Rattle.far_lists.proofs.Sizes.{no_index}
use Rattle.symbol_merge.proofs.merge_ranks.Goals as goal

pub merge_indexed-requires : goal.merge_indexed-requires
merge_indexed-requires c =
    let z = length-replicate {A = ℕ} 8192 0 in
    let y = length-replicate {A = ℕ} 128 0 in
    record {
      n_bound = (
        omega (arith, z, c.requires.n_bound.0),
        omega (arith, z),
        c.requires.n_bound.1,
        c.requires.n_bound.2,
        c.travels_far.ensures
            c.if-travels_far.true,
      );
      room = (
        omega (arith, length-replicate {A = ℕ} 256 0, c.requires.n_bound.0),
        omega (
          arith,
          y,
          c.requires.n_bound.0,
        ),
        omega (arith, y, c.requires.n_bound.0),
        omega (arith, y, c.requires.n_bound.0),
        omega (arith, y, c.requires.n_bound.0),
      );
      by_index = c.requires.by_index;
      by_index_2 = c.requires.by_index_2;
      counts = c.requires.counts;
      bits_value = c.requires.bits_value;
    }

pub merge_wide-requires : goal.merge_wide-requires
merge_wide-requires c =
    let z = length-replicate {A = ℕ} 4096 0 in
    let y = length-replicate {A = ℕ} 128 0 in
    record {
      n_bound = (
        omega (arith, z, c.if-n-le64.true),
        omega (arith, z),
        c.requires.n_bound.1,
        c.requires.n_bound.2,
        c.requires.n_bound.3,
        c.requires.n_bound.4,
      );
      room = (
        omega (arith, length-replicate {A = ℕ} 256 0, c.requires.n_bound.0),
        omega (arith, y, c.requires.n_bound.0),
        omega (arith, y, c.requires.n_bound.0),
        omega (arith, y, c.requires.n_bound.0),
        omega (arith, y, c.requires.n_bound.0),
      );
      by_index = c.requires.by_index;
      by_index_2 = c.requires.by_index_2;
      counts = c.requires.counts;
      bits_value = c.requires.bits_value;
    }

pub merge_wide-requires-then-travels_wide : goal.merge_wide-requires-then-travels_wide
merge_wide-requires-then-travels_wide c =
    let z = length-replicate {A = ℕ} 8192 0 in
    let y = length-replicate {A = ℕ} 128 0 in
    record {
      n_bound = (
        omega (arith, z, c.requires.n_bound.0),
        omega (arith, z),
        c.requires.n_bound.1,
        c.requires.n_bound.2,
        c.requires.n_bound.3,
        c.requires.n_bound.4,
      );
      room = (
        omega (arith, length-replicate {A = ℕ} 256 0, c.requires.n_bound.0),
        omega (arith, y, c.requires.n_bound.0),
        omega (arith, y, c.requires.n_bound.0),
        omega (arith, y, c.requires.n_bound.0),
        omega (arith, y, c.requires.n_bound.0),
      );
      by_index = c.requires.by_index;
      by_index_2 = c.requires.by_index_2;
      counts = c.requires.counts;
      bits_value = c.requires.bits_value;
    }

pub merge_filter_constraints-requires : goal.merge_filter_constraints-requires
merge_filter_constraints-requires c =
    let z = length-replicate {A = ℕ} 8192 0 in
    let y = length-replicate {A = ℕ} 128 0 in
    record {
      n_bound = (
        omega (arith, z, c.requires.n_bound.0),
        omega (arith, z),
        c.requires.n_bound.1,
        c.requires.n_bound.2,
        no_index _ _ _ (omega
            (arith, length-replicate {A = ℕ} 1 0)),
      );
      room = (
        omega (arith, length-replicate {A = ℕ} 256 0, c.requires.n_bound.0),
        omega (arith, y, c.requires.n_bound.0),
        omega (arith, y, c.requires.n_bound.0),
        omega (arith, y, c.requires.n_bound.0),
        omega
            (arith, y, c.requires.n_bound.0),
      );
      by_index = c.requires.by_index;
      by_index_2 = c.requires.by_index_2;
      counts = c.requires.counts;
      bits_value = c.requires.bits_value;
    }
