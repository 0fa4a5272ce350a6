use mathlib.Core.Path.{refl}
use Prim.Native.Nat.{ℕ}
use native.Mathlib.Omega.{arith}
use lib.ListN.{length-replicate}
use Rattle.filter_constraint.proofs.Explained.{numbers-count, numbers-merged}
use Rattle.far_lists.proofs.Sizes.{no_index}
use Rattle.column_constraints.specs.Abstraction.{kinds_in, values_in, starts_in, counts_in}
use Rattle.merge_conjuncts.proofs.sized.merge_read.Goals as goal

pub merge_indexed-requires : goal.merge_indexed-requires
merge_indexed-requires c =
    record { n_bound = (c.requires.n_bound.0, c.requires.n_bound.1, c.requires.n_bound.2, c.requires.n_bound.3, c.travels_far.ensures c.if-travels_far.true); room = c.requires.room; by_index = c.requires.by_index; by_index_2 = c.requires.by_index_2; counts = numbers-count _ _ _ _ _ refl; bits_value = refl }

pub returns-then-travels_far : goal.returns-then-travels_far
returns-then-travels_far c =
    let f = numbers-merged c.args.t.now c.args.rs.now c.args.p.now c.args.trees.now c.args.used c.args.nodes.now c.args.n (kinds_in c.args.told.now) (values_in c.args.told.now)
    (starts_in c.args.told.now) (counts_in c.args.told.now) c.args.reasons.now c.merge_indexed.result _ _
    c.merge_indexed.ensures.merges c.merge_indexed.ensures.passes_value in
    record {
      answers = f.0;
      writes = f.1.0;
      counts = f.1.1.0;
      tells = f.1.1.1.0;
      measures = f.1.1.1.1;
    }

pub merge_filter_constraints-requires : goal.merge_filter_constraints-requires
merge_filter_constraints-requires c =
    record {
      n_bound = (
        c.requires.n_bound.0,
        c.requires.n_bound.1,
        c.requires.n_bound.2,
        c.requires.n_bound.3,
        no_index _ _ _ (omega (
          arith,
          length-replicate {A = ℕ} 1 0,
        )),
      );
      room = c.requires.room;
      by_index = c.requires.by_index;
      by_index_2 = c.requires.by_index_2;
      counts = numbers-count _ _ _ _ _ refl;
      bits_value = refl;
    }

pub returns : goal.returns
returns c =
    let f = numbers-merged c.args.t.now c.args.rs.now c.args.p.now c.args.trees.now c.args.used c.args.nodes.now c.args.n (kinds_in c.args.told.now) (values_in c.args.told.now)
    (starts_in c.args.told.now) (counts_in c.args.told.now) c.args.reasons.now
    c.merge_filter_constraints.result
    _ _ c.merge_filter_constraints.ensures.merges c.merge_filter_constraints.ensures.passes_value in
    record {
      answers = f.0;
      writes = f.1.0;
      counts = f.1.1.0;
      tells = f.1.1.1.0;
      measures = f.1.1.1.1;
    }
