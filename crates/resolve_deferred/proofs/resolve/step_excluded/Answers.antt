use Rattle.column_constraints.specs.Abstraction.{numbered, column_of, literal_at}
use Rattle.resolve_deferred.proofs.Resolutions.{stepped, stopped}
use Rattle.column_constraints.specs.Abstraction.{values_in}
use Rattle.resolve_deferred.proofs.resolve.step_excluded.Goals as goal

pub returns-then-c : goal.returns-then-c
returns-then-c c =
    record {
      result_after = (λ t e f. stopped (column_of t (numbered c.args.own.now c.args.c))
          (literal_at (values_in c.args.told.now) c.args.j) c.if-c.true);
      fine = c.requires.0;
    }

pub returns : goal.returns
returns c =
    record {
      result_after = (λ t e f. stepped _ _ (column_of t (numbered c.args.own.now c.args.c))
          (literal_at (values_in c.args.told.now) c.args.j) c.if-c.false
          (c.apply_excluded-d.ensures.result_after t e f) (c.check_bound_consistency.ensures.result_value t _));
      fine = rw c.check_bound_consistency.ensures.len_value c.apply_excluded-d.ensures.fine;
    }
