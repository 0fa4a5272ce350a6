use Rattle.column_constraints.specs.Abstraction.{numbered}
use Rattle.row_shown.proofs.Smallest.{fixed_nothing, fixed_at_lem}
use Rattle.row_shown.proofs.place.fixed_place.Goals as goal

pub returns-in-None : goal.returns-in-None
returns-in-None c =
    λ t a. fixed_nothing t (numbered a c.args.c) _ (c.fixed_value.ensures t a) c.in-None.is _
    c.lower_place.ensures

pub returns-in-Some : goal.returns-in-Some
returns-in-Some c =
    λ t a. fixed_at_lem t (numbered a c.args.c) _ _ (c.fixed_value.ensures t a) c.in-Some.is _ c.exactly.ensures
