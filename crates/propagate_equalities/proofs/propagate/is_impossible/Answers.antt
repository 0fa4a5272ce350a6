use mathlib.Core.Path.{ap}
use Rattle.propagate_equalities.proofs.propagate.is_impossible.Goals as goal

pub returns : goal.returns
returns c = ap (λ c. c.unsat) c.load-c.ensures
