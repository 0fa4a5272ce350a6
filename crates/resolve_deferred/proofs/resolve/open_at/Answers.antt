use native.Mathlib.Numerals.{add-one}
use Rattle.constraints.specs.Lined.{lined}
use Rattle.resolve_deferred.proofs.resolve.open_at.Goals as goal

pub returns : goal.returns
unfolding lined
returns c = rw (add-one c.args.v.line)
