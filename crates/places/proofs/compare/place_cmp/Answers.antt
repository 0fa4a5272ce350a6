use mathlib.Core.Path.{◌∙◌, ap}
use Rattle.std.specs.Ordering.{ordering_then}
use Rattle.places.proofs.Order.{place-order}
use Rattle.places.proofs.compare.place_cmp.Goals as goal

pub returns : goal.returns
returns c =
    c.then.ensures ∙ ap (ordering_then c.scalar_cmp.result) c.half_cmp.ensures
    ∙ place-order c.args.whole.0 c.args.half c.args.v.0 _ c.scalar_cmp.ensures
