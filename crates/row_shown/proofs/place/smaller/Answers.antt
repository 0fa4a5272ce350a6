use Rattle.row_shown.proofs.Smallest.{smaller-no, smaller-first, smaller-next}
use mathlib.Core.Path.{ap}
use mathlib.Core.Bool.{not}
use Rattle.row_shown.proofs.place.smaller.Goals as goal

pub returns-then-not-possible : goal.returns-then-not-possible
returns-then-not-possible c = smaller-no c.args.possible c.args.v.0 _ (ap not c.if-not-possible.true)

pub returns-then-not-s : goal.returns-then-not-s
returns-then-not-s c =
    smaller-first c.args.possible c.args.s.found c.args.v.0 c.args.s.value (ap not c.if-not-possible.false) c.if-not-s.true

pub returns : goal.returns
returns c =
    smaller-next c.args.possible c.args.s.found c.args.v.0 c.args.s.value _ _ (ap not c.if-not-possible.false) c.if-not-s.false c.scalar_cmp-o.ensures c.lesser_by.ensures
