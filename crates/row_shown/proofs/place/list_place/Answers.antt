use Rattle.row_shown.proofs.Smallest.{list-none, list-some}
use Rattle.row_shown.proofs.place.list_place.Goals as goal

pub returns-then-not-s : goal.returns-then-not-s
returns-then-not-s c = list-none c.args.s.found c.args.s.value _ c.if-not-s.true c.plus_half.ensures

pub returns : goal.returns
returns c = list-some c.args.s.found c.args.s.value _ c.if-not-s.false c.exactly.ensures
