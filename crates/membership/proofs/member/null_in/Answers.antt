use Rattle.records.proofs.Laws.{flags}
use Rattle.truth.specs.Membership.{null_in3}
use Rattle.membership.proofs.member.null_in.Goals as goal

pub returns-then-equal : goal.returns-then-equal
unfolding null_in3
returns-then-equal c = search (flags, ← c.from.ensures)

pub returns-then-holds-count : goal.returns-then-holds-count
unfolding null_in3
returns-then-holds-count c = rw (c.if-equal.false, c.if-holds-count.true)

pub returns : goal.returns
unfolding null_in3
returns c = rw (c.if-equal.false, c.if-holds-count.false)
