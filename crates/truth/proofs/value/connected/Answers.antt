use Rattle.records.proofs.Laws.{flags}
use Rattle.truth.specs.Evaluate.{connected_of}
use Rattle.truth.proofs.value.connected.Goals as goal

pub returns-in-15 : goal.returns-in-15
unfolding connected_of
returns-in-15 c = search (flags, ← c.and_of.ensures, c.in-15.is)

pub returns-in-16 : goal.returns-in-16
unfolding connected_of
returns-in-16 c = search (flags, ← c.or_of.ensures, c.in-16.is)

pub returns-in-17 : goal.returns-in-17
unfolding connected_of
returns-in-17 c = search (flags, ← c.xor_of.ensures, c.in-17.is)

pub returns-in-18 : goal.returns-in-18
unfolding connected_of
returns-in-18 c = search (flags, ← c.and_of-in-18.ensures, c.in-18.is)

pub returns-in_default : goal.returns-in_default
unfolding connected_of
returns-in_default c = search (flags, ← c.or_of-in_default.ensures)
