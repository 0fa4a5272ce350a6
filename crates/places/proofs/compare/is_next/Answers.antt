use Rattle.records.proofs.Laws.{flags}
use Rattle.places.specs.Held.{is_next}
use Rattle.places.proofs.compare.is_next.Goals as goal

pub returns-then-w-eq9223372036854775807 : goal.returns-then-w-eq9223372036854775807
unfolding is_next
returns-then-w-eq9223372036854775807 c = search flags

pub returns-then-w-eq18446744073709551615 : goal.returns-then-w-eq18446744073709551615
unfolding is_next
returns-then-w-eq18446744073709551615 c = search flags

pub returns : goal.returns
unfolding is_next
returns c = search flags
