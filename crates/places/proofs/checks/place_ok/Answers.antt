use Rattle.records.proofs.Laws.{flags}
use Rattle.places.specs.Places.{place_ok}
use Rattle.places.proofs.checks.place_ok.Goals as goal

pub returns-then-null : goal.returns-then-null
unfolding place_ok
returns-then-null c = search flags

pub returns : goal.returns
unfolding place_ok
returns c = search (flags, ← c.is_half.ensures)
