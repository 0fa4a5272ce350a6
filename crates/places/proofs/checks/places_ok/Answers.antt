use Rattle.records.proofs.Laws.{flags}
use Rattle.places.specs.Places.{places_ok}
use Rattle.places.proofs.checks.places_ok.Goals as goal

pub returns-then-row-columns : goal.returns-then-row-columns
unfolding places_ok
returns-then-row-columns c = search flags

pub returns-then-not-marks_ok : goal.returns-then-not-marks_ok
unfolding places_ok
returns-then-not-marks_ok c = search (flags, ← c.marks_ok.ensures)

pub returns : goal.returns
unfolding places_ok
returns c = search (flags, ← c.marks_ok.ensures, ← c.each_ok.ensures)
