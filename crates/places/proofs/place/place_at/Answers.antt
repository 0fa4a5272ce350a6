use Rattle.places.specs.Places.{places_row}
use Rattle.places.proofs.Reading.{known-place}
use Rattle.places.proofs.place.place_at.Goals as goal

pub returns-then-null_marked : goal.returns-then-null_marked
unfolding places_row
returns-then-null_marked c = rw (← c.null_marked.ensures, c.if-null_marked.true)

pub returns : goal.returns
returns c =
    known-place _ _ _ _ _ c.half_of.result _ c.null_marked.ensures c.if-null_marked.false c.value_at-whole.ensures c.value_at-half.ensures c.requires.1 c.half_of.ensures
