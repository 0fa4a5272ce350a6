use Rattle.places.proofs.Reading.{half_zero, half_plus, half_minus}
use Rattle.places.proofs.place.half_of.Goals as goal

pub returns-then-bits-eq0 : goal.returns-then-bits-eq0
returns-then-bits-eq0 c = half_zero _ c.if-bits-eq0.true

pub returns-then-bits-eq1 : goal.returns-then-bits-eq1
returns-then-bits-eq1 c = half_plus _ c.if-bits-eq1.true

pub returns : goal.returns
returns c = half_minus _ c.if-bits-eq0.false c.if-bits-eq1.false
