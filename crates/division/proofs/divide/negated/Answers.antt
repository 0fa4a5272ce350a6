use Rattle.division.specs.Division.{minus_of}
use Rattle.division.proofs.Bits.{minus_is}
use Rattle.division.proofs.divide.negated.Goals as goal

pub returns-then-x-eq0 : goal.returns-then-x-eq0
unfolding minus_of
returns-then-x-eq0 c =
    let if1 = c.if-x-eq0 in
    rw if1.true

pub returns : goal.returns
unfolding minus_of
returns c =
    let if1 = c.if-x-eq0 in
    let magnitude = c.magnitude in
    minus_is _ _ if1.false magnitude.ensures
