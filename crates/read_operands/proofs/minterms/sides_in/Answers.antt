use Rattle.read_operands.proofs.Reading.{sides_other, sides_both, sides_one}
use Rattle.read_operands.proofs.minterms.sides_in.Goals as goal

pub returns-then-rs-at-ne4 : goal.returns-then-rs-at-ne4
returns-then-rs-at-ne4 c = sides_other _ _ c.if-rs-at-ne4.true

pub returns-then-code : goal.returns-then-code
returns-then-code c = sides_both _ _ _ _ c.if-rs-at-ne4.false c.if-code.true c.word_in.ensures c.word_in-then-code.ensures

pub returns : goal.returns
returns c = sides_one _ _ c.if-rs-at-ne4.false c.if-code.false
