use Rattle.row_blocks.proofs.quotients.part_key.Goals as goal

pub returns-then-code-eq13 : goal.returns-then-code-eq13
returns-then-code-eq13 c = c.quotient_key.ensures c.args.code c.if-code-eq13.true

pub returns : goal.returns
returns c = c.remainder_key.ensures c.args.code c.if-code-eq13.false
