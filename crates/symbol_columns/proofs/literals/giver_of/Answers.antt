use Rattle.symbol_columns.proofs.GivenLiterals.{giver-before}
use Rattle.symbol_columns.proofs.literals.giver_of.Goals as goal

pub returns : goal.returns
returns c = giver-before c.args.line c.args.opener c.if-opener-eq0.false
