use Rattle.read_operands.specs.Read.{comparison_in}
use Rattle.symbol_columns.proofs.GivenLiterals.{no_literal, compared-literal}
use Rattle.symbol_columns.proofs.literals.said_literal.Goals as goal

pub returns-in-Nothing : goal.returns-in-Nothing
returns-in-Nothing c = λ p. rw c.in-Nothing.is (no_literal c.args.upper)

pub returns-in-Compare : goal.returns-in-Compare
returns-in-Compare c =
    λ p. rw c.in-Compare.is (compared-literal (comparison_in c.in-Compare.field-0) c.in-Compare.v.0 c.args.upper)

pub returns-in-Between : goal.returns-in-Between
returns-in-Between c = λ p. rw c.in-Between.is c.end_of.ensures

pub returns-in-Allow : goal.returns-in-Allow
returns-in-Allow c = λ p. rw c.in-Allow.is (no_literal c.args.upper)

pub returns-in-Disallow : goal.returns-in-Disallow
returns-in-Disallow c = λ p. rw c.in-Disallow.is (no_literal c.args.upper)

pub returns-in-Require : goal.returns-in-Require
returns-in-Require c = λ p. rw c.in-Require.is (no_literal c.args.upper)
