use mathlib.Core.Option.{none}
use Rattle.check_row.proofs.Meeting.{nothing_said, compared-null, between-null, listed-null, unlisted_null, required_null}
use Rattle.check_row.proofs.says.null_meets.Goals as goal

pub returns-in-Nothing : goal.returns-in-Nothing
returns-in-Nothing c = λ p. nothing_said p c.args.s none c.in-Nothing.is

pub returns-in-Compare : goal.returns-in-Compare
returns-in-Compare c = λ p. compared-null p c.args.s _ _ c.in-Compare.is

pub returns-in-Between : goal.returns-in-Between
returns-in-Between c = λ p. between-null p c.args.s _ _ _ c.in-Between.is

pub returns-in-Allow : goal.returns-in-Allow
returns-in-Allow c = λ p. listed-null p c.args.s _ _ c.in-Allow.is

pub returns-in-Disallow : goal.returns-in-Disallow
returns-in-Disallow c = λ p. unlisted_null p c.args.s _ _ _ c.in-Disallow.is

pub returns-in-Require : goal.returns-in-Require
returns-in-Require c = λ p. required_null p c.args.s _ _ c.in-Require.is c.null_fits.ensures
