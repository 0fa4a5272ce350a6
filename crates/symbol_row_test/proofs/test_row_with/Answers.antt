use native.Mathlib.Omega.{arith}
use Rattle.symbol_row_test.proofs.SameAnswers.{stands_alike}
use Rattle.symbol_row_test.proofs.test_row_with.Goals as goal

pub returns-in-Some : goal.returns-in-Some
returns-in-Some c = stands_alike _ _ _ _ _ _ _ _ _ c.in-Some.ensures (omega arith)
