use Rattle.checking.proofs.Accepted.{checked-used_in}
use native.Mathlib.Omega.{arith}
use Rattle.symbol_row_test.proofs.test_accepted.Goals as goal

pub test_checked_with-requires-2 : goal.test_checked_with-requires-2
test_checked_with-requires-2 c =
    record { checked_in = c.requires.checked_in; tree_value = c.requires.tree_value; used_in_bounds = omega (arith, checked-used_in _ _ _ _ _ _ c.requires.checked_in) }
