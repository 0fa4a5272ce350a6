use native.Mathlib.Omega.{arith}
use mathlib.Core.Path.{refl}
use Rattle.row_test.proofs.test.check_sized.Goals as goal

pub check_few_counted-requires : goal.check_few_counted-requires
check_few_counted-requires c =
    record { used_bound = c.if-used-le64.true; used_in_bounds = c.requires.used_in_bounds (omega (arith, c.if-used-le64.true)); used_in_bounds_2 = c.requires.used_in_bounds_2 (omega (arith, c.if-used-le64.true)) }

pub returns : goal.returns
returns c =
    record { result_value = c.check_with_text.ensures.result_value; counted = c.check_with_text.ensures.counted; stands = c.check_with_text.ensures.stands refl }
