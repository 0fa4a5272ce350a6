use Rattle.far_lists.proofs.Sizes.{product_fits}
use native.Mathlib.Omega.{arith}
use Rattle.far_lists.proofs.far.travels_wide.Goals as goal

pub overflow_mul-result : goal.overflow_mul-result
overflow_mul-result c =
    let b = product_fits c.list_work.result c.equality_count.result c.list_work.ensures.upper_bound (omega (
      arith,
      c.equality_count.ensures,
      c.requires.1,
    )) in
    omega (arith, b)
