use Rattle.far_lists.proofs.Sizes.{product_fits}
use mathlib.Core.Path.{sym}
use mathlib.Core.Bool.{true≢false}
use native.Mathlib.Omega.{arith}
use Rattle.far_lists.proofs.far.travels_far.Goals as goal

pub value_count-requires : goal.value_count-requires
value_count-requires c = c.requires.1

pub returns-then-value_count-le24 : goal.returns-then-value_count-le24
returns-then-value_count-le24 c = λ e. absurd (true≢false (sym e))

pub returns-then-work-eq0 : goal.returns-then-work-eq0
returns-then-work-eq0 c = λ e. absurd (true≢false (sym e))

pub equality_count-requires : goal.equality_count-requires
equality_count-requires c = c.requires

pub overflow_mul-result : goal.overflow_mul-result
overflow_mul-result c =
    let b = product_fits c.list_work-work.result c.equality_count.result c.list_work-work.ensures.upper_bound (omega (
      arith,
      c.equality_count.ensures,
      c.requires.1,
    )) in
    omega (arith, b)

pub returns : goal.returns
returns c = λ e. c.list_work-work.ensures.j_bound (omega (arith, c.if-work-eq0.false))
