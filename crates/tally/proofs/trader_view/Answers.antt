use mathlib.Core.Path.{refl}
use native.Mathlib.Omega.{arith}
use Rattle.tally.proofs.Sums.{told, told-not, fits_sum}
use mathlib.Core.Path.{ap}
use mathlib.Core.Bool.{not}
use Rattle.tally.proofs.trader_view.Goals as goal

pub returns-then-not-sum_fits : goal.returns-then-not-sum_fits
returns-then-not-sum_fits c =
    let sum-fits = c.sum_fits in
    let if1 = c.if-not-sum_fits in
    rw (told-not sum-fits.ensures (ap not if1.true)) (refl, refl, refl)

pub overflow_add-not_passed : goal.overflow_add-not_passed
overflow_add-not_passed c =
    let sum-fits = c.sum_fits in
    let st = c in
    let if1 = c.if-not-sum_fits in
    omega (
      arith,
      fits_sum st.args.t.is_false st.args.t.unknown (told sum-fits.ensures (ap not if1.false)),
    )

pub returns : goal.returns
returns c =
    let sum-fits = c.sum_fits in
    let if1 = c.if-not-sum_fits in
    rw (told sum-fits.ensures (ap not if1.false)) (refl, refl, refl)
