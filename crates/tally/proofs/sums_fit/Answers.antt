use Rattle.tally.proofs.Sums.{told, told-not, fits_sum, no_passed, no_false, no_unknown, last_sum}
use native.Mathlib.Omega.{arith}
use mathlib.Core.Path.{ap}
use mathlib.Core.Bool.{not}
use Rattle.tally.proofs.sums_fit.Goals as goal

pub returns-then-not-sum_fits : goal.returns-then-not-sum_fits
returns-then-not-sum_fits c =
    let sum-fits = c.sum_fits in
    let if1 = c.if-not-sum_fits in
    no_passed _ _ _ _ (told-not sum-fits.ensures (ap not if1.true))

pub returns-then-not-sum_fits-2 : goal.returns-then-not-sum_fits-2
returns-then-not-sum_fits-2 c =
    let sum-fits = c.sum_fits in
    let if1 = c.if-not-sum_fits in
    let sum-fits2 = c.sum_fits-2 in
    let if2 = c.if-not-sum_fits-2 in
    no_false _ _ _ _ (told sum-fits.ensures (ap not if1.false)) (told-not sum-fits2.ensures (ap not if2.true))

pub returns-then-not-sum_fits-3 : goal.returns-then-not-sum_fits-3
returns-then-not-sum_fits-3 c =
    let sum-fits = c.sum_fits in
    let if1 = c.if-not-sum_fits in
    let sum-fits2 = c.sum_fits-2 in
    let if2 = c.if-not-sum_fits-2 in
    let sum-fits3 = c.sum_fits-3 in
    let if3 = c.if-not-sum_fits-3 in
    no_unknown _ _ _ _ (told sum-fits.ensures (ap not if1.false)) (told sum-fits2.ensures (ap not if2.false)) (told-not
    sum-fits3.ensures (ap not if3.true))

pub overflow_add-t : goal.overflow_add-t
overflow_add-t c =
    let st = c in
    let sum-fits2 = c.sum_fits-2 in
    let if2 = c.if-not-sum_fits-2 in
    omega (
      arith,
      fits_sum st.args.t.is_false st.args.is_false (told sum-fits2.ensures (ap not if2.false)),
    )

pub overflow_add-t-2 : goal.overflow_add-t-2
overflow_add-t-2 c =
    let st = c in
    let sum-fits3 = c.sum_fits-3 in
    let if3 = c.if-not-sum_fits-3 in
    omega (arith, fits_sum st.args.t.unknown st.args.unknown (told sum-fits3.ensures (ap not if3.false)))

pub returns : goal.returns
returns c =
    let sum-fits = c.sum_fits in
    let if1 = c.if-not-sum_fits in
    let sum-fits2 = c.sum_fits-2 in
    let if2 = c.if-not-sum_fits-2 in
    let sum-fits3 = c.sum_fits-3 in
    let if3 = c.if-not-sum_fits-3 in
    let sum-fits4 = c.sum_fits-4 in
    last_sum _ _ _ _ (told sum-fits.ensures (ap not if1.false)) (told sum-fits2.ensures (ap not if2.false)) (told
    sum-fits3.ensures (ap not if3.false)) sum-fits4.ensures
