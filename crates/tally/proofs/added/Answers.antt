use native.Mathlib.Omega.{arith}
use Rattle.tally.specs.Sums.{grown}
use Rattle.tally.proofs.Sums.{told, told-not, sums_small, added-grown, added-same}
use mathlib.Core.Path.{ap}
use mathlib.Core.Bool.{not}
use Rattle.tally.proofs.added.Goals as goal

pub returns-then-not-sums_fit : goal.returns-then-not-sums_fit
returns-then-not-sums_fit c =
    let sums_fit_lem = c.sums_fit in
    let if1 = c.if-not-sums_fit in
    added-same _ _ _ _ (told-not sums_fit_lem.ensures (ap not if1.true))

pub overflow_add-result : goal.overflow_add-result
overflow_add-result c =
    let sums_fit_lem = c.sums_fit in
    let if1 = c.if-not-sums_fit in
    omega (arith, (sums_small _ _ _ _ (told sums_fit_lem.ensures (ap not if1.false))).0)

pub overflow_add-result-2 : goal.overflow_add-result-2
overflow_add-result-2 c =
    let sums_fit_lem = c.sums_fit in
    let if1 = c.if-not-sums_fit in
    omega (arith, (sums_small _ _ _ _ (told sums_fit_lem.ensures (ap not if1.false))).1)

pub overflow_add-result-3 : goal.overflow_add-result-3
overflow_add-result-3 c =
    let sums_fit_lem = c.sums_fit in
    let if1 = c.if-not-sums_fit in
    omega (arith, (sums_small _ _ _ _ (told sums_fit_lem.ensures (ap not if1.false))).2)

pub returns : goal.returns
unfolding grown
returns c =
    let sums_fit_lem = c.sums_fit in
    let if1 = c.if-not-sums_fit in
    added-grown _ _ _ _ (told sums_fit_lem.ensures (ap not if1.false))
