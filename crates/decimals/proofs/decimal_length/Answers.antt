use native.Mathlib.Omega.{arith}
use Rattle.decimals.proofs.Decimals.{length-one, length_more, length-64}
use Rattle.decimals.proofs.decimal_length.Goals as goal

pub loop-rest-init : goal.loop-rest-init
loop-rest-init c = (omega arith, omega arith, omega arith)

pub loop-rest-preserved : goal.loop-rest-preserved
loop-rest-preserved c =
    let g = length_more c.loop-rest.rest (omega arith) in
    (omega arith, omega arith, omega arith)

pub returns : goal.returns
returns c =
    let g = length-one c.loop-rest.rest (omega arith) in
    let k = length-64 c.args.n (omega arith) in
    record { value = omega arith; upper_bound = omega arith }
