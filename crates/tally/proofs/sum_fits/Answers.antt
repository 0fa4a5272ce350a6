use Prim.Native.Nat.{◌<◌, ◌^◌}
use native.Mathlib.Omega.{arith}
use Rattle.tally.proofs.Sums.{fits-test}
use Rattle.tally.proofs.sum_fits.Goals as goal

pub returns : goal.returns
returns c =
    let st = c in
    let y = st.args.y in
    let h : y < 2 ^ 64 = omega arith in
    fits-test st.args.x st.args.y h
