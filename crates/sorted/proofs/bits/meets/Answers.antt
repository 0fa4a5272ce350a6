use Prim.Native.Nat.{ℕ, ◌^◌, ◌<◌}
use native.Mathlib.Omega.{arith}
use lib.ListN.{get_or}
use Rattle.sorted.proofs.Comparing.{meets_law}
use Rattle.sorted.proofs.bits.meets.Goals as goal

pub returns : goal.returns
returns c =
    let h : (q : ℕ) → get_or c.args.sets.now q 0 < 2 ^ 64 = λ q. omega (arith, c.type_inv.sets q) in
    let k : (q : ℕ) → get_or c.args.other.now q 0 < 2 ^ 64 = λ q. omega (arith, c.type_inv.other q) in
    meets_law c.args.sets.now c.args.at c.args.other.now c.args.from h k
