use Prim.Native.Nat.{◌≤◌}
use native.Mathlib.Omega.{arith}
use native.Mathlib.Nat.{mul-le-mul}
use Rattle.file_structure.proofs.items_size.Goals as goal

pub overflow_mul-result : goal.overflow_mul-result
overflow_mul-result c =
    let b : c.args.count ≤ 65535 = omega arith in
    let m = mul-le-mul c.item_size-size.ensures.upper_bound b in
    omega (arith, m)

pub returns : goal.returns
returns c = rw c.item_size-size.ensures.value
