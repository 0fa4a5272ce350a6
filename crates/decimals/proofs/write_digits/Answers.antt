use native.Mathlib.Omega.{arith}
use mathlib.Core.Path.{refl}
use lib.ListN.{length-set}
use Rattle.decimals.proofs.Decimals.{length_more, length_some}
use Rattle.decimals.proofs.Writing.{digit_turn, digit_last}
use Rattle.decimals.proofs.write_digits.Goals as goal

pub loop-rest-init : goal.loop-rest-init
loop-rest-init c = (omega arith, omega arith, refl, refl)

pub overflow_sub-i : goal.overflow_sub-i
overflow_sub-i c =
    let g = length_some c.loop-rest.rest in
    omega arith

pub bounds-s-i : goal.bounds-s-i
bounds-s-i c =
    let g = length_some c.loop-rest.rest in
    omega arith

pub loop-rest-preserved : goal.loop-rest-preserved
loop-rest-preserved c =
    let g = length_more c.loop-rest.rest (omega arith) in (
      omega arith,
      simp length-set (omega arith),
      simp length-set c.loop-rest.invariant.2,
      rw c.last_digit.ensures
          (digit_turn _ _ _ _ _ _ (omega arith) c.loop-rest.invariant.0 c.loop-rest.invariant.1 c.loop-rest.invariant.3),
    )

pub bounds-s-at : goal.bounds-s-at
bounds-s-at c =
    let g = length_some c.loop-rest.rest in
    omega arith

pub shape_of-s : goal.shape_of-s
shape_of-s c = simp length-set c.loop-rest.invariant.2

pub returns : goal.returns
returns c =
    rw c.last_digit-2.ensures (digit_last _ _ _ _ _ _ (omega arith) c.loop-rest.invariant.0 c.loop-rest.invariant.1 c.loop-rest.invariant.3)
