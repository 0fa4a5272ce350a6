use native.Mathlib.Omega.{arith}
use mathlib.Core.Path.{refl}
use lib.ListN.{length-set}
use Rattle.reasons.proofs.Writing.{set3}
use Rattle.reasons.proofs.operator.put_three.Goals as goal

pub bounds-s-at-2 : goal.bounds-s-at-2
bounds-s-at-2 c = simp length-set (omega arith)

pub bounds-s-at-3 : goal.bounds-s-at-3
bounds-s-at-3 c = simp length-set (omega arith)

pub returns : goal.returns
returns c = record { value = refl; s_after = set3 _ _ _ _ _ c.requires }
