use mathlib.Core.Path.{refl}
use native.Mathlib.Omega.{arith}
use Rattle.read_operands.specs.Walk.{stack_of}
use Rattle.next_minterm.proofs.rooted.Goals as goal

pub returns : goal.returns
unfolding stack_of
returns c = (refl, omega arith)
